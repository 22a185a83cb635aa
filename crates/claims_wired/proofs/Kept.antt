-- What a change of a domain keeps, from the laws of writes: the rows of the table of Claim-155. Assumes
-- nothing.
use Prim.Native.Nat.{ℕ, ◌≤◌, ◌<◌}
use mathlib.Core.Path.{◌≡◌, refl, sym, ap, ◌∙◌}
use mathlib.Core.Bool.{Bool, true, false, beq, cond, not, true≢false}
use mathlib.Core.List.{List}
use native.Mathlib.Decide.{ℕ_discrete}
use native.Mathlib.Omega.{arith}
use lib.Dec.{eqb}
use Rattle.words.specs.Bits.{has_bit}
use Rattle.words.specs.Sets.{member}
use Rattle.words.proofs.TestsLaws.{tested}
use Rattle.source_mode.specs.Mode.{is_active}
use Rattle.source.specs.declared.Source.{Source}
use Rattle.source.specs.declared.Change.TheVariants.{Pend, Clear, Enable, Disable}
use Rattle.source.specs.Pending.{settled, pended, cleared, switched, changed, redelivered, retargeted}
use Rattle.domain_delivery.specs.declared.Delivery.{Delivery}
use Rattle.domain.specs.Domain.{Domain, domaincfg_of, by_messages, genmsi_of}
use Rattle.domain.specs.Slot.{source_at}
use Rattle.domain.specs.Structure.{structure_at, with_structure}
use Rattle.domain_laws.specs.Shape.{DomainShaped}
use Rattle.domain_laws.specs.Became.{Became, Touched}
use Rattle.domain_laws.proofs.OwnEffects.{domaincfg_of-with_structure, genmsi_of-with_structure}
use Rattle.domain_laws.proofs.StructureEffects.{structure_at-with_structure-same}
use Rattle.domain_laws.proofs.StructureEffects.{structure_at-with_structure-other, source_at-with_structure}
use Rattle.domain_writes.specs.Writes.{target_written}
use Rattle.domain_domaincfg.specs.Domaincfg.{domaincfg_written}
use Rattle.domain_genmsi.specs.Genmsi.{genmsi_written}
use Rattle.domain_writes_laws.specs.Named.{changing, keeps_mode}
use Rattle.domain_writes_laws.proofs.WritesEffects.{touched-target_written}
use Rattle.domain_writes_laws.proofs.DomaincfgEffects.{became-domaincfg_written, became-genmsi_written}
use Rattle.wired_rules_laws.proofs.ModeEffects.{changed-mode, redelivered-mode, retargeted-mode}
use Rattle.claims_wired.specs.Kept.{Touch, none, sources, configures, generates, Spares}

-- ---- what a change of sources keeps

-- what is not touched is as it was; where it is touched or not, a part that the change keeps
module _ {A : Type 0} (part : Source → A) (q : Bool) (s s' : Source) where
  pub out : q ≡ false → part (cond q s' s) ≡ part s
  out e = rw e

  pub keep : part s' ≡ part s → part (cond q s' s) ≡ part s
  keep e = tested q (λ t. rw t e) (λ f. rw f)

abbrev pub pending_of : Source → Bool
pending_of s = s.pending

abbrev pub enabled_of : Source → Bool
enabled_of s = s.enabled

abbrev pub target_of : Source → ℕ
target_of s = s.target

abbrev pub mode_of : Source → ℕ
mode_of s = s.mode

pub kept_same : (t : Touch) (d : Domain) → Spares t d d
kept_same t d =
    record {
      pending = λ i l h e. refl;
      enabled = λ i l h e. refl;
      target = λ i l h e. refl;
      mode = λ i l h e. refl;
      domaincfg = λ e. refl;
      genmsi = λ e. refl;
      idelivery = λ h l e. refl;
      iforce = λ h l e. refl;
      ithreshold = λ h l e. refl;
    }

module _ {d d' : Domain} {w g : ℕ} {f : ℕ → Source → Source} (x : Became d d' w g f) (t : Touch) where
  pub kept-became :
      ((j : ℕ) → t.pending j ≡ false → (f j (source_at d j)).pending ≡ (source_at d j).pending)
      → ((j : ℕ) → t.enabled j ≡ false → (f j (source_at d j)).enabled ≡ (source_at d j).enabled)
      → ((j : ℕ) → t.target j ≡ false → (f j (source_at d j)).target ≡ (source_at d j).target)
      → ((j : ℕ) → t.mode j ≡ false → (f j (source_at d j)).mode ≡ (source_at d j).mode)
      → (t.domaincfg ≡ false → w ≡ domaincfg_of d) → (t.genmsi ≡ false → g ≡ genmsi_of d) → Spares t d d'
  kept-became p e r m c v =
      record {
        pending = λ i l h q. ap pending_of (x.source i l (omega arith)) ∙ p i q;
        enabled = λ i l h q. ap enabled_of (x.source i l (omega arith)) ∙ e i q;
        target = λ i l h q. ap target_of (x.source i l (omega arith)) ∙ r i q;
        mode = λ i l h q. ap mode_of (x.source i l (omega arith)) ∙ m i q;
        domaincfg = λ q. x.domaincfg ∙ c q;
        genmsi = λ q. x.genmsi ∙ v q;
        idelivery = λ h l q. ap (λ (y : Delivery). y.idelivery) (x.structure h);
        iforce = λ h l q. ap (λ (y : Delivery). y.iforce) (x.structure h);
        ithreshold = λ h l q. ap (λ (y : Delivery). y.ithreshold) (x.structure h);
      }

-- the sources of q as g makes them
module _ {d d' : Domain} (q : ℕ → Bool) (g : ℕ → Source → Source)
    (x : Touched d d' (λ j s. cond (q j) (g j s) s)) where
  pub kept-pendings : ((j : ℕ) (s : Source) → (g j s).enabled ≡ s.enabled)
      → ((j : ℕ) (s : Source) → (g j s).target ≡ s.target) → ((j : ℕ) (s : Source) → (g j s).mode ≡ s.mode)
      → Spares (sources q none none none) d d'
  kept-pendings e t m =
      kept-became x (sources q none none none) (λ j. out pending_of (q j) _ _)
      (λ j n. keep enabled_of (q j) _ _ (e j _)) (λ j n. keep target_of (q j) _ _ (t j _))
      (λ j n. keep mode_of (q j) _ _ (m j _)) (λ n. refl) (λ n. refl)

  kept-enables : ((j : ℕ) (s : Source) → (g j s).pending ≡ s.pending)
      → ((j : ℕ) (s : Source) → (g j s).target ≡ s.target) → ((j : ℕ) (s : Source) → (g j s).mode ≡ s.mode)
      → Spares (sources none q none none) d d'
  kept-enables p t m =
      kept-became x (sources none q none none) (λ j n. keep pending_of (q j) _ _ (p j _))
      (λ j. out enabled_of (q j) _ _) (λ j n. keep target_of (q j) _ _ (t j _))
      (λ j n. keep mode_of (q j) _ _ (m j _)) (λ n. refl) (λ n. refl)

  kept-targets : ((j : ℕ) (s : Source) → (g j s).pending ≡ s.pending)
      → ((j : ℕ) (s : Source) → (g j s).enabled ≡ s.enabled) → ((j : ℕ) (s : Source) → (g j s).mode ≡ s.mode)
      → Spares (sources none none q none) d d'
  kept-targets p e m =
      kept-became x (sources none none q none) (λ j n. keep pending_of (q j) _ _ (p j _))
      (λ j n. keep enabled_of (q j) _ _ (e j _)) (λ j. out target_of (q j) _ _)
      (λ j n. keep mode_of (q j) _ _ (m j _)) (λ n. refl) (λ n. refl)

  pub kept-wholes : Spares (sources q q q q) d d'
  kept-wholes =
      kept-became x (sources q q q q) (λ j. out pending_of (q j) _ _) (λ j. out enabled_of (q j) _ _)
      (λ j. out target_of (q j) _ _) (λ j. out mode_of (q j) _ _) (λ n. refl) (λ n. refl)

-- ---- one source, by what is done to it

module _ (s : Source) (m x : Bool) where
  pended-enabled : (pended s m x).enabled ≡ s.enabled
  unfolding pended
  pended-enabled = tested (is_active s.mode) (λ t. rw t) (λ f. rw f)

  pended-target : (pended s m x).target ≡ s.target
  unfolding pended
  pended-target = tested (is_active s.mode) (λ t. rw t) (λ f. rw f)

  switched-pending : (switched s x).pending ≡ s.pending
  unfolding switched
  switched-pending = tested (is_active s.mode) (λ t. rw t) (λ f. rw f)

  switched-target : (switched s x).target ≡ s.target
  unfolding switched
  switched-target = tested (is_active s.mode) (λ t. rw t) (λ f. rw f)

  redelivered-enabled : (redelivered s m x).enabled ≡ s.enabled
  unfolding redelivered settled
  redelivered-enabled = tested (is_active s.mode) (λ t. rw t) (λ f. rw f)

module _ (s : Source) (c m : Bool) (v : ℕ) where
  retargeted-pending : (retargeted s c m v).pending ≡ s.pending
  unfolding retargeted
  retargeted-pending = tested (is_active s.mode) (λ t. rw t) (λ f. rw f)

  retargeted-enabled : (retargeted s c m v).enabled ≡ s.enabled
  unfolding retargeted
  retargeted-enabled = tested (is_active s.mode) (λ t. rw t) (λ f. rw f)

-- ---- the families of writes: setip, in_clrip, setie, clrie

module _ (d : Domain) {d' : Domain} (ws : List ℕ) (q : ℕ → Bool) where
  pub kept-pend : Touched d d' (changing d ws Pend q) → Spares (sources q none none none) d d'
  unfolding changed
  kept-pend x =
      let m = by_messages d in
      kept-pendings q (λ j s. pended s m (member ws j)) x (λ j s. pended-enabled s m (member ws j))
      (λ j s. pended-target s m (member ws j)) (λ j s. changed-mode s Pend m (member ws j))

  pub kept-clear : Touched d d' (changing d ws Clear q) → Spares (sources q none none none) d d'
  unfolding changed cleared
  kept-clear x =
      kept-pendings q (λ j s. cleared s (by_messages d)) x (λ j s. refl) (λ j s. refl) (λ j s. refl)

  pub kept-enable : Touched d d' (changing d ws Enable q) → Spares (sources none q none none) d d'
  unfolding changed
  kept-enable x =
      let m = by_messages d in
      kept-enables q (λ j s. switched s true) x (λ j s. switched-pending s m true)
      (λ j s. switched-target s m true) (λ j s. changed-mode s Enable m (member ws j))

  pub kept-disable : Touched d d' (changing d ws Disable q) → Spares (sources none q none none) d d'
  unfolding changed
  kept-disable x =
      let m = by_messages d in
      kept-enables q (λ j s. switched s false) x (λ j s. switched-pending s m false)
      (λ j s. switched-target s m false) (λ j s. changed-mode s Disable m (member ws j))

-- ---- domaincfg, genmsi, a target

not-false : (b : Bool) → not b ≡ false → b ≡ true
not-false true e = refl
not-false false e = absurd (true≢false e)

module _ (d : Domain) (shaped : DomainShaped d) where
  pub kept-domaincfg : (ws : List ℕ) (v : ℕ)
      → Spares (configures (not (beq (by_messages d) (has_bit v 2)))) d (domaincfg_written d ws v)
  kept-domaincfg ws v =
      let same = keeps_mode d v in
      kept-became (became-domaincfg_written d ws v shaped) (configures (not same))
      (λ j n. rw (not-false same n))
      (λ j n. tested same (λ t. rw t)
      (λ f. rw f (redelivered-enabled (source_at d j) (has_bit v 2) (member ws j))))
      (λ j n. rw (not-false same n))
      (λ j n. tested same (λ t. rw t)
      (λ f. rw f (redelivered-mode (source_at d j) (has_bit v 2) (member ws j))))
      (λ n. absurd (true≢false n)) (λ n. rw (not-false same n))

  pub kept-genmsi : (v : ℕ) → Spares (generates (by_messages d)) d (genmsi_written d v)
  kept-genmsi v =
      kept-became (became-genmsi_written d v shaped) (generates (by_messages d)) (λ j n. refl) (λ j n. refl)
      (λ j n. refl) (λ j n. refl) (λ n. refl) (λ n. rw n)

  pub kept_target : (c : Bool) (i v : ℕ) → 1 ≤ i → i ≤ 63
      → Spares (sources none none (eqb i) none) d (target_written c d i v)
  kept_target c i v l h =
      kept-targets (eqb i) (λ j s. retargeted s c (by_messages d) v)
      (touched-target_written c d i v shaped l (omega arith))
      (λ j s. retargeted-pending s c (by_messages d) v)
      (λ j s. retargeted-enabled s c (by_messages d) v) (λ j s. retargeted-mode s c (by_messages d) v)

  -- ---- a delivery structure

  module _ (h : ℕ) (x : Delivery) (t : Touch) where
    numbers : {A : Type 0} (part : Delivery → A) (q : ℕ → Bool)
        → (q h ≡ false → part x ≡ part (structure_at d h)) → (g : ℕ) → g < 4 → q g ≡ false
        → part (structure_at (with_structure d h x) g) ≡ part (structure_at d g)
    numbers part q own g l e = at (ℕ_discrete g h)
      where
        at : Dec (g ≡ h) → part (structure_at (with_structure d h x) g) ≡ part (structure_at d g)
        at (yes z) =
            ap (λ (k : ℕ). part (structure_at (with_structure d h x) k)) z
            ∙ ap part (structure_at-with_structure-same d h x shaped (omega arith)) ∙ own (ap q (sym z) ∙ e)
            ∙ ap (λ (k : ℕ). part (structure_at d k)) (sym z)
        at (no n) = ap part (structure_at-with_structure-other d h x g n)

    pub kept-structure : (t.idelivery h ≡ false → x.idelivery ≡ (structure_at d h).idelivery)
        → (t.iforce h ≡ false → x.iforce ≡ (structure_at d h).iforce)
        → (t.ithreshold h ≡ false → x.ithreshold ≡ (structure_at d h).ithreshold)
        → Spares t d (with_structure d h x)
    kept-structure a b c =
        record {
          pending = λ i l u e. ap pending_of (source_at-with_structure d h x i);
          enabled = λ i l u e. ap enabled_of (source_at-with_structure d h x i);
          target = λ i l u e. ap target_of (source_at-with_structure d h x i);
          mode = λ i l u e. ap mode_of (source_at-with_structure d h x i);
          domaincfg = λ e. domaincfg_of-with_structure d h x;
          genmsi = λ e. genmsi_of-with_structure d h x;
          idelivery = λ g l e. numbers (λ (y : Delivery). y.idelivery) t.idelivery a g l e;
          iforce = λ g l e. numbers (λ (y : Delivery). y.iforce) t.iforce b g l e;
          ithreshold = λ g l e. numbers (λ (y : Delivery). y.ithreshold) t.ithreshold c g l e;
        }
