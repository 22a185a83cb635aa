-- A change that treats each source by itself keeps the rules of a domain if it keeps those of each source,
-- and so does one that replaces a delivery structure. No contract cites this file. Assumes nothing.
use Prim.Native.Nat.{ℕ, ◌≤◌, ◌<◌}
use mathlib.Core.Path.{◌≡◌, refl, sym, ap, ◌∙◌}
use mathlib.Core.Bool.{Bool, true, cond, ◌||◌}
use mathlib.Core.List.{List}
use mathlib.Core.Logic.{◌≢◌}
use native.Mathlib.Decide.{ℕ_discrete}
use native.Mathlib.Omega.{arith}
use lib.Dec.{eqb}
use borrow.Author.Tests.{eq-eqb, ne_eqb, eqb-true}
use Rattle.words.specs.Bits.{has_bit}
use Rattle.words.specs.Sets.{member}
use Rattle.domain_genmsi.specs.Genmsi.{kept_genmsi}
use Rattle.source.specs.declared.Source.{Source}
use Rattle.domain_delivery.specs.declared.Delivery.{Delivery}
use Rattle.domain_delivery.specs.Delivery.{delivery_sound}
use Rattle.domain.specs.Domain.{Domain, domaincfg_of, by_messages, genmsi_of}
use Rattle.domain.specs.Slot.{source_at, with_source}
use Rattle.domain.specs.Structure.{with_structure}
use Rattle.domain_laws.specs.Shape.{DomainShaped}
use Rattle.domain_laws.specs.Became.{Became, Touched}
use Rattle.domain_laws.proofs.BecameEffects.{became-messages}
use Rattle.domain_laws.proofs.BecameEffects.{touched-with_source}
use Rattle.domain_laws.proofs.OwnEffects as own
use Rattle.domain_laws.proofs.StructureEffects.{structure_at-with_structure-same}
use Rattle.domain_laws.proofs.StructureEffects.{structure_at-with_structure-other, source_at-with_structure}
use Rattle.domain_laws.proofs.StructureEffects.{shaped-with_structure}
use Rattle.domain_domaincfg.specs.Domaincfg.{kept_domaincfg}
use Rattle.source_rules.specs.SourceRules.{source_steady}
use Rattle.wired_rules.specs.Rules.{domaincfg_range, genmsi_range, structure_range, source_zero_rule}
use Rattle.wired_rules.specs.Rules.{genmsi_rule}
use Rattle.wired_rules_laws.specs.Steady.{Steady, DomainKept}

-- ---- the rules of a steady domain, as facts on numbers

module _ {c : Bool} {ws : List ℕ} {d : Domain} (s : Steady c ws d) where
  pub steady-domaincfg : domaincfg_of d ≡ kept_domaincfg (domaincfg_of d)
  unfolding domaincfg_range
  steady-domaincfg = eqb-true (domaincfg_of d) (kept_domaincfg (domaincfg_of d)) s.domaincfg

  pub steady-genmsi : genmsi_of d ≡ kept_genmsi (genmsi_of d)
  unfolding genmsi_range
  steady-genmsi = eqb-true (genmsi_of d) (kept_genmsi (genmsi_of d)) s.genmsi-range

-- ---- a change that treats each source by itself

module _ (c : Bool) (ws ws' : List ℕ) (d : Domain) (s : Steady c ws d) where
  -- where domaincfg becomes w and genmsi g
  pub steady-became : {d' : Domain} {w g : ℕ} {f : ℕ → Source → Source} → Became d d' w g f
      → w ≡ kept_domaincfg w → g ≡ kept_genmsi g → (has_bit w 2 || eqb g 0) ≡ true
      → ((i : ℕ) → 1 ≤ i → i < 64
      → source_steady c (has_bit w 2) (member ws' i) (f i (source_at d i)) ≡ true)
      → Steady c ws' d'
  unfolding domaincfg_range genmsi_range genmsi_rule structure_range source_zero_rule
  steady-became {d'} {w} {g} {f} b ew eg rule keeps =
      let mode = became-messages b in
      record {
        shaped = b.shaped;
        domaincfg = rw b.domaincfg (eq-eqb w (kept_domaincfg w) ew);
        genmsi-range = rw b.genmsi (eq-eqb g (kept_genmsi g) eg);
        genmsi = rw (mode, b.genmsi) rule;
        structures = λ h q. rw (b.structure h) (s.structures h q);
        pending-zero = rw b.pending-zero s.pending-zero;
        enable-zero = rw b.enable-zero s.enable-zero;
        source = λ i l h. rw (mode, b.source i l h) (keeps i l h);
      }

  -- where they stay
  pub steady-touched : {d' : Domain} {f : ℕ → Source → Source} → Touched d d' f
      → ((i : ℕ) → 1 ≤ i → i < 64
      → source_steady c (by_messages d) (member ws' i) (f i (source_at d i)) ≡ true)
      → Steady c ws' d'
  unfolding by_messages genmsi_rule
  steady-touched t keeps = steady-became t (steady-domaincfg s) (steady-genmsi s) s.genmsi keeps

-- what becomes of each source keeps its sourcecfg word
pub became-modes : {d d' : Domain} {w g : ℕ} {f : ℕ → Source → Source} → Became d d' w g f
    → ((i : ℕ) → 1 ≤ i → i < 64 → (f i (source_at d i)).mode ≡ (source_at d i).mode)
    → (i : ℕ) → 1 ≤ i → i < 64 → (source_at d' i).mode ≡ (source_at d i).mode
became-modes b same i l h = ap (λ (x : Source). x.mode) (b.source i l h) ∙ same i l h

-- nothing changed
pub kept-none : (c : Bool) (ws : List ℕ) (d : Domain) → Steady c ws d → DomainKept c ws d d
kept-none c ws d s = record { steady = s; modes = λ i l h. refl }

-- ---- one source replaced

module _ (c : Bool) (ws ws' : List ℕ) (d : Domain) (s : Steady c ws d) (i : ℕ) (x : Source) where
  replaced : source_steady c (by_messages d) (member ws' i) x ≡ true
      → ((j : ℕ) → j ≢ i → member ws' j ≡ member ws j) → (j : ℕ) → 1 ≤ j → j < 64 → Dec (i ≡ j)
      → source_steady c (by_messages d) (member ws' j) (cond (eqb i j) x (source_at d j)) ≡ true
  replaced e same j l h (yes q) = rw (eq-eqb i j q, ← q) e
  replaced e same j l h (no n) = rw (ne_eqb i j n, same j (λ q. n (sym q))) (s.source j l h)

  -- where at most the wire of source i changed
  pub steady-replaced : 1 ≤ i → i < 64 → source_steady c (by_messages d) (member ws' i) x ≡ true
      → ((j : ℕ) → j ≢ i → member ws' j ≡ member ws j) → Steady c ws' (with_source d i x)
  steady-replaced l h e same =
      steady-touched c ws ws' d s (touched-with_source d i (λ j _. x) s.shaped l h)
      (λ j lj hj. replaced e same j lj hj (ℕ_discrete i j))

module _ (d : Domain) (i : ℕ) (x : Source) (same : x.mode ≡ (source_at d i).mode) where
  modes-at : (j : ℕ) → Dec (i ≡ j) → (cond (eqb i j) x (source_at d j)).mode ≡ (source_at d j).mode
  modes-at j (yes q) = rw (eq-eqb i j q, ← q) same
  modes-at j (no n) = rw (ne_eqb i j n)

  pub modes-replaced : DomainShaped d → 1 ≤ i → i < 64
      → (j : ℕ) → 1 ≤ j → j < 64 → (source_at (with_source d i x) j).mode ≡ (source_at d j).mode
  modes-replaced shaped l h =
      became-modes (touched-with_source d i (λ j _. x) shaped l h) (λ j _ _. modes-at j (ℕ_discrete i j))

module _ (c : Bool) (ws : List ℕ) (d : Domain) (s : Steady c ws d) (i : ℕ) (x : Source) where
  pub steady-with_source : 1 ≤ i → i < 64 → source_steady c (by_messages d) (member ws i) x ≡ true
      → Steady c ws (with_source d i x)
  steady-with_source l h e = steady-replaced c ws ws d s i x l h e (λ j n. refl)

  pub kept-with_source : 1 ≤ i → i < 64 → source_steady c (by_messages d) (member ws i) x ≡ true
      → x.mode ≡ (source_at d i).mode → DomainKept c ws d (with_source d i x)
  kept-with_source l h e same =
      record { steady = steady-with_source l h e; modes = modes-replaced d i x same s.shaped l h }

-- ---- a delivery structure replaced

module _ (c : Bool) (ws : List ℕ) (d : Domain) (s : Steady c ws d) (h : ℕ) (x : Delivery) where
  structure-at : (h < 4 → delivery_sound x ≡ true) → (g : ℕ) → g < 4 → Dec (g ≡ h)
      → structure_range (with_structure d h x) g ≡ true
  unfolding structure_range
  structure-at e g q (yes y) =
      let l : h < 4 = omega arith in rw (y, structure_at-with_structure-same d h x s.shaped l) (e l)
  structure-at e g q (no n) = rw (structure_at-with_structure-other d h x g n) (s.structures g q)

  pub kept-with_structure : (h < 4 → delivery_sound x ≡ true) → DomainKept c ws d (with_structure d h x)
  unfolding domaincfg_range genmsi_range genmsi_rule
  kept-with_structure e =
      let domaincfg = own.domaincfg_of-with_structure d h x in
      let genmsi = own.genmsi_of-with_structure d h x in
      let mode = own.by_messages-with_structure d h x in
      record {
        steady =
            record {
              shaped = shaped-with_structure d h x s.shaped;
              domaincfg = rw domaincfg s.domaincfg;
              genmsi-range = rw genmsi s.genmsi-range;
              genmsi = rw (mode, genmsi) s.genmsi;
              structures = λ g q. structure-at e g q (ℕ_discrete g h);
              pending-zero = unfold with_structure in s.pending-zero;
              enable-zero = unfold with_structure in s.enable-zero;
              source = λ i a b. rw (mode, source_at-with_structure d h x i) (s.source i a b);
            };
        modes = λ i a b. ap (λ (y : Source). y.mode) (source_at-with_structure d h x i);
      }
