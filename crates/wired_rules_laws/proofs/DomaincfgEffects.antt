-- A write to domaincfg or genmsi keeps the rules of a domain, and so does one to a settable number of a
-- delivery structure. No contract cites this file. Assumes nothing.
use Prim.Native.Nat.{ℕ, ◌≤◌, ◌<◌}
use mathlib.Core.Path.{◌≡◌, refl, sym, ◌∙◌}
use mathlib.Core.Bool.{Bool, true, false, cond, ◌||◌, or-true}
use mathlib.Core.List.{List}
use native.Mathlib.Omega.{arith}
use lib.Dec.{eqb}
use Rattle.words.specs.Bits.{has_bit}
use Rattle.words.specs.Parts.{field_of, packed}
use Rattle.words.specs.Sets.{member}
use Rattle.words.proofs.TestsLaws.{tested, beq-true}
use Rattle.source_target.specs.Target.{hart_of, number_of, receiver_of, kept_target}
use Rattle.domain_genmsi.specs.Genmsi.{kept_genmsi}
use Rattle.source.specs.declared.Source.{Source}
use Rattle.source.specs.Pending.{redelivered}
use Rattle.domain_delivery.specs.declared.Delivery.{Delivery}
use Rattle.domain_delivery.specs.Delivery.{delivery_sound}
use Rattle.domain_delivery.proofs.DeliveryLaws.{idelivery-keeps, iforce-keeps, ithreshold-keeps}
use Rattle.domain.specs.Domain.{Domain, domaincfg_of, by_messages, genmsi_of}
use Rattle.domain.specs.Slot.{source_at}
use Rattle.domain.specs.Structure.{structure_at}
use Rattle.domain_domaincfg.specs.Domaincfg.{kept_domaincfg, domaincfg_written}
use Rattle.domain_genmsi.specs.Genmsi.{genmsi_written}
use Rattle.domain_writes_laws.specs.Named.{keeps_mode}
use Rattle.domain_writes_laws.proofs.DomaincfgEffects.{kept_domaincfg-messages, became-domaincfg_written}
use Rattle.domain_writes_laws.proofs.DomaincfgEffects.{became-genmsi_written}
use Rattle.domain_direct.specs.declared.Setting.{Setting}
use Rattle.domain_direct.specs.declared.Setting.TheVariants.{Idelivery, Iforce, Ithreshold}
use Rattle.domain_direct.specs.Direct.{written_at, setting_written}
use Rattle.domain_direct.proofs.DirectLaws.{written-messages, written-direct}
use Rattle.source_rules.specs.SourceRules.{source_steady}
use Rattle.source_laws.proofs.TargetEffects.{kept_target-back}
use Rattle.source_laws.proofs.SteadyEffects.{steady-redelivered}
use Rattle.wired_rules.specs.Rules.{structure_range, genmsi_rule}
use Rattle.wired_rules_laws.specs.Steady.{Steady, DomainKept, Quiet}
use Rattle.wired_rules_laws.proofs.ModeEffects.{redelivered-mode}
use Rattle.wired_rules_laws.proofs.SteadyEffects.{steady-became, steady-domaincfg, steady-genmsi}
use Rattle.wired_rules_laws.proofs.SteadyEffects.{became-modes, kept-none, kept-with_structure}
use Rattle.wired_rules_laws.proofs.QuietEffects.{quiet-became}

-- ---- what is stored of domaincfg

pub kept_domaincfg-back : (v : ℕ) → kept_domaincfg (kept_domaincfg v) ≡ kept_domaincfg v
unfolding kept_domaincfg packed field_of
kept_domaincfg-back v = omega arith

kept_domaincfg-lt : (v : ℕ) → kept_domaincfg v < 0x80000000
unfolding kept_domaincfg packed field_of
kept_domaincfg-lt v = omega arith

-- a stored domaincfg leaves bits 31:24 free, which read 0x80
pub domaincfg-low : {c : Bool} {ws : List ℕ} {d : Domain} → Steady c ws d → domaincfg_of d < 0x80000000
domaincfg-low {d = d} s = omega (arith, steady-domaincfg s, kept_domaincfg-lt (domaincfg_of d))

kept_genmsi-back : (v : ℕ) → kept_genmsi (kept_genmsi v) ≡ kept_genmsi v
unfolding kept_genmsi kept_target receiver_of
kept_genmsi-back v = kept_target-back false true v

kept_genmsi-zero : kept_genmsi 0 ≡ 0
unfolding kept_genmsi hart_of number_of packed field_of
kept_genmsi-zero = refl

-- ---- a write to domaincfg

module _ (c : Bool) (ws : List ℕ) (d : Domain) (s : Steady c ws d) (v : ℕ) where
  -- what it makes of genmsi and of source i
  abbrev genmsi : ℕ
  genmsi = cond (keeps_mode d v) (genmsi_of d) 0

  abbrev settled_as : ℕ → Source → Source
  settled_as j x = cond (keeps_mode d v) x (redelivered x (has_bit v 2) (member ws j))

  -- a mode that stays is the mode that the word stored has
  mode-stays : keeps_mode d v ≡ true → by_messages d ≡ has_bit (kept_domaincfg v) 2
  mode-stays t = beq-true (by_messages d) (has_bit v 2) t ∙ sym (kept_domaincfg-messages v)

  genmsi-range : genmsi ≡ kept_genmsi genmsi
  genmsi-range =
      tested (keeps_mode d v) (λ t. rw t (steady-genmsi s)) (λ f. rw f (sym kept_genmsi-zero))

  genmsi-rule : (has_bit (kept_domaincfg v) 2 || eqb genmsi 0) ≡ true
  unfolding genmsi_rule
  genmsi-rule =
      tested (keeps_mode d v) (λ t. rw (t, ← mode-stays t) s.genmsi)
      (λ f. rw f (or-true (has_bit (kept_domaincfg v) 2)))

  source_stays : (i : ℕ) → 1 ≤ i → i < 64
      → source_steady c (has_bit (kept_domaincfg v) 2) (member ws i) (settled_as i (source_at d i)) ≡ true
  source_stays i l h =
      tested (keeps_mode d v) (λ t. rw (t, ← mode-stays t) (s.source i l h))
      (λ f. rw (f, kept_domaincfg-messages v)
      (steady-redelivered c (by_messages d) (member ws i) (source_at d i) (s.source i l h) (has_bit v 2)))

  pub kept-domaincfg_written : DomainKept c ws d (domaincfg_written d ws v)
  kept-domaincfg_written =
      let became = became-domaincfg_written d ws v s.shaped in
      record {
        steady =
            steady-became c ws ws d s became
            (sym (kept_domaincfg-back v)) genmsi-range genmsi-rule source_stays;
        modes =
            became-modes became
            (λ i l h. tested (keeps_mode d v) (λ t. rw t)
            (λ f. rw f (redelivered-mode (source_at d i) (has_bit v 2) (member ws i))));
      }

-- ---- a write to genmsi

module _ (c : Bool) (ws : List ℕ) (d : Domain) (s : Steady c ws d) (v : ℕ) where
  abbrev genmsi-after : ℕ
  genmsi-after = cond (by_messages d) (kept_genmsi v) (genmsi_of d)

  genmsi-after-kept : genmsi-after ≡ kept_genmsi genmsi-after
  genmsi-after-kept =
      tested (by_messages d) (λ t. rw t (sym (kept_genmsi-back v))) (λ f. rw f (steady-genmsi s))

  genmsi-after-rule : (has_bit (domaincfg_of d) 2 || eqb genmsi-after 0) ≡ true
  unfolding by_messages genmsi_rule
  genmsi-after-rule = tested (by_messages d) (λ t. rw t) (λ f. rw f (rw f at s.genmsi))

  pub kept-genmsi_written : DomainKept c ws d (genmsi_written d v)
  unfolding by_messages
  kept-genmsi_written =
      let became = became-genmsi_written d v s.shaped in
      record {
        steady =
            steady-became c ws ws d s became (steady-domaincfg s) genmsi-after-kept genmsi-after-rule
            s.source;
        modes = became-modes became (λ i l h. refl);
      }

  -- it leaves nothing new to send
  pub quiet-genmsi_written : Quiet d → Quiet (genmsi_written d v)
  quiet-genmsi_written q = quiet-became (became-genmsi_written d v s.shaped) q

-- ---- a write to a settable number

sound-written_at : (x : Delivery) → delivery_sound x ≡ true
    → (g : Setting) (v : ℕ) → delivery_sound (written_at x g v) ≡ true
unfolding written_at
sound-written_at x e Idelivery v = idelivery-keeps x e v
sound-written_at x e Iforce v = iforce-keeps x e v
sound-written_at x e Ithreshold v = ithreshold-keeps x e v

pub kept-setting_written : (c : Bool) (ws : List ℕ) (d : Domain) → Steady c ws d
    → (h : ℕ) → h < 4 → (g : Setting) (v : ℕ) → DomainKept c ws d (setting_written d h g v)
unfolding structure_range
kept-setting_written c ws d s h l g v =
    let sound = sound-written_at (structure_at d h) (s.structures h l) g v in
    tested (by_messages d) (λ t. rw (written-messages d h g v t) (kept-none c ws d s))
    (λ f. rw (written-direct d h g v f)
    (kept-with_structure c ws d s h (written_at (structure_at d h) g v) (λ _. sound)))
