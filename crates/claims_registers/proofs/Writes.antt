-- Claims 55 to 58, from the laws of writes and of the wired controller. Assumes nothing.
use Prim.Native.Nat.{ℕ, ◌<◌}
use mathlib.Core.Path.{◌≡◌, refl, sym, ap, ◌∙◌}
use mathlib.Core.Bool.{Bool, true, false, true≢false, false≢true, or-false}
use mathlib.Core.List.{List}
use mathlib.Core.Logic.{◌≢◌}
use native.Mathlib.Omega.{arith}
use lib.Dec.{eqb}
use borrow.Author.Tests.{eqb-true}
use Rattle.words.specs.Bits.{has_bit}
use Rattle.words.specs.Parts.{field_of, packed}
use Rattle.words.specs.Sets.{member}
use Rattle.words.proofs.TestsLaws.{tested, beq_same, beq-differs, not_same}
use Rattle.source_mode.specs.Mode.{is_active}
use Rattle.source_target.specs.Target.{hart_of, guest_of, number_of, start_target, priority_of, receiver_of}
use Rattle.source_target.specs.Target.{kept_target}
use Rattle.domain_region.specs.declared.Word.TheVariants.{Sourcecfg}
use Rattle.source_target.proofs.TargetLaws.{hart_of-lt, guest_of-lt, number_of-lt}
use Rattle.source.specs.declared.Source.{Source}
use Rattle.source.specs.Pending.{settled, redelivered}
use Rattle.source.proofs.PendingLaws.{retargeted-inactive, retargeted-active}
use Rattle.domain.specs.Domain.{Domain, by_messages, with_domaincfg}
use Rattle.domain.specs.Slot.{source_at}
use Rattle.domain_laws.specs.Shape.{DomainShaped}
use Rattle.domain_laws.specs.Became.{Became}
use Rattle.domain_laws.proofs.SlotEffects.{with_source-back}
use Rattle.domain_laws.proofs.BecameEffects.{became-with_domaincfg, became-messages, touched-as}
use Rattle.domain_writes.specs.Writes.{target_written}
use Rattle.domain_domaincfg.specs.Domaincfg.{kept_domaincfg, domaincfg_written}
use Rattle.domain_domaincfg.proofs.DomaincfgLaws.{mode-same}
use Rattle.domain_writes_laws.specs.Named.{named}
use Rattle.domain_writes_laws.proofs.WritesEffects.{touched-word_changed, touched-number_changed}
use Rattle.domain_writes_laws.proofs.WritesEffects.{touched-target_written}
use Rattle.domain_writes_laws.proofs.DomaincfgEffects.{kept_domaincfg-messages, became-domaincfg_written}
use Rattle.domain_writes_laws.proofs.DomaincfgEffects.{by_messages-domaincfg_written}
use Rattle.domain_writes_laws.proofs.DomaincfgEffects.{is_enabled-domaincfg_written}
use Rattle.source_laws.proofs.ModeEffects.{active-level}
use Rattle.source_laws.proofs.TargetEffects.{kept_target-back}
use Rattle.wired_state.specs.Wires.{Wired}
use Rattle.wired_sourcecfg.specs.Delegation.{source_written}
use Rattle.wired_registers.specs.Wired.{written_in}
use Rattle.wired_registers.proofs.WiredLaws.{written-source}
use Rattle.wired_rules_laws.proofs.SoundParts.{wired-sound-steady}
use Rattle.wired_rules_laws.proofs.WiredSameEffects.{wire_set-same, delegated-again}
use Rattle.claims_registers.specs.Rules.{TargetStored}
use Rattle.claims_registers.specs.Writes.{DomainBecame, Restarted, TargetKept}
use Rattle.claims_registers.specs.Writes.{Claim-55, Claim-56, Claim-57, Claim-58}
use Rattle.claims_registers.proofs.SourceRules.{domaincfg-is, target-iff}

pub domain-became : {d d' : Domain} {w g : ℕ} {f : ℕ → Source → Source} → Became d d' w g f
    → DomainBecame d d' w g f
domain-became x =
    record {
      lengths = x.shaped;
      domaincfg = x.domaincfg;
      genmsi = x.genmsi;
      sources = λ j l h. x.source j l (omega arith);
      structures = x.structure;
      zero = (x.pending-zero, x.enable-zero);
    }

pub claim-55 : Claim-55
unfolding Claim-55 named
claim-55 d wires family v shaped = (
  λ k h. domain-became (touched-word_changed d wires family v shaped k h),
  domain-became (touched-number_changed d wires family v shaped),
)

-- ---- domaincfg

restarted : (m x : Bool) (s : Source) → Restarted m x s (redelivered s m x)
unfolding redelivered settled
restarted m x s =
    tested (is_active s.mode)
    (λ a. rw a record {
      inactive = λ f. absurd (not_same (is_active s.mode) a f);
      mode = refl;
      target = λ b. unfold start_target in refl;
      enabled = refl;
      other = λ l. simp (l, or-false);
      direct = λ l e. simp (l, e);
      messages = λ l e. simp (l, e, or-false);
    })
    (λ f. rw f record {
      inactive = λ b. refl;
      mode = refl;
      target = λ a. absurd (not_same (is_active s.mode) a f);
      enabled = refl;
      other = λ l. refl;
      direct = λ l e. absurd (not_same (is_active s.mode) (active-level s.mode l) f);
      messages = λ l e. absurd (not_same (is_active s.mode) (active-level s.mode l) f);
    })

module _ (d : Domain) (wires : List ℕ) (v : ℕ) (shaped : DomainShaped d) where
  same-mode : by_messages d ≡ has_bit v 2 → domaincfg_written d wires v ≡ with_domaincfg d (kept_domaincfg v)
  unfolding domaincfg_written
  same-mode e =
      let stored = with_domaincfg d (kept_domaincfg v) in
      let mode =
      became-messages (became-with_domaincfg d (kept_domaincfg v) shaped) ∙ kept_domaincfg-messages v in
      mode-same d wires stored (beq_same (by_messages d) (by_messages stored) (e ∙ sym mode))

  other-mode : by_messages d ≢ has_bit v 2
      → Became d (domaincfg_written d wires v) (kept_domaincfg v) 0
      (λ j s. redelivered s (has_bit v 2) (member wires j))
  other-mode n = rw (beq-differs (by_messages d) (has_bit v 2) n) at
      (became-domaincfg_written d wires v shaped)

pub claim-56 : Claim-56
unfolding Claim-56
claim-56 = (
  λ d wires v shaped. (
    is_enabled-domaincfg_written d wires v shaped,
    by_messages-domaincfg_written d wires v shaped,
    λ e. same-mode d wires v shaped e ∙ ap (with_domaincfg d) (domaincfg-is v),
    λ n. domain-became (rw (domaincfg-is v) at (other-mode d wires v shaped n)),
  ),
  restarted,
)

-- ---- what changes nothing

pub word-written : (w : Wired) (c : Bool) (i v : ℕ) → written_in w c (Sourcecfg i) v ≡ source_written w c i v
word-written w c i v = written-source w c (Sourcecfg i) v i refl

pub claim-57 : Claim-57
unfolding Claim-57
claim-57 w p i l h =
    let s = wired-sound-steady w p.1 p.0.0 p.0.1 p.0.2 in (
      wire_set-same w s i l (omega arith),
      λ v t b. word-written w false i v ∙ delegated-again w s i l (omega arith) v b t,
    )

-- ---- a target

-- a number below a hart, and one below a hart and a guest index
module _ (h n : ℕ) (l : h < 4) (u : n < 256) where
  number-packed : (hart_of (packed h 18 n) ≡ h) × (number_of (packed h 18 n) ≡ n)
  unfolding hart_of number_of packed field_of
  number-packed = (omega arith, omega arith)

  guest-packed : (g : ℕ) → g < 4 → (hart_of (packed h 18 (packed g 12 n)) ≡ h)
      × (number_of (packed h 18 (packed g 12 n)) ≡ n) × (guest_of (packed h 18 (packed g 12 n)) ≡ g)
  unfolding hart_of number_of guest_of packed field_of
  guest-packed g k = (omega arith, omega arith, omega arith)

priority-lt : (v : ℕ) → priority_of v < 256
unfolding priority_of
priority-lt v = tested (eqb (number_of v) 0) (λ t. rw t (omega arith)) (λ f. rw f (number_of-lt v))

module _ (v : ℕ) where
  stored-target : (c m : Bool) → TargetStored c m (kept_target c m v)
  stored-target c m = (target-iff c m (kept_target c m v)).0 (sym (kept_target-back c m v))

  kept_target_lem : (c m : Bool) → TargetKept c m v (kept_target c m v)
  unfolding kept_target receiver_of priority_of
  kept_target_lem true true =
      let parts = guest-packed (hart_of v) (number_of v) (hart_of-lt v) (number_of-lt v) (guest_of v)
      (guest_of-lt v) in
      record {
        stored = stored-target true true;
        hart = parts.0;
        priority = λ e. absurd (true≢false e);
        identity = λ e. parts.1;
        guest = λ e f. parts.2;
      }
  kept_target_lem false true =
      let parts = number-packed (hart_of v) (number_of v) (hart_of-lt v) (number_of-lt v) in
      record {
        stored = stored-target false true;
        hart = parts.0;
        priority = λ e. absurd (true≢false e);
        identity = λ e. parts.1;
        guest = λ e f. absurd (false≢true f);
      }
  kept_target_lem c false =
      let parts = number-packed (hart_of v) (priority_of v) (hart_of-lt v) (priority-lt v) in
      record {
        stored = stored-target c false;
        hart = parts.0;
        priority = λ e. parts.1;
        identity = λ e. absurd (false≢true e);
        guest = λ e f. absurd (false≢true e);
      }

pub claim-58 : Claim-58
unfolding Claim-58
claim-58 = (
  λ c d i v shaped l h. (
    λ f. unfold target_written in
        rw (retargeted-inactive (source_at d i) (by_messages d) c v f) (with_source-back d i),
    λ a. domain-became (touched-as (touched-target_written c d i v shaped l (omega arith)) _
        (λ j lj hj. tested (eqb i j)
        (λ t. rw t (retargeted-active (source_at d j) (by_messages d) c v
        (ap (λ (k : ℕ). is_active (source_at d k).mode) (sym (eqb-true i j t)) ∙ a)))
        (λ f. rw f))),
  ),
  λ c m v. kept_target_lem v c m,
)
