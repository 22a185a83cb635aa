-- Claims 94 and 95, case by case. Assumes nothing.
use Prim.Native.Nat.{ℕ, ◌<◌}
use mathlib.Core.Path.{◌≡◌, refl, sym, ap, ◌∙◌}
use mathlib.Core.Bool.{false, beq, ◌||◌}
use mathlib.Core.Logic.{◌≢◌}
use native.Mathlib.Omega.{arith}
use lib.Dec.{eqb, leb}
use borrow.Author.Tests.{lt-leb, le-leb, leb-true}
use Rattle.words.specs.Bits.{has_bit}
use Rattle.words.specs.Parts.{field_of}
use Rattle.words.proofs.PartsLaws.{field_of-lt}
use Rattle.words.proofs.TestsLaws.{tested, beq_same, beq-differs}
use Rattle.source_mode.specs.Mode.{is_active, kept_mode, source_word}
use Rattle.source_mode.proofs.ModeLaws.{word-delegated, word-machine}
use Rattle.source_target.specs.Target.{start_target}
use Rattle.source.specs.Pending.{inactive, settled, moded}
use Rattle.domain.specs.Domain.{Domain}
use Rattle.domain.specs.Slot.{source_at}
use Rattle.domain_region.specs.declared.Word.TheVariants.{Sourcecfg}
use Rattle.domain_laws.specs.Shape.{DomainShaped}
use Rattle.domain_laws.proofs.SlotEffects.{source_at-with_source-same, source_at-with_source-other}
use Rattle.wired_state.specs.Wires.{Wired, is_delegated}
use Rattle.wired_sourcecfg.proofs.DelegationLaws.{machine-stays, machine-moves}
use Rattle.wired_registers.specs.Wired.{written_in, written_as}
use Rattle.wired_sourcecfg.specs.Delegation.{source_written}
use Rattle.claims_registers.specs.Modes.{Claim-94, Claim-95}

-- ---- the source

pub claim-94 : Claim-94
unfolding Claim-94 moded settled start_target
claim-94 m wire s v =
    let was = is_active s.mode in
    record {
      mode = tested (is_active v) (λ a. tested was (λ t. simp (a, t)) (λ f. simp (a, f))) (λ n. simp n);
      off = λ n. simp n (refl, refl, refl);
      on = λ a f. simp (a, f) (refl, refl);
      kept = λ a t. simp (a, t) (refl, refl);
      edge = λ a l. tested was (λ t. simp (a, t, l)) (λ f. simp (a, f, l));
      direct = λ a l d. tested was (λ t. simp (a, t, l, d)) (λ f. simp (a, f, l, d));
      messages = λ a l d. tested was (λ t. simp (a, t, l, d)) (λ f. simp (a, f, l, d));
    }

-- ---- the child

kept_small : (v : ℕ) → kept_mode v < 8
unfolding kept_mode
kept_small v =
    tested (eqb (field_of v 0 3) 2 || eqb (field_of v 0 3) 3) (λ t. rw t (omega arith))
    (λ f. rw f (field_of-lt v 0 3))

-- a word of the machine domain delegates exactly if bit 10 was written
delegates : (v : ℕ) → leb 1024 (source_word false false v) ≡ has_bit v 10
delegates v =
    tested (has_bit v 10)
    (λ t. ap (leb 1024) (word-delegated v false false refl t) ∙ sym t)
    (λ f. lt-leb 1024 (source_word false false v)
    (omega (arith, word-machine v false false refl f, kept_small v)) ∙ sym f)

child-after : (w : Wired) (i v : ℕ) → DomainShaped w.child → i < 64
    → let now = has_bit v 10 in
    let after = (written_in w false (Sourcecfg i) v).child in
    (is_delegated w i ≡ now → after ≡ w.child)
    × (is_delegated w i ≢ now
    → source_at after i
    ≡ record { mode = 0; target = 0; pending = false; enabled = false })
    × ((j : ℕ) → j ≢ i → source_at after j ≡ source_at w.child j)
unfolding written_in written_as source_written
child-after w i v shaped h =
    let word = leb 1024 (source_word false false v) in
    let child : Wired → Domain = λ x. x.child in (
      (λ e. ap child (machine-stays w i v (beq_same (is_delegated w i) word (e ∙ sym (delegates v))))),
      (λ n. ap (λ (x : Wired). source_at x.child i)
          (machine-moves w i v (beq-differs (is_delegated w i) word (λ e. n (e ∙ delegates v))))
          ∙ source_at-with_source-same w.child i (inactive 0) shaped h),
      (λ j d. tested (beq (is_delegated w i) word)
          (λ t. ap (λ (x : Wired). source_at x.child j) (machine-stays w i v t))
          (λ f. ap (λ (x : Wired). source_at x.child j) (machine-moves w i v f)
          ∙ source_at-with_source-other w.child i (inactive 0) j d)),
    )

pub claim-95 : Claim-95
unfolding Claim-95 is_delegated
claim-95 = (
  child-after,
  (λ w i. (
    (λ e. leb-true 1024 (source_at w.machine i).mode e),
    (λ h. le-leb 1024 (source_at w.machine i).mode h),
  )),
)
