-- A set with a number put as it was is the set, and a number that is in a set has its word there. No contract
-- cites this file. Assumes nothing.
use Prim.Native.Nat.{ℕ, ◌/◌, ◌%◌, ◌<◌}
use mathlib.Core.Path.{◌≡◌, ap, ◌∙◌}
use mathlib.Core.Bool.{true, false}
use mathlib.Core.List.{List}
use native.Mathlib.Decide.{dec_lt}
use native.Mathlib.Nat.{add-zero, zero-mul, sub-zero}
use native.Mathlib.Omega.{arith}
use lib.ListN.{length, get_or, set, get_or-eq_default}
use lib.Seq.{set-get_or}
use borrow.Author.Tests.{eqb-true, eqb-false}
use Rattle.words.specs.Bits.{bit_of, has_bit, with_bit, without_bit}
use Rattle.words.specs.Sets.{member, insert, remove, put}
use Rattle.words.proofs.BitsLaws.{bit_of-lt, has_bit-nothing}
use Rattle.words.proofs.TestsLaws.{tested, not_same}

module _ (w k : ℕ) where
  with_bit-back : has_bit w k ≡ true → with_bit w k ≡ w
  unfolding has_bit with_bit
  with_bit-back e = rw (eqb-true (bit_of w k) 1 e, zero-mul, add-zero)

  without_bit-back : has_bit w k ≡ false → without_bit w k ≡ w
  unfolding has_bit without_bit
  without_bit-back e =
      let none : bit_of w k ≡ 0 = omega (arith, bit_of-lt w k, eqb-false (bit_of w k) 1 e) in
      rw (none, zero-mul, sub-zero)

module _ (ws : List ℕ) (i : ℕ) where
  pub put_back : put ws i (member ws i) ≡ ws
  unfolding put insert remove member
  put_back =
      let w = get_or ws (i / 32) 0 in
      tested (has_bit w (i % 32))
      (λ t. rw t (ap (set ws (i / 32)) (with_bit-back w (i % 32) t) ∙ set-get_or ws (i / 32) 0))
      (λ f. rw f (ap (set ws (i / 32)) (without_bit-back w (i % 32) f) ∙ set-get_or ws (i / 32) 0))

  -- a number that is in a set has its word there
  pub member-within : member ws i ≡ true → i / 32 < length ws
  unfolding member
  member-within e = at (dec_lt (i / 32) (length ws))
    where
      at : Dec (i / 32 < length ws) → i / 32 < length ws
      at (yes h) = h
      at (no n) =
          absurd (not_same (has_bit (get_or ws (i / 32) 0) (i % 32)) e
          (ap (λ (w : ℕ). has_bit w (i % 32)) (get_or-eq_default ws 0 (omega arith))
          ∙ has_bit-nothing (i % 32)))
