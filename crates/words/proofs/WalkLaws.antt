-- A word of 64 bits gone through from each bit that is set to the next. No contract cites this file. Assumes
-- nothing.
--   Walk on all rest i         rest has the bits from i on of all, which say which numbers are on
--   walk_start, walk-next      it holds at the start, and after each step
--   walk-lt, walk-on           the next number is below 64, and on
--   walk-passed, walk_none     those before it, or all where rest is 0, are not on
use Prim.Native.Nat.{ℕ, ◌+◌, ◌-◌, ◌/◌, ◌^◌, ◌≤◌, ◌<◌}
use mathlib.Core.Path.{◌≡◌, refl, sym, ap, ◌∙◌}
use mathlib.Core.Bool.{Bool, true, false}
use mathlib.Core.Logic.{◌≢◌}
use native.Mathlib.Nat.{lt_of_le_of_lt}
use native.Mathlib.Decide.{dec_lt}
use native.Mathlib.Omega.{arith}
use lib.Count.{count_trailing_zeros}
use lib.Pow.{shr_le, shr-shr}
use Rattle.words.specs.Bits.{bit_of, has_bit}
use Rattle.words.proofs.BitsLaws.{has_bit-one, has_bit-none}
use Rattle.words.proofs.ZerosLaws.{bit_of-below, bit_of-lowest, bit_of-shr, bit_of-high}

pub record Walk (on : ℕ → Bool) (all rest i : ℕ) : Type 0 where
  pub whole : all < 2 ^ 64
  pub bits : (j : ℕ) → i ≤ j → j < 64 → has_bit all j ≡ on j
  pub shifted : rest ≡ all / 2 ^ i

pub walk_start : (on : ℕ → Bool) (all : ℕ) → all < 2 ^ 64 → ((j : ℕ) → j < 64 → has_bit all j ≡ on j)
    → Walk on all (all / 2) 1
walk_start on all w b = record { whole = w; bits = λ j l h. b j h; shifted = refl }

module _ {on : ℕ → Bool} {all rest i : ℕ} (l : Walk on all rest i) where
  abbrev next : ℕ
  next = i + count_trailing_zeros 64 rest

  rest-bit : (j : ℕ) → bit_of rest j ≡ bit_of all (i + j)
  rest-bit j = ap (λ (w : ℕ). bit_of w j) l.shifted ∙ bit_of-shr all i j

  unset : (j : ℕ) → i ≤ j → j < 64 → bit_of rest (j - i) ≡ 0 → on j ≡ false
  unset j n m z =
      let place : j ≡ i + (j - i) = omega arith in
      sym (l.bits j n m) ∙ has_bit-none all j (ap (bit_of all) place ∙ sym (rest-bit (j - i)) ∙ z)

  pub walk_none : rest ≡ 0 → (j : ℕ) → i ≤ j → j < 64 → on j ≡ false
  walk_none none j n m = unset j n m (bit_of-high 0 rest (j - i) (omega arith) (omega arith))

  module _ (some : rest ≢ 0) where
    next_bit : bit_of all next ≡ 1
    next_bit =
        sym (rest-bit (count_trailing_zeros 64 rest))
        ∙ bit_of-lowest 64 rest (rw l.shifted (lt_of_le_of_lt (shr_le all i) l.whole)) some

    pub walk-lt : next < 64
    walk-lt = at (dec_lt next 64)
      where
        at : Dec (next < 64) → next < 64
        at (yes n) = n
        at (no n) = absurd (omega (arith, next_bit, bit_of-high 64 all next l.whole (omega arith)))

    pub walk-on : on next ≡ true
    walk-on = sym (l.bits next (omega arith) walk-lt) ∙ has_bit-one all next next_bit

    pub walk-passed : (j : ℕ) → i ≤ j → j < next → on j ≡ false
    walk-passed j n m =
        let high = walk-lt in unset j n (omega arith) (bit_of-below 64 rest (j - i) (omega arith))

    rest-next : rest / 2 ^ count_trailing_zeros 64 rest / 2 ≡ all / 2 ^ (next + 1)
    rest-next =
        ap (λ (w : ℕ). w / 2 ^ count_trailing_zeros 64 rest / 2) l.shifted
        ∙ ap (λ (w : ℕ). w / 2) (shr-shr all i (count_trailing_zeros 64 rest)) ∙ shr-shr all next 1

    -- the step may change which numbers up to the next are on
    pub walk-next : (on' : ℕ → Bool) → ((j : ℕ) → next < j → on j ≡ on' j)
        → Walk on' all (rest / 2 ^ count_trailing_zeros 64 rest / 2) (next + 1)
    walk-next on' same =
        record {
          whole = l.whole;
          bits = λ j n m. l.bits j (omega arith) m ∙ same j (omega arith);
          shifted = rest-next;
        }
