-- Laws of the numbers that are read: one digit after the other. No contract cites this file. Assumes nothing.
--   number_from v bs         what the bytes bs read as behind digits that make v
--   from-none, from_start    an empty field, and the start of any other
--   from-other               a byte that is no digit
--   from-beyond              a digit that makes more than 64 bits
--   from-digit, from_end     any other digit, and the end of the field
--   onto-le                  a number grows with its digits
use Prim.Native.Nat.{ℕ, suc, ◌+◌, ◌-◌, ◌*◌, ◌^◌, ◌≤◌, ◌<◌}
use mathlib.Core.Path.{◌≡◌}
use mathlib.Core.Bool.{cond, ◌&&◌, and-false}
use mathlib.Core.Logic.{◌⊎◌, inl, inr}
use mathlib.Core.List.{List, [], ◌∷◌}
use native.Mathlib.Numerals.{add-one}
use native.Mathlib.Omega.{arith}
use borrow.Author.Tests.{lt-ltb, le-ltb, le-leb, lt-leb}
use lib.Dec.{ltb}
use lib.ListN.{length, drop, get_or, drop_of_length-le}
use lib.Seq.{drop-cons}
use Rattle.std.specs.declared.option.Option.{Option}
use Rattle.std.specs.declared.option.Option.TheVariants.{Some, None}
use Rattle.record_numbers.specs.Decimal.{all_digits, value_onto, is_number, number_in}

unfoldable pub number_from : ℕ → List ℕ → Option ℕ
number_from v bs =
    cond (all_digits bs && ltb (value_onto v bs) (2 ^ 64)) (Some (value_onto v bs)) None

pub onto-le : (v : ℕ) (bs : List ℕ) → v ≤ value_onto v bs
unfolding value_onto
onto-le v [] = omega arith
onto-le v (b ∷ bs) = omega (arith, onto-le (v * 10 + (b - 48)) bs)

pub from-none : (bs : List ℕ) → length bs ≡ 0 → None ≡ number_in bs
unfolding number_in is_number
from-none bs h = simp h

pub from_start : (bs : List ℕ) → 0 < length bs → number_in bs ≡ number_from 0 bs
unfolding number_in is_number number_from
from_start bs h = simp (lt-ltb 0 (length bs) h)

-- ---- at the byte i, with the value v so far

module _ (bs : List ℕ) (i v : ℕ) (h : i < length bs) where
  abbrev here : ℕ
  here = get_or bs i 0

  abbrev next : ℕ
  next = v * 10 + (here - 48)

  pub from-other : (here < 48) ⊎ (57 < here) → number_from v (drop i bs) ≡ None
  unfolding number_from all_digits
  from-other (inl l) = rw (drop-cons bs i 0) (simp (lt-leb 48 here l))
  from-other (inr l) = rw (drop-cons bs i 0) (simp (lt-leb here 57 l, and-false))

  pub from-beyond : 2 ^ 64 ≤ next → number_from v (drop i bs) ≡ None
  unfolding number_from value_onto
  from-beyond l =
      let after = drop (suc i) bs in
      let far = le-ltb (value_onto next after) (2 ^ 64) (omega (arith, onto-le next after)) in
      rw (drop-cons bs i 0) (simp (far, and-false))

  pub from-digit : 48 ≤ here → here ≤ 57 → number_from v (drop i bs) ≡ number_from next (drop (i + 1) bs)
  unfolding number_from all_digits value_onto
  from-digit l m = rw (add-one, drop-cons bs i 0) (simp (le-leb 48 here l, le-leb here 57 m))

pub from_end : (bs : List ℕ) (i v : ℕ) → length bs ≤ i → v < 2 ^ 64 → number_from v (drop i bs) ≡ Some v
unfolding number_from all_digits value_onto
from_end bs i v h l = rw drop_of_length-le (simp (lt-ltb v (2 ^ 64) l))
