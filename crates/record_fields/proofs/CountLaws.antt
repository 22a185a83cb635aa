-- What numbers the fields are, in each case. Assumes nothing.
use Prim.Native.Nat.{ℕ, ◌≤◌, ◌<◌}
use mathlib.Core.Path.{◌≡◌}
use mathlib.Core.Bool.{true, false, and-false}
use mathlib.Core.List.{List}
use borrow.Author.Tests.{le-leb, lt-leb}
use lib.ListN.{length, length-map}
use Rattle.std.specs.Prelude.{Some, None}
use Rattle.record_numbers.specs.Decimal.{value_of}
use Rattle.record_fields.specs.Fields.{are_numbers, numbers_of, most_numbers, numbers_in}

module _ (ts : List (List ℕ)) where
  pub length-numbers : length (numbers_of ts) ≡ length ts
  unfolding numbers_of
  length-numbers = length-map ts value_of

  pub in-few : are_numbers ts ≡ true → length ts ≤ most_numbers → numbers_in ts ≡ Some (numbers_of ts)
  unfolding numbers_in
  in-few e le = rw (e, le-leb (length ts) most_numbers le)

  pub in-bad : are_numbers ts ≡ false → numbers_in ts ≡ None
  unfolding numbers_in
  in-bad e = rw e

  -- whether they are numbers or not
  pub in-many : most_numbers < length ts → numbers_in ts ≡ None
  unfolding numbers_in
  in-many lt = simp (lt-leb (length ts) most_numbers lt, and-false)
