-- A number as decimal digits, in bytes. 02, M-100; docs/RECORD.md. Assumes nothing.
--   is_digit b, all_digits bs   b is one of the digits 0 to 9; every byte of bs is
--   value_onto v bs, value_of bs the number that the digits bs make behind the number v; that they make alone
--   is_number bs                one digit or more, and a number of 64 bits; zeros may stand in front
--   number_in bs                the number that bs are, if they are one
--   digits_of k n               the last k digits of n
--   places_in k n, places_of n  how many digits n takes, if k are enough; if it has 64 bits
--   text_of n                   n in decimal, with no zero in front
--   number_room                 how many digits a number of 64 bits takes at most
use Rattle.std.specs.Prelude.{ℕ, zero, suc, ◌+◌, ◌-◌, ◌*◌, ◌/◌, ◌%◌, ◌^◌, Bool, true, cond, ◌&&◌, List, []}
use Rattle.std.specs.Prelude.{◌∷◌, ◌++◌, leb, ltb, length, Option, Some, None}

-- ---- read

abbrev pub is_digit : ℕ → Bool
is_digit b = leb 48 b && leb b 57

unfoldable pub all_digits : List ℕ → Bool
all_digits [] = true
all_digits (b ∷ bs) = is_digit b && all_digits bs

unfoldable pub value_onto : ℕ → List ℕ → ℕ
value_onto v [] = v
value_onto v (b ∷ bs) = value_onto (v * 10 + (b - 48)) bs

abbrev pub value_of : List ℕ → ℕ
value_of bs = value_onto 0 bs

unfoldable pub is_number : List ℕ → Bool
is_number bs = ltb 0 (length bs) && (all_digits bs && ltb (value_of bs) (2 ^ 64))

unfoldable pub number_in : List ℕ → Option ℕ
number_in bs = cond (is_number bs) (Some (value_of bs)) None

-- ---- written

unfoldable pub digits_of : ℕ → ℕ → List ℕ
digits_of zero n = []
digits_of (suc k) n = digits_of k (n / 10) ++ ((48 + n % 10) ∷ [])

unfoldable pub places_in : ℕ → ℕ → ℕ
places_in zero n = 0
places_in (suc k) n = cond (ltb n 10) 1 (suc (places_in k (n / 10)))

abbrev pub number_room : ℕ
number_room = 20

abbrev pub places_of : ℕ → ℕ
places_of n = places_in number_room n

unfoldable pub text_of : ℕ → List ℕ
text_of n = digits_of (places_of n) n
