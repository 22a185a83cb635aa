-- The fields of a line: a name, then numbers. 02, M-100; docs/RECORD.md. Assumes nothing.
--   tab                 the byte that stands between two fields
--   fields_of l         the fields of the line l, one at least
--   first_of fs         the first of the fields fs
--   others_of fs        all of them but the first
--   name_of l, texts_of l the first field of the line l; the others
--   are_numbers ts      each of the fields ts is a number
--   numbers_of ts       these numbers
--   most_numbers        more numbers than these no call has
--   numbers_in ts       the numbers that the fields ts are: none if they are more than most_numbers, or if
--                       one of them is no number
use Rattle.std.specs.Prelude.{ℕ, Bool, true, cond, ◌&&◌, List, [], ◌∷◌, ◌++◌, map, leb, length, Option, Some}
use Rattle.std.specs.Prelude.{None}
use Rattle.record_numbers.specs.Decimal.{is_number, value_of}
use Rattle.record_lines.specs.Parted.{ended_by, rest_by}

abbrev pub tab : ℕ
tab = 9

-- [02 M100.3]
unfoldable pub fields_of : List ℕ → List (List ℕ)
fields_of l = ended_by tab [] l ++ (rest_by tab [] l ∷ [])

abbrev pub first_of : List (List ℕ) → List ℕ
first_of [] = []
first_of (f ∷ fs) = f

abbrev pub others_of : List (List ℕ) → List (List ℕ)
others_of [] = []
others_of (f ∷ fs) = fs

unfoldable pub name_of : List ℕ → List ℕ
name_of l = first_of (fields_of l)

unfoldable pub texts_of : List ℕ → List (List ℕ)
texts_of l = others_of (fields_of l)

unfoldable pub are_numbers : List (List ℕ) → Bool
are_numbers [] = true
are_numbers (t ∷ ts) = is_number t && are_numbers ts

unfoldable pub numbers_of : List (List ℕ) → List ℕ
numbers_of ts = map value_of ts

abbrev pub most_numbers : ℕ
most_numbers = 5

unfoldable pub numbers_in : List (List ℕ) → Option (List ℕ)
numbers_in ts = cond (are_numbers ts && leb (length ts) most_numbers) (Some (numbers_of ts)) None
