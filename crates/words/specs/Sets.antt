-- A set of small numbers as words of 32 bits, lowest first: number i is bit i mod 32 of word i div 32.
-- Assumes nothing.
--   member ws i     i is in the set; past the last word nothing is
--   insert ws i     the set with i; past the last word, the set as it is
--   remove ws i     the set without i
--   put ws i b      the set with i or without it, as b says
--   WordsFit ws     each word has 32 bits
use Rattle.std.specs.Prelude.{ℕ, ◌/◌, ◌%◌, ◌^◌, ◌<◌, Bool, cond, List, get_or, set}
use Rattle.words.specs.Bits.{has_bit, with_bit, without_bit}

-- [01 X11]
unfoldable pub member : List ℕ → ℕ → Bool
member ws i = has_bit (get_or ws (i / 32) 0) (i % 32)

unfoldable pub insert : List ℕ → ℕ → List ℕ
insert ws i = set ws (i / 32) (with_bit (get_or ws (i / 32) 0) (i % 32))

unfoldable pub remove : List ℕ → ℕ → List ℕ
remove ws i = set ws (i / 32) (without_bit (get_or ws (i / 32) 0) (i % 32))

unfoldable pub put : List ℕ → ℕ → Bool → List ℕ
put ws i b = cond b (insert ws i) (remove ws i)

unfoldable pub WordsFit : List ℕ → Type 0
WordsFit ws = (k : ℕ) → get_or ws k 0 < 2 ^ 32
