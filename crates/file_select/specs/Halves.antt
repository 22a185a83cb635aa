-- The two words of a set that one 64-bit register shows. 01, "One message file". Assumes nothing.
--   doubleword ws j             words 2j and 2j+1 as one 64-bit number; past the last word, 0
--   put_halves ws j v           these two words replaced by v; past the last word, nothing
--   put_doubleword ws j v       the same, but that identity 0 stays 0
use Rattle.std.specs.Prelude.{ℕ, ◌+◌, ◌*◌, cond, List, eqb, get_or, set}
use Rattle.words.specs.Bits.{without_bit}
use Rattle.words.specs.Parts.{low, high, joined}

-- [01 F11]
unfoldable pub doubleword : List ℕ → ℕ → ℕ
doubleword ws j = joined (get_or ws (2 * j) 0) (get_or ws (2 * j + 1) 0)

unfoldable pub put_halves : List ℕ → ℕ → ℕ → List ℕ
put_halves ws j v = set (set ws (2 * j) (low v)) (2 * j + 1) (high v)

-- [01 F11 F13]
unfoldable pub put_doubleword : List ℕ → ℕ → ℕ → List ℕ
put_doubleword ws j v = put_halves ws j (cond (eqb j 0) (without_bit v 0) v)
