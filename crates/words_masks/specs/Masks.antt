-- Sets of small numbers, each as one word: number i is bit i. Assumes nothing.
--   common w v      the bits that w and v share
--   gathered p n    the word whose n lowest bits are as p says, with no other
use Rattle.std.specs.Prelude.{ℕ, zero, suc, Bool, cond}
use Rattle.std.specs.Int.Bits.{bit_and}
use Rattle.words.specs.Bits.{with_bit}

unfoldable pub common : ℕ → ℕ → ℕ
common w v = bit_and w v

unfoldable pub gathered : (ℕ → Bool) → ℕ → ℕ
gathered p zero = 0
gathered p (suc n) = cond (p n) (with_bit (gathered p n) n) (gathered p n)
