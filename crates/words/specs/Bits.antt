-- The bits of a word, a natural number: one bit, and all of them at once. Assumes nothing.
--   bit_of w k         bit k of w, 0 or 1; 0 above the highest
--   has_bit w k        bit k of w is 1
--   with_bit w k       w with bit k set
--   without_bit w k    w with bit k cleared
--   put_bit w k b      w with bit k as b says
--   union w v          the bits of w and those of v
--   without w v        the bits of w that v has not
-- No definition names a width: a word of 32 bits is a number below 2 ^ 32.
use Rattle.std.specs.Prelude.{ℕ, ◌+◌, ◌-◌, ◌*◌, ◌/◌, ◌%◌, ◌^◌, Bool, cond, eqb}
use Rattle.std.specs.Int.Bits.{bit_and, bit_or}

unfoldable pub bit_of : ℕ → ℕ → ℕ
bit_of w k = w / 2 ^ k % 2

unfoldable pub has_bit : ℕ → ℕ → Bool
has_bit w k = eqb (bit_of w k) 1

unfoldable pub with_bit : ℕ → ℕ → ℕ
with_bit w k = w + (1 - bit_of w k) * 2 ^ k

unfoldable pub without_bit : ℕ → ℕ → ℕ
without_bit w k = w - bit_of w k * 2 ^ k

unfoldable pub put_bit : ℕ → ℕ → Bool → ℕ
put_bit w k b = cond b (with_bit w k) (without_bit w k)

-- [01 C6]
unfoldable pub union : ℕ → ℕ → ℕ
union w v = bit_or w v

-- [01 C6]
unfoldable pub without : ℕ → ℕ → ℕ
without w v = w - bit_and w v
