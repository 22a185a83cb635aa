-- The parts of a word: its bytes, its halves, its fields. Assumes nothing.
--   reversed w            the four bytes of w, a number below 2 ^ 32, in the other order
--   low w, high w         the low 32 bits of a 64-bit number, and the rest
--   joined lo hi          the 64-bit number with these halves
--   field_of w at size    the size bits of w from bit at on
--   packed hi at lo       the field hi from bit at on, above lo, a number below 2 ^ at
use Rattle.std.specs.Prelude.{ℕ, ◌+◌, ◌*◌, ◌/◌, ◌%◌, ◌^◌}

-- [01 F2 W40]
unfoldable pub reversed : ℕ → ℕ
reversed w = w % 256 * 2 ^ 24 + w / 2 ^ 8 % 256 * 2 ^ 16 + w / 2 ^ 16 % 256 * 2 ^ 8 + w / 2 ^ 24 % 256

unfoldable pub low : ℕ → ℕ
low w = w % 2 ^ 32

unfoldable pub high : ℕ → ℕ
high w = w / 2 ^ 32

unfoldable pub joined : ℕ → ℕ → ℕ
joined lo hi = hi * 2 ^ 32 + lo

unfoldable pub field_of : ℕ → ℕ → ℕ → ℕ
field_of w at size = w / 2 ^ at % 2 ^ size

unfoldable pub packed : ℕ → ℕ → ℕ → ℕ
packed hi at lo = hi * 2 ^ at + lo
