-- A message on its way to a file, as a word of the log. 01, "The wired controller". Assumes nothing.
--   log_word hart file identity          the message that brings identity to that file of that hart
--   hart_in m, file_in m, identity_in m  the parts of a log word: bits 12:11, bits 10:8, and bits 7:0
use Rattle.std.specs.Prelude.{ℕ, ◌+◌, ◌*◌, ◌/◌, ◌%◌}

-- [01 W49]
unfoldable pub log_word : ℕ → ℕ → ℕ → ℕ
log_word hart file identity = hart * 2048 + file * 256 + identity

unfoldable pub hart_in : ℕ → ℕ
hart_in m = m / 2048 % 4

unfoldable pub file_in : ℕ → ℕ
file_in m = m / 256 % 8

unfoldable pub identity_in : ℕ → ℕ
identity_in m = m % 256
