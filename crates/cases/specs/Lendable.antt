-- How much of the state and of the log a call can be lent. Assumes nothing.
--   state_room, log_room  the words that there are: some more than the board needs, so that a length can be
--                         too large
--   Lendable s l          s words of the state and l of the log can be lent
use Rattle.std.specs.Prelude.{ℕ, ◌+◌, ◌≤◌}
use Rattle.sizes.specs.Sizes.{block_size, log_size}

abbrev pub state_room : ℕ
state_room = block_size + 10

abbrev pub log_room : ℕ
log_room = log_size + 7

pub record Lendable (s l : ℕ) : Type 0 where
  pub state : s ≤ state_room
  pub log : l ≤ log_room
