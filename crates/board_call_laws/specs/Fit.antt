-- A board that calls can be made on, one after the other: what holds of that of a block of 650 words of 32
-- bits that keeps the state rules, and what every accepted call leaves so. Assumes nothing.
--   Fit b         b has its lengths, the words of its files have 32 bits, and it keeps every state rule
--   SavedFit s    each of a move's saved numbers has 64 bits
--   Kept x        the step x leaves a board that is Fit and saved numbers that are SavedFit, and sends 63
--                 messages at most
use Rattle.std.specs.Prelude.{ℕ, ◌^◌, ◌≤◌, ◌<◌, ◌≡◌, true, List, length, get_or}
use Rattle.sizes.specs.Sizes.{file_count, log_size}
use Rattle.file.specs.Shape.{Shaped}
use Rattle.files.specs.Files.{the_file}
use Rattle.board_block.specs.Block.{Board, board_sound}
use Rattle.board_block_laws.specs.Shape.{BoardShaped}
use Rattle.board_call.specs.Outcome.{Stepped}

pub record Fit (b : Board) : Type 0 where
  pub shaped : BoardShaped b
  pub files : (k : ℕ) → k < file_count → Shaped (the_file b.files k)
  pub sound : board_sound b ≡ true

abbrev pub SavedFit : List ℕ → Type 0
SavedFit s = (k : ℕ) → get_or s k 0 < 2 ^ 64

pub record Kept (x : Stepped) : Type 0 where
  pub fit : Fit x.board
  pub few : length x.messages ≤ log_size
  pub saved : SavedFit x.saved
