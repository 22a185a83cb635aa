-- What is lent to a call that tests nothing in vain: the right lengths, and a board that is fit. Assumes
-- nothing.
--   Ready x          650 words of a board that is Fit, a log of 63 words, and saved numbers of 64 bits
--   board_in x       that board
--   AllSmall cs      each of the calls cs has a value of 64 bits at most
--   at_reset         what a run from reset is lent first: the block of a reset, and zeros as the log and as
--                    the saved numbers
use Rattle.std.specs.Prelude.{◌≡◌, List, [], ◌∷◌, length, replicate}
use Rattle.sizes.specs.Sizes.{block_size, log_size, saved_size}
use Rattle.board_block.specs.Block.{Board, board_of, block_of}
use Rattle.board_block.specs.Start.{start_board}
use Rattle.board_call.specs.declared.Call.{Call}
use Rattle.board_call_laws.specs.Fit.{Fit, SavedFit}
use Rattle.board_call_laws.specs.Small.{Small}
use Rattle.board_runs.specs.Runs.{Lent}

abbrev pub board_in : Lent → Board
board_in x = board_of x.block

pub record Ready (x : Lent) : Type 0 where
  pub long : length x.block ≡ block_size
  pub full : length x.log ≡ log_size
  pub fit : Fit (board_in x)
  pub saved : SavedFit x.saved

abbrev pub AllSmall : List Call → Type 0
AllSmall [] = Unit {0}
AllSmall (c ∷ cs) = Small c × AllSmall cs

-- [02 M100.7]
abbrev pub at_reset : Lent
at_reset = record { block = block_of start_board; log = replicate log_size 0; saved = replicate saved_size 0 }
