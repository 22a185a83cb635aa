-- What the loop of this function keeps: the bits of the files so far. Assumes nothing.
use mathlib.Core.Path.{◌≡◌}
use Rattle.board_block.specs.Block.{board_of}
use Rattle.board_call.specs.Change.{signals_to}
use Rattle.board_hart_calls.proofs.signal.all_signals.Given as goal

abbrev pub invariant-loop-file : goal.invariant-loop-file
invariant-loop-file l = l.word ≡ signals_to (board_of l.state) l.hart l.file
