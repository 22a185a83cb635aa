-- What the loop of this function keeps: the files of the harts so far are those of the start, and the others
-- are 0. Assumes nothing.
use Prim.Native.Nat.{◌*◌}
use Rattle.files.specs.Files.{files_of}
use Rattle.board_block.proofs.StartLaws.{Started}
use Rattle.sizes.specs.Sizes.{hart_files}
use Rattle.board_block.proofs.start_files.Given as goal

abbrev pub invariant-loop-hart : goal.invariant-loop-hart
invariant-loop-hart l = Started (hart_files * l.hart) (files_of l.files)
