-- `board_block::start_files` meets its contract: hart after hart, the files so far are those of the start,
-- and the others are 0. Assumes nothing.
use Prim.Native.Nat.{◌+◌, ◌*◌}
use native.Mathlib.Omega.{arith}
use Rattle.files.specs.Files.{files_of}
use Rattle.files.proofs.FilesLaws.{length-files_of}
use Rattle.board_block.proofs.StartLaws.{started-zeros, started-signal, started-guests}
use Rattle.board_block.proofs.StartLaws.{start-files}
use Rattle.board_block.proofs.start_files.Goals as goal

pub loop-hart-init : goal.loop-hart-init
loop-hart-init c = started-zeros c.args.files.now c.requires

pub loop-hart-preserved : goal.loop-hart-preserved
loop-hart-preserved c =
    let at-loop = c.loop-hart in
    let k = 5 * at-loop.hart in
    let l = c.put_signal.new.files in
    let first = started-signal (files_of at-loop.files) (files_of l) k (length-files_of at-loop.files)
    (omega arith) (omega arith) c.put_signal.ensures at-loop.invariant in
    let second = started-signal (files_of l) _ (k + 1) (length-files_of l) (omega arith) (omega arith)
    c.put_signal-in-loop-hart.ensures first in
    started-guests _ (k + 1 + 1) (5 * (at-loop.hart + 1)) (omega arith) (omega arith) (λ j b q. omega arith)
    second

pub returns : goal.returns
returns c =
    let at-loop = c.loop-hart in
    start-files at-loop.files (λ j h. at-loop.invariant.below j (omega arith))
