-- `board_move_calls::registers::put` meets its contract: the file that the access leaves. Assumes nothing.
use mathlib.Core.Path.{ap, ◌∙◌}
use Rattle.file.specs.declared.register.Accessed.{Accessed}
use Rattle.board_block.specs.Block.{board_of}
use Rattle.board_call.specs.Move.{with_one}
use Rattle.board_move_laws.proofs.MoveCallEffects.{guest-there}
use Rattle.board_move_calls.proofs.registers.put.Goals as goal

pub store_file-requires : goal.store_file-requires
store_file-requires c =
    guest-there _ _ c.args.guest.is_there

pub returns : goal.returns
returns c =
    let args = c.args in
    c.store_file.ensures
    ∙ ap (λ (x : Accessed). with_one (board_of args.state.now) args.guest.hart args.guest.file x.file)
    c.accessed-done.ensures
