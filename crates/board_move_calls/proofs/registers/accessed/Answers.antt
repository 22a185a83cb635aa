-- `board_move_calls::registers::accessed` meets its contract: a guest's file is one of the 20. Assumes
-- nothing.
use Rattle.board_block.specs.Block.{board_of}
use Rattle.board_move_laws.proofs.MoveCallEffects.{guest-there, register-made}
use Rattle.board_move_calls.proofs.registers.accessed.Goals as goal

pub load_file-f-requires : goal.load_file-f-requires
load_file-f-requires c = guest-there _ _ c.args.guest.is_there

pub returns : goal.returns
returns c =
    let args = c.args in
    register-made args.guest.hart args.guest.file args.guest.is_there (board_of args.state.now) _
    c.load_file-f.ensures args.kind args.select args.value _ c.access.ensures
