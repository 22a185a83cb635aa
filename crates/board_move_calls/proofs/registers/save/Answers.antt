-- `board_move_calls::registers::save` meets its contract: the value that the access answers. Assumes nothing.
use mathlib.Core.Path.{ap, ◌∙◌}
use lib.ListN.{set}
use Rattle.file.specs.declared.register.Accessed.{Accessed}
use Rattle.file.specs.Reply.{reply_value}
use Rattle.board_call_laws.proofs.FileCallEffects.{value-or}
use Rattle.board_move_calls.proofs.registers.save.Goals as goal

pub returns : goal.returns
returns c =
    let args = c.args in
    ap (set args.saved.now args.place)
    (c.unwrap_or.ensures ∙ value-or c.accessed-done.result.answer
    ∙ ap (λ (x : Accessed). reply_value x.answer) c.accessed-done.ensures)
