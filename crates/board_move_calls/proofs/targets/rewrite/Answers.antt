-- `board_move_calls::targets::rewrite` meets its contract: read, and written if it names old. Assumes
-- nothing.
use mathlib.Core.Path.{sym, ◌∙◌}
use native.Mathlib.Omega.{arith}
use Rattle.wired_state.specs.Wires.{wired_of}
use Rattle.board_move_laws.proofs.MoveEffects.{guest-hart, guest-low, guest-high}
use Rattle.board_move_laws.proofs.MoveCallEffects.{retarget-made, retarget-none}
use Rattle.board_move_calls.proofs.targets.rewrite.Goals as goal

pub renamed-requires : goal.renamed-requires
renamed-requires c =
    let there = c.args.new_file.is_there in (
      guest-hart _ _ there,
      omega (arith, guest-low _ _ there),
      guest-high _ _ there,
    )

pub returns-then-names_file : goal.returns-then-names_file
returns-then-names_file c =
    let args = c.args in
    retarget-made args.old_file.hart args.old_file.file args.new_file.hart args.new_file.file
    (wired_of args.w.now)
    args.source _ _ c.read-target.ensures.0 c.read-target.ensures.1
    (sym c.names_file.ensures ∙ c.if-names_file.true) _
    c.renamed.ensures _ c.write.ensures

pub returns-else-names_file : goal.returns-else-names_file
returns-else-names_file c =
    let args = c.args in
    retarget-none args.old_file.hart args.old_file.file args.new_file.hart args.new_file.file
    (wired_of args.w.now)
    args.source _ _ c.read-target.ensures.0 c.read-target.ensures.1
    (sym c.names_file.ensures ∙ c.if-names_file.false)
