-- `board_move_steps::names::renamed` meets its contract: each field has room below the next. Assumes nothing.
use Prim.Native.Nat.{◌-◌}
use mathlib.Core.Path.{ap, ◌∙◌}
use native.Mathlib.Omega.{arith}
use Rattle.words.specs.Parts.{packed}
use Rattle.source_target.specs.Target.{hart_at}
use Rattle.source_target.proofs.TargetLaws.{receiver-lt}
use Rattle.board_move_steps.specs.Names.{renamed}
use Rattle.board_move_steps.proofs.names.renamed.Goals as goal

pub packed32-requires-2 : goal.packed32-requires-2
packed32-requires-2 c = (
  omega arith,
  omega (
    arith,
    c.packed32.ensures,
    receiver-lt (c.args.file - 1) c.number_of.result (omega arith)
        c.number_of.ensures.1,
  ),
  omega arith,
)

pub returns : goal.returns
unfolding renamed
returns c =
    let args = c.args in
    c.packed32-2.ensures
    ∙ ap (packed args.hart hart_at) (c.packed32.ensures
    ∙ ap (packed (args.file - 1) 12) c.number_of.ensures.0)
