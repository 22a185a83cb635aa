-- `wired_state::state::domain_part` meets its contract: the words from where they begin. Assumes nothing.
use native.Mathlib.Omega.{arith}
use Rattle.std.proofs.lemmas.Grind.{common_steps}
use Rattle.wired_state.proofs.WiresLaws.{part-lent}
use Rattle.wired_state.proofs.state.domain_part.Goals as goal

pub returns : goal.returns
returns c =
    part-lent c.args.w.now c.args.child c.place_of.ensures c.split_at.ensures.back _
    (grind (arith, common_steps))
