-- `domain_topi::top_source` meets its contract: the sources from one on and the best of those before have the
-- best of all, and what the loop passes over does not count. Assumes nothing.
use mathlib.Core.Path.{sym, ◌∙◌}
use Rattle.domain_topi.proofs.StandingLaws.{left-start, left-head, left-next, left_end}
use Rattle.domain_topi.proofs.top_source.Goals as goal

pub loop-i-init : goal.loop-i-init
loop-i-init c =
    left-start _ _ _ _ c.standing.ensures
    (c.into_iter-i-iterator.ensures.into_iter_gives ∙ c.from-i-items.ensures)

pub better-best-requires : goal.better-best-requires
better-best-requires c =
    let left = c.loop-i.invariant in
    let head = left-head left c.in-Some.ensures.steps in
    (head.0, left.found, c.load_structure-x.ensures, head.1)

pub loop-i-preserved : goal.loop-i-preserved
loop-i-preserved c = left-next c.loop-i.invariant c.in-Some.ensures.steps _ c.better-best.ensures

pub returns : goal.returns
returns c = sym (left_end c.loop-i.invariant c.in-None.ensures.steps.0)
