-- `domain_sending::sources::pass` meets its contract: what it goes past is not to be sent. Assumes nothing.
use mathlib.Core.Path.{◌∙◌}
use borrow.Author.Rules.{rules}
use Rattle.domain_sending.proofs.PassLaws.{going-start, going-head, going-next, going-end}
use Rattle.domain_sending.proofs.sources.pass.Goals as goal

pub loop-i-init : goal.loop-i-init
loop-i-init c =
    going-start _ _ _ _ _ (search rules) c.standing.ensures
    (c.into_iter-i-iterator.ensures.into_iter_gives ∙ c.from-i-items.ensures)

pub serve-n-requires : goal.serve-n-requires
serve-n-requires c = going-head c.loop-i.invariant c.in-Some.ensures.steps

pub loop-i-preserved : goal.loop-i-preserved
loop-i-preserved c =
    let served = c.serve-n.ensures in
    going-next c.loop-i.invariant c.in-Some.ensures.steps _ _ _ served.0 served.1 served.2

pub returns : goal.returns
returns c = going-end c.loop-i.invariant c.in-None.ensures.steps.0
