-- `domain_writes::change::change_word` meets its contract: the sources that are named, one after the other.
-- Assumes nothing.
use mathlib.Core.Path.{◌∙◌}
use borrow.Author.Rules.{rules}
use Rattle.domain_writes.proofs.WritesLaws.{naming-start, naming-lt, naming-next, naming-end}
use Rattle.domain_writes.proofs.change.change_word.Goals as goal

pub loop-i-init : goal.loop-i-init
loop-i-init c =
    naming-start c.args.value _ _ _ _ _ _ (search rules) c.named.ensures
    (c.into_iter-i-iterator.ensures.into_iter_gives ∙ c.from-i-items.ensures)

pub change_source-requires : goal.change_source-requires
change_source-requires c = naming-lt c.args.value c.loop-i.invariant c.in-Some.ensures.steps

pub loop-i-preserved : goal.loop-i-preserved
loop-i-preserved c =
    naming-next c.args.value c.loop-i.invariant c.in-Some.ensures.steps _ c.change_source.ensures

pub returns : goal.returns
returns c = naming-end c.args.value c.loop-i.invariant c.in-None.ensures.steps.0
