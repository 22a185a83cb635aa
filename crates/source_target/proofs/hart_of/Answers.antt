-- `source_target::hart_of` meets its contract: a field of its size. Assumes nothing.
use Rattle.source_target.specs.Target.{hart_of}
use Rattle.source_target.proofs.TargetLaws.{hart_of-lt}
use Rattle.source_target.proofs.hart_of.Goals as goal

pub returns : goal.returns
unfolding hart_of
returns c = (c.field32.ensures, rw c.field32.ensures (hart_of-lt c.args.target))
