-- `source_target::number_of` meets its contract: a field of its size. Assumes nothing.
use Rattle.source_target.specs.Target.{number_of}
use Rattle.source_target.proofs.TargetLaws.{number_of-lt}
use Rattle.source_target.proofs.number_of.Goals as goal

pub returns : goal.returns
unfolding number_of
returns c = (c.field32.ensures, rw c.field32.ensures (number_of-lt c.args.target))
