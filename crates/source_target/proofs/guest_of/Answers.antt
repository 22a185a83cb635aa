-- `source_target::guest_of` meets its contract: a field of its size. Assumes nothing.
use Rattle.source_target.specs.Target.{guest_of}
use Rattle.source_target.proofs.TargetLaws.{guest_of-lt}
use Rattle.source_target.proofs.guest_of.Goals as goal

pub returns : goal.returns
unfolding guest_of
returns c = (c.field32.ensures, rw c.field32.ensures (guest_of-lt c.args.target))
