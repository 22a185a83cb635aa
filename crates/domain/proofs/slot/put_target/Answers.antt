-- `domain::slot::put_target` meets its contract: one word. Assumes nothing.
use Rattle.domain.proofs.DomainLaws.{store-target}
use Rattle.domain.proofs.slot.put_target.Goals as goal

pub returns : goal.returns
returns c = store-target c.args.part.now c.args.i c.args.target c.requires
