-- `domain::structure::store_structure` meets its contract: three words. Assumes nothing.
use Rattle.domain.proofs.StructureLaws.{structure-stored}
use Rattle.domain.proofs.structure.store_structure.Goals as goal

pub returns : goal.returns
returns c = structure-stored c.args.part.now c.args.h c.requires c.args.x
