-- `domain::structure::load_structure` meets its contract: three words. Assumes nothing.
use Rattle.domain.proofs.StructureLaws.{structure-read}
use Rattle.domain.proofs.structure.load_structure.Goals as goal

pub returns : goal.returns
returns c =
    structure-read c.args.part.now c.args.h c.requires
