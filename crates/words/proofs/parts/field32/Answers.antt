-- `words::field32` meets its contract: the mask is a remainder. Assumes nothing.
use Rattle.words.proofs.PartsLaws.{field_of-and}
use Rattle.words.proofs.parts.field32.Goals as goal

pub returns : goal.returns
returns c = field_of-and 32 c.args.w c.args.at c.args.size c.requires.1
