-- `words::packed32` meets its contract: a field above another. Assumes nothing.
use Rattle.words.proofs.PartsLaws.{packed-or}
use Rattle.words.proofs.parts.packed32.Goals as goal

pub returns : goal.returns
returns c = packed-or 32 c.args.hi c.args.at c.args.lo c.requires.1 c.requires.2
