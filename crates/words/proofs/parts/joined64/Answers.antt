-- `words::joined64` meets its contract: a field above another. Assumes nothing.
use native.Mathlib.Omega.{arith}
use Rattle.words.specs.Parts.{joined, packed}
use Rattle.words.proofs.PartsLaws.{packed-or}
use Rattle.words.proofs.parts.joined64.Goals as goal

pub returns : goal.returns
unfolding joined packed
returns c = packed-or 64 c.args.hi 32 c.args.lo c.ranges.lo.fits (omega arith)
