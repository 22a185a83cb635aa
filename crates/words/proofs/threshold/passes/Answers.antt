-- `words::passes` meets its contract. Assumes nothing.
use mathlib.Core.Path.{refl}
use Rattle.words.specs.Threshold.{passes}
use Rattle.words.proofs.threshold.passes.Goals as goal

pub returns : goal.returns
unfolding passes
returns c = refl
