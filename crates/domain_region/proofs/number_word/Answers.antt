-- `domain_region::number_word` meets its contract: two addresses are named. Assumes nothing.
use mathlib.Core.Path.{ap, sym, ◌∙◌}
use native.Mathlib.Omega.{arith}
use Rattle.domain_region.proofs.RegionLaws.{numbers-unused, setipnum-le-at, setipnum-be-at}
use Rattle.domain_region.specs.Region.{word_at}
use Rattle.domain_region.proofs.number_word.Goals as goal

pub returns-then-address-eq8192 : goal.returns-then-address-eq8192
returns-then-address-eq8192 c = sym (ap word_at (omega arith) ∙ setipnum-le-at)

pub returns-then-address-eq8196 : goal.returns-then-address-eq8196
returns-then-address-eq8196 c = sym (ap word_at (omega arith) ∙ setipnum-be-at)

pub returns : goal.returns
returns c = sym (numbers-unused _ (omega arith) (omega arith))
