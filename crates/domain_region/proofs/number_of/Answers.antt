-- `domain_region::number_of` meets its contract: the block picks the row. Assumes nothing.
use mathlib.Core.Path.{ap, sym, ◌∙◌}
use native.Mathlib.Omega.{arith}
use Rattle.domain_region.proofs.RegionLaws.{setipnum-at, clripnum-at, setienum-at, clrienum-at}
use Rattle.domain_region.specs.Region.{word_at}
use Rattle.domain_region.proofs.number_of.Goals as goal

pub returns-in-0 : goal.returns-in-0
returns-in-0 c = sym (ap word_at (omega arith) ∙ setipnum-at)

pub returns-in-1 : goal.returns-in-1
returns-in-1 c = sym (ap word_at (omega arith) ∙ clripnum-at)

pub returns-in-2 : goal.returns-in-2
returns-in-2 c = sym (ap word_at (omega arith) ∙ setienum-at)

pub returns-in_default : goal.returns-in_default
returns-in_default c = sym (ap word_at (omega arith) ∙ clrienum-at)
