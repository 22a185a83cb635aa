-- `domain_region::bits_of` meets its contract: the block picks the row. Assumes nothing.
use mathlib.Core.Path.{ap, sym, ◌∙◌}
use native.Mathlib.Omega.{arith}
use Rattle.domain_region.proofs.RegionLaws.{setip-at, in-clrip-at, setie-at, clrie-at}
use Rattle.domain_region.specs.Region.{word_at}
use Rattle.domain_region.proofs.bits_of.Goals as goal

pub returns-in-0 : goal.returns-in-0
returns-in-0 c = sym (ap word_at (omega arith) ∙ setip-at _ c.requires.1)

pub returns-in-1 : goal.returns-in-1
returns-in-1 c = sym (ap word_at (omega arith) ∙ in-clrip-at _ c.requires.1)

pub returns-in-2 : goal.returns-in-2
returns-in-2 c = sym (ap word_at (omega arith) ∙ setie-at _ c.requires.1)

pub returns-in_default : goal.returns-in_default
returns-in_default c = sym (ap word_at (omega arith) ∙ clrie-at _ c.requires.1)
