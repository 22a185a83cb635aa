-- `domain_region::bits_word` meets its contract: block and offset make up the address again, and no row has
-- the
-- addresses that they leave. Assumes nothing.
use mathlib.Core.Path.{ap, sym, ◌∙◌}
use native.Mathlib.Omega.{arith}
use Rattle.domain_region.proofs.RegionLaws.{config-unused, bits-unused}
use Rattle.domain_region.specs.Region.{word_at}
use Rattle.domain_region.proofs.bits_word.Goals as goal

pub returns-then-address-lt7168 : goal.returns-then-address-lt7168
returns-then-address-lt7168 c = sym (config-unused _ (omega arith) (omega arith))

pub returns-then-offset-lt8 : goal.returns-then-offset-lt8
returns-then-offset-lt8 c = c.bits_of.ensures ∙ ap word_at (omega arith)

pub returns-then-offset-eq220 : goal.returns-then-offset-eq220
returns-then-offset-eq220 c = c.number_of.ensures ∙ ap word_at (omega arith)

pub returns : goal.returns
returns c = sym (bits-unused _ (omega arith) (omega arith) (omega arith) (omega arith))
