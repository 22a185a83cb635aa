-- `domain_region::config_word` meets its contract: 0 is domaincfg's, and below 0x100 each source has its
-- word.
-- Assumes nothing.
use mathlib.Core.Path.{ap, sym, ◌∙◌}
use native.Mathlib.Omega.{arith}
use Rattle.domain_region.proofs.RegionLaws.{config-unused, domaincfg-at, sourcecfg-at}
use Rattle.domain_region.specs.Region.{word_at}
use Rattle.domain_region.proofs.config_word.Goals as goal

pub returns-then-address-eq0 : goal.returns-then-address-eq0
returns-then-address-eq0 c = sym (ap word_at (omega arith) ∙ domaincfg-at)

pub returns-then-address-lt256 : goal.returns-then-address-lt256
returns-then-address-lt256 c = sym (ap word_at (omega arith) ∙ sourcecfg-at _ (omega arith) (omega arith))

pub returns : goal.returns
returns c = sym (config-unused _ (omega arith) (omega arith))
