-- `domain_region::target_word` meets its contract: 0x3000 is genmsi's, and below 0x3100 each source has its
-- word.
-- Assumes nothing.
use mathlib.Core.Path.{ap, sym, ◌∙◌}
use native.Mathlib.Omega.{arith}
use Rattle.domain_region.proofs.RegionLaws.{targets-unused, genmsi-at, target_at}
use Rattle.domain_region.specs.Region.{word_at}
use Rattle.domain_region.proofs.target_word.Goals as goal

pub returns-then-address-eq12288 : goal.returns-then-address-eq12288
returns-then-address-eq12288 c = sym (ap word_at (omega arith) ∙ genmsi-at)

pub returns-then-address-lt12544 : goal.returns-then-address-lt12544
returns-then-address-lt12544 c = sym (ap word_at (omega arith) ∙ target_at _ (omega arith) (omega arith))

pub returns : goal.returns
returns c = sym (targets-unused _ (omega arith) (omega arith))
