-- `domain_region::structure_word` meets its contract: hart and offset make up the address again, and no row
-- has the
-- addresses that they leave. Assumes nothing.
use mathlib.Core.Path.{ap, sym, ◌∙◌}
use native.Mathlib.Omega.{arith}
use Rattle.domain_region.proofs.RegionLaws.{structures-unused, past-unused, idelivery-at, iforce-at}
use Rattle.domain_region.proofs.RegionLaws.{ithreshold-at, topi-at, claimi-at}
use Rattle.domain_region.specs.Region.{word_at}
use Rattle.domain_region.proofs.structure_word.Goals as goal

pub returns-then-address-ge16512 : goal.returns-then-address-ge16512
returns-then-address-ge16512 c = sym (past-unused _ (omega arith))

pub returns-in-0 : goal.returns-in-0
returns-in-0 c = sym (ap word_at (omega arith) ∙ idelivery-at _ (omega arith))

pub returns-in-4 : goal.returns-in-4
returns-in-4 c = sym (ap word_at (omega arith) ∙ iforce-at _ (omega arith))

pub returns-in-8 : goal.returns-in-8
returns-in-8 c = sym (ap word_at (omega arith) ∙ ithreshold-at _ (omega arith))

pub returns-in-24 : goal.returns-in-24
returns-in-24 c = sym (ap word_at (omega arith) ∙ topi-at _ (omega arith))

pub returns-in-28 : goal.returns-in-28
returns-in-28 c = sym (ap word_at (omega arith) ∙ claimi-at _ (omega arith))

pub returns-in_default : goal.returns-in_default
returns-in_default c = sym (structures-unused _ (omega arith) (omega arith) (omega arith))
