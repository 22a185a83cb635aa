-- `domain_region::word_at` meets its contract: no row has what is no multiple of 4, and each page has its
-- function.
-- Assumes nothing.
use mathlib.Core.Path.{sym}
use native.Mathlib.Omega.{arith}
use Rattle.domain_region.proofs.RegionLaws.{unaligned-unused}
use Rattle.domain_region.proofs.word_at.Goals as goal

pub returns-then-address-ne0 : goal.returns-then-address-ne0
returns-then-address-ne0 c = sym (unaligned-unused _ (omega arith))
