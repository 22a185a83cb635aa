-- The delivery structures at work: claimi, the settable numbers, the signal to a hart; topi is in Top. 01,
-- "Direct delivery and signals"; the standard 4.8.1, 4.8.2.
--   unforced d h               d with iforce of hart h cleared
--   released d i               d with the pending bit of source i cleared as 4.7 allows in direct mode
--   hart_claimed d h           d after a claimi: the top released; with no top, iforce cleared (4.8.1.5)
--   signal_of d h              the signal of d to hart h (4.8.2)
--   number_at x g              the settable number g of a structure x
--   written_at x g v           x after v was written to its number g
--   setting_of d h g           what the settable number g of hart h reads
--   setting_written d h g v    d after v was written to the settable number g of hart h
-- By messages the whole structure reads 0, ignores writes and claims, keeps its numbers, and does not signal.
-- Neither topi nor claimi looks at IE or idelivery. Assumes nothing.
use Rattle.std.specs.Prelude.{ℕ, Bool, false, cond, not, ◌&&◌, eqb}
use Rattle.source.specs.Pending.{cleared}
use Rattle.domain_delivery.specs.declared.Delivery.{Delivery}
use Rattle.domain_delivery.specs.Delivery.{with_idelivery, with_iforce, with_ithreshold, without_force}
use Rattle.domain_delivery.specs.Delivery.{structure_signals}
use Rattle.domain.specs.Domain.{Domain, is_enabled, by_messages}
use Rattle.domain.specs.Slot.{source_at, with_source}
use Rattle.domain.specs.Structure.{structure_at, with_structure}
unfoldable pub use Rattle.domain_topi.specs.Top.{standing, eligible, precedes, top_from, top_source, topi_of}
use Rattle.domain_direct.specs.declared.Setting.{Setting}
use Rattle.domain_direct.specs.declared.Setting.TheVariants.{Idelivery, Iforce, Ithreshold}

-- ---- what a claim leaves, and the signal

-- [01 S13]
unfoldable pub unforced : Domain → ℕ → Domain
unforced d h = with_structure d h (without_force (structure_at d h))

-- [01 S12]
unfoldable pub released : Domain → ℕ → Domain
released d i = with_source d i (cleared (source_at d i) false)

-- [01 S12 S13]
unfoldable pub hart_claimed : Domain → ℕ → Domain
hart_claimed d h =
    cond (by_messages d) d (cond (eqb (top_source d h) 0) (unforced d h) (released d (top_source d h)))

-- [01 S18]
unfoldable pub signal_of : Domain → ℕ → Bool
signal_of d h = not (by_messages d) && structure_signals (structure_at d h) (is_enabled d) (topi_of d h)

-- ---- the settable numbers

unfoldable pub number_at : Delivery → Setting → ℕ
number_at x Idelivery = x.idelivery
number_at x Iforce = x.iforce
number_at x Ithreshold = x.ithreshold

unfoldable pub written_at : Delivery → Setting → ℕ → Delivery
written_at x Idelivery v = with_idelivery x v
written_at x Iforce v = with_iforce x v
written_at x Ithreshold v = with_ithreshold x v

-- [01 S1 S14]
unfoldable pub setting_of : Domain → ℕ → Setting → ℕ
setting_of d h g = cond (by_messages d) 0 (number_at (structure_at d h) g)

-- [01 S14 S15]
unfoldable pub setting_written : Domain → ℕ → Setting → ℕ → Domain
setting_written d h g v = cond (by_messages d) d (with_structure d h (written_at (structure_at d h) g v))
