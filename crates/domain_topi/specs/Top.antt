-- The top of a hart in a domain with direct delivery: topi. 01, "Direct delivery and signals"; the standard
-- 4.8.1.4.
--   standing d i              source i is pending and enabled: Rattle.domain
--   eligible d h i            source i counts for hart h: it is pending and enabled, its target names h, and
--                             the threshold of h lets its priority through (4.8.1.3, 4.8.1.4)
--   precedes d i b            source i goes before b: there is no b (0), or i has the lesser priority number
--   top_from d h i n b        the best of b and the n sources from i on that count for h
--   top_source d h            the source that topi names, or 0: of those of 1 to 63 that count for h the one
--                             with the least priority number, the lowest among equals
--   topi_of d h               topi: source × 65536 + priority, or 0 (4.8.1.4)
-- By messages topi reads 0. It looks at neither IE nor idelivery. Assumes nothing.
use Rattle.std.specs.Prelude.{ℕ, zero, suc, ◌+◌, ◌*◌, Bool, cond, ◌&&◌, ◌||◌, eqb, ltb}
use Rattle.sizes.specs.Sizes.{source_count}
use Rattle.source_target.specs.Target.{hart_of, number_of}
use Rattle.domain_delivery.specs.Delivery.{lets}
use Rattle.domain.specs.Domain.{Domain, by_messages}
use Rattle.domain.specs.Slot.{source_at}
use Rattle.domain.specs.Structure.{structure_at}
unfoldable pub use Rattle.domain.specs.Slot.{standing}

-- [01 S6]
unfoldable pub eligible : Domain → ℕ → ℕ → Bool
eligible d h i =
    standing d i && eqb (hart_of (source_at d i).target) h
    && lets (structure_at d h) (number_of (source_at d i).target)

-- [01 S7 S8 M6 T7]
unfoldable pub precedes : Domain → ℕ → ℕ → Bool
precedes d i b = eqb b 0 || ltb (number_of (source_at d i).target) (number_of (source_at d b).target)

-- [01 S7 S8]
unfoldable pub top_from : Domain → ℕ → ℕ → ℕ → ℕ → ℕ
top_from d h i zero b = b
top_from d h i (suc n) b = top_from d h (suc i) n (cond (eligible d h i && precedes d i b) i b)

unfoldable pub top_source : Domain → ℕ → ℕ
top_source d h = top_from d h 1 source_count 0

-- [01 S10 T6]
unfoldable pub topi_of : Domain → ℕ → ℕ
topi_of d h =
    cond (by_messages d || eqb (top_source d h) 0) 0
    (top_source d h * 65536 + number_of (source_at d (top_source d h)).target)
