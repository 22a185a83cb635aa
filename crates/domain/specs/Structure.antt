-- The delivery structure of a hart, and the domain with it replaced. 01, "Direct delivery and signals".
-- Assumes nothing.
--   structure_at d h        the three numbers of hart h
--   with_structure d h x    d with hart h's numbers as x
use Rattle.std.specs.Prelude.{ℕ, ◌+◌, ◌*◌, get_or, set}
use Rattle.sizes.specs.Sizes.{structure_size}
use Rattle.domain_delivery.specs.declared.Delivery.{Delivery}
use Rattle.domain.specs.Domain.{Domain, with_deliveries}

-- [01 B6]
unfoldable pub structure_at : Domain → ℕ → Delivery
structure_at d h =
    record {
      idelivery = get_or d.delivery (structure_size * h) 0;
      iforce = get_or d.delivery (structure_size * h + 1) 0;
      ithreshold = get_or d.delivery (structure_size * h + 2) 0;
    }

unfoldable pub with_structure : Domain → ℕ → Delivery → Domain
with_structure d h x =
    with_deliveries d
    (set (set (set d.delivery (structure_size * h) x.idelivery) (structure_size * h + 1) x.iforce)
    (structure_size * h + 2) x.ithreshold)
