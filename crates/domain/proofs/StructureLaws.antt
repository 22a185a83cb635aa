-- Laws of specs/Structure.antt: what the code reads and stores. No contract cites this file. Assumes nothing.
use Prim.Native.Nat.{ℕ, ◌+◌, ◌*◌, ◌<◌}
use mathlib.Core.Path.{◌≡◌, ap, ◌∙◌}
use mathlib.Core.List.{List}
use native.Mathlib.Omega.{arith}
use lib.ListN.{get_or, set}
use Rattle.domain_delivery.specs.declared.Delivery.{Delivery}
use Rattle.domain.specs.Domain.{Domain, domain_of, with_deliveries}
use Rattle.domain.specs.Structure.{structure_at, with_structure}
use Rattle.domain.proofs.DomainLaws.{store-delivery, read-delivery}

module _ (l : List ℕ) (h : ℕ) (q : h < 4) where
  pub structure-read : record {
    idelivery = get_or l (132 + 3 * h) 0;
    iforce = get_or l (132 + (3 * h + 1)) 0;
    ithreshold = get_or l (132 + (3 * h + 2)) 0;
  } ≡ structure_at (domain_of l) h
  unfolding structure_at
  structure-read =
      λ k. record {
        idelivery = read-delivery l (3 * h) (omega arith) k;
        iforce = read-delivery l (3 * h + 1) (omega arith) k;
        ithreshold = read-delivery l (3 * h + 2) (omega arith) k;
      }

  pub structure-stored : (x : Delivery)
      → domain_of
      (set (set (set l (132 + 3 * h) x.idelivery) (132 + (3 * h + 1)) x.iforce) (132 + (3 * h + 2))
      x.ithreshold)
      ≡ with_structure (domain_of l) h x
  unfolding with_structure
  structure-stored x =
      let first = set l (132 + 3 * h) x.idelivery in
      let second = set first (132 + (3 * h + 1)) x.iforce in
      store-delivery second (3 * h + 2) x.ithreshold (omega arith)
      ∙ ap (λ (d : Domain). with_deliveries d (set d.delivery (3 * h + 2) x.ithreshold))
      (store-delivery first (3 * h + 1) x.iforce (omega arith)
      ∙ ap (λ (d : Domain). with_deliveries d (set d.delivery (3 * h + 1) x.iforce))
      (store-delivery l (3 * h) x.idelivery (omega arith)))
