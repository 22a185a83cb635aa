-- A delivery structure put into a domain is read again, and the others and the sources stay. No contract
-- cites this file. Assumes nothing.
use Prim.Native.Nat.{ℕ, ◌+◌, ◌*◌, ◌<◌}
use mathlib.Core.Path.{◌≡◌, refl, ◌∙◌}
use mathlib.Core.List.{List}
use mathlib.Core.Logic.{◌≢◌}
use native.Mathlib.Omega.{arith}
use lib.ListN.{length, get_or, set, length-set}
use lib.Seq.{get_or-set_same, get_or-set_other}
use Rattle.domain_delivery.specs.declared.Delivery.{Delivery}
use Rattle.domain.specs.Domain.{Domain}
use Rattle.domain.specs.Slot.{source_at}
use Rattle.domain.specs.Structure.{structure_at, with_structure}
use Rattle.domain_laws.specs.Shape.{DomainShaped}

-- three elements stored in a row
module _ (l : List ℕ) (p a b c : ℕ) where
  abbrev three : List ℕ
  three = set (set (set l p a) (p + 1) b) (p + 2) c

  three-first : p + 2 < length l → get_or three p 0 ≡ a
  three-first h =
      get_or-set_other (set (set l p a) (p + 1) b) (p + 2) p c 0 (λ q. omega arith)
      ∙ get_or-set_other (set l p a) (p + 1) p b 0 (λ q. omega arith) ∙ get_or-set_same l p a 0 (omega arith)

  three-second : p + 2 < length l → get_or three (p + 1) 0 ≡ b
  three-second h =
      get_or-set_other (set (set l p a) (p + 1) b) (p + 2) (p + 1) c 0 (λ q. omega arith)
      ∙ get_or-set_same (set l p a) (p + 1) b 0 (simp length-set (omega arith))

  three_third : p + 2 < length l → get_or three (p + 2) 0 ≡ c
  three_third h = get_or-set_same (set (set l p a) (p + 1) b) (p + 2) c 0 (simp length-set h)

  three-other : (k : ℕ) → k ≢ p → k ≢ p + 1 → k ≢ p + 2 → get_or three k 0 ≡ get_or l k 0
  three-other k x y z =
      get_or-set_other (set (set l p a) (p + 1) b) (p + 2) k c 0 z
      ∙ get_or-set_other (set l p a) (p + 1) k b 0 y ∙ get_or-set_other l p k a 0 x

module _ (d : Domain) (h : ℕ) (x : Delivery) where
  pub structure_at-with_structure-same : DomainShaped d → h < 4 → structure_at (with_structure d h x) h ≡ x
  unfolding structure_at with_structure
  structure_at-with_structure-same shaped q =
      let within : 3 * h + 2 < length d.delivery = omega arith in
      λ k. record {
        idelivery = three-first d.delivery (3 * h) x.idelivery x.iforce x.ithreshold within k;
        iforce = three-second d.delivery (3 * h) x.idelivery x.iforce x.ithreshold within k;
        ithreshold = three_third d.delivery (3 * h) x.idelivery x.iforce x.ithreshold within k;
      }

  pub structure_at-with_structure-other : (g : ℕ) → g ≢ h
      → structure_at (with_structure d h x) g ≡ structure_at d g
  unfolding structure_at with_structure
  structure_at-with_structure-other g n =
      let stays = three-other d.delivery (3 * h) x.idelivery x.iforce x.ithreshold in
      λ k. record {
        idelivery = stays (3 * g) (λ q. n (omega arith)) (λ q. omega arith) (λ q. omega arith) k;
        iforce = stays (3 * g + 1) (λ q. omega arith) (λ q. n (omega arith)) (λ q. omega arith) k;
        ithreshold = stays (3 * g + 2) (λ q. omega arith) (λ q. omega arith) (λ q. n (omega arith)) k;
      }

  pub source_at-with_structure : (i : ℕ) → source_at (with_structure d h x) i ≡ source_at d i
  unfolding source_at with_structure
  source_at-with_structure i = refl

  pub shaped-with_structure : DomainShaped d → DomainShaped (with_structure d h x)
  unfolding with_structure
  shaped-with_structure shaped =
      record {
        sources = shaped.sources;
        targets = shaped.targets;
        pendings = shaped.pendings;
        enables = shaped.enables;
        deliveries = simp length-set shaped.deliveries;
      }
