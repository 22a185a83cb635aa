-- Laws of specs/Domain.antt: one word stored is one part replaced, and each word is read from its part.
-- No contract cites this file. Assumes nothing.
use Prim.Native.Nat.{ℕ, ◌+◌, ◌<◌}
use mathlib.Core.Path.{◌≡◌, sym}
use mathlib.Core.List.{List}
use native.Mathlib.Omega.{arith}
use lib.ListN.{get_or, set}
use lib.Seq.{take-set-lt, take-set-le, get_or-take}
use Rattle.words.proofs.SegmentLaws.{segment-in, segment-before, segment-after, segment-at}
use Rattle.domain.specs.Domain.{Domain, domain_of, with_sources, with_targets, with_pendings, with_enables}
use Rattle.domain.specs.Domain.{with_deliveries}

-- two domains are equal if their parts are
pub domain-path : {d e : Domain} → d.source ≡ e.source → d.target ≡ e.target → d.pending ≡ e.pending
    → d.enable ≡ e.enable → d.delivery ≡ e.delivery → d ≡ e
domain-path s t p e x =
    λ k. record { source = s k; target = t k; pending = p k; enable = e k; delivery = x k }

module _ (l : List ℕ) (i v : ℕ) where
  pub store-source : i < 64 → domain_of (set l i v) ≡ with_sources (domain_of l)
      (set (domain_of l).source i v)
  unfolding domain_of
  store-source h =
      domain-path (take-set-lt 64 l i v h) (segment-before l 64 64 i v (omega arith))
      (segment-before l 128 2 i v (omega arith)) (segment-before l 130 2 i v (omega arith))
      (segment-before l 132 12 i v (omega arith))

  pub store-target : i < 64
      → domain_of (set l (64 + i) v) ≡ with_targets (domain_of l) (set (domain_of l).target i v)
  unfolding domain_of
  store-target h =
      domain-path (take-set-le 64 l (64 + i) v (omega arith)) (segment-in l 64 64 i v h)
      (segment-before l 128 2 (64 + i) v (omega arith)) (segment-before l 130 2 (64 + i) v (omega arith))
      (segment-before l 132 12 (64 + i) v (omega arith))

  pub store-pending : i < 2
      → domain_of (set l (128 + i) v) ≡ with_pendings (domain_of l) (set (domain_of l).pending i v)
  unfolding domain_of
  store-pending h =
      domain-path (take-set-le 64 l (128 + i) v (omega arith))
      (segment-after l 64 64 (128 + i) v (omega arith))
      (segment-in l 128 2 i v h) (segment-before l 130 2 (128 + i) v (omega arith))
      (segment-before l 132 12 (128 + i) v (omega arith))

  pub store-enable : i < 2
      → domain_of (set l (130 + i) v) ≡ with_enables (domain_of l) (set (domain_of l).enable i v)
  unfolding domain_of
  store-enable h =
      domain-path (take-set-le 64 l (130 + i) v (omega arith))
      (segment-after l 64 64 (130 + i) v (omega arith))
      (segment-after l 128 2 (130 + i) v (omega arith)) (segment-in l 130 2 i v h)
      (segment-before l 132 12 (130 + i) v (omega arith))

  pub store-delivery : i < 12
      → domain_of (set l (132 + i) v) ≡ with_deliveries (domain_of l) (set (domain_of l).delivery i v)
  unfolding domain_of
  store-delivery h =
      domain-path (take-set-le 64 l (132 + i) v (omega arith))
      (segment-after l 64 64 (132 + i) v (omega arith))
      (segment-after l 128 2 (132 + i) v (omega arith)) (segment-after l 130 2 (132 + i) v (omega arith))
      (segment-in l 132 12 i v h)

module _ (l : List ℕ) (i : ℕ) where
  pub read-source : i < 64 → get_or l i 0 ≡ get_or (domain_of l).source i 0
  unfolding domain_of
  read-source h = sym (get_or-take 64 l i 0 h)

  pub read-target : i < 64 → get_or l (64 + i) 0 ≡ get_or (domain_of l).target i 0
  unfolding domain_of
  read-target h = sym (segment-at l 64 64 i h)

  pub read-pending : i < 2 → get_or l (128 + i) 0 ≡ get_or (domain_of l).pending i 0
  unfolding domain_of
  read-pending h = sym (segment-at l 128 2 i h)

  pub read-enable : i < 2 → get_or l (130 + i) 0 ≡ get_or (domain_of l).enable i 0
  unfolding domain_of
  read-enable h = sym (segment-at l 130 2 i h)

  pub read-delivery : i < 12 → get_or l (132 + i) 0 ≡ get_or (domain_of l).delivery i 0
  unfolding domain_of
  read-delivery h = sym (segment-at l 132 12 i h)
