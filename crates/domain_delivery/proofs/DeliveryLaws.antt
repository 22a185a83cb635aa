-- Laws of specs/Delivery.antt. No contract cites this file. Assumes nothing.
use Prim.Native.Nat.{ℕ, ◌%◌, ◌≤◌, ◌<◌}
use mathlib.Core.Path.{◌≡◌, refl}
use mathlib.Core.Bool.{Bool, true, false, not, ◌&&◌, or-true}
use mathlib.Core.Logic.{◌≢◌, ◌↔◌, ◌⊎◌, inl, inr, ⊎_elim}
use native.Mathlib.Omega.{arith}
use lib.Dec.{eqb, leb}
use borrow.Author.Tests.{eqb-true, eqb-false, leb-true, ltb-true, not-true}
use borrow.Author.Tests.{lt-ltb, le-leb, lt-leb, eq-eqb, ne_eqb}
use Rattle.words.proofs.TestsLaws.{tested, and_first, and_second, and_both, or_cases}
use Rattle.words.proofs.ThresholdLaws.{passes-itself}
use Rattle.domain_delivery.specs.declared.Delivery.{Delivery}
use Rattle.domain_delivery.specs.Delivery.{switch_of, with_idelivery, with_iforce, with_ithreshold}
use Rattle.domain_delivery.specs.Delivery.{without_force}
use Rattle.domain_delivery.specs.Delivery.{delivery_sound, lets, structure_signals}

-- ---- writes

pub switch-new : (old v : ℕ) → v < 2 → switch_of old v ≡ v
unfolding switch_of
switch-new old v h = simp (le-leb v 1 (omega arith))

pub switch_kept : (old v : ℕ) → 2 ≤ v → switch_of old v ≡ old
unfolding switch_of
switch_kept old v h = simp (lt-leb v 1 h)

pub switch-le : (old v : ℕ) → old ≤ 1 → switch_of old v ≤ 1
unfolding switch_of
switch-le old v h = tested (leb v 1) (λ t. simp t (leb-true v 1 t)) (λ f. simp f h)

-- the three numbers after each
module _ (d : Delivery) where
  pub idelivery-written : (v : ℕ) → with_idelivery d v
      ≡ record { idelivery = switch_of d.idelivery v; iforce = d.iforce; ithreshold = d.ithreshold }
  unfolding with_idelivery
  idelivery-written v = refl

  pub iforce-written : (v : ℕ) → with_iforce d v
      ≡ record { idelivery = d.idelivery; iforce = switch_of d.iforce v; ithreshold = d.ithreshold }
  unfolding with_iforce
  iforce-written v = refl

  pub ithreshold-written : (v : ℕ) → with_ithreshold d v
      ≡ record { idelivery = d.idelivery; iforce = d.iforce; ithreshold = v % 256 }
  unfolding with_ithreshold
  ithreshold-written v = refl

  pub force-cleared : without_force d
      ≡ record { idelivery = d.idelivery; iforce = 0; ithreshold = d.ithreshold }
  unfolding without_force
  force-cleared = refl

-- ---- soundness

module _ (d : Delivery) where
  pub sound-iff : delivery_sound d ≡ true
      ↔ ((d.idelivery ≤ 1) × (d.iforce ≤ 1) × (d.ithreshold < 256))
  unfolding delivery_sound
  sound-iff =
      let first = leb d.idelivery 1 in
      let second = leb d.iforce 1 in (
        λ t. (
          leb-true _ 1 (and_first first second (and_first (first && second) _ t)),
          leb-true _ 1 (and_second first second (and_first (first && second) _ t)),
          ltb-true _ 256 (and_second (first && second) _ t),
        ),
        λ p. and_both _ _ (and_both _ _ (le-leb _ 1 p.0) (le-leb _ 1 p.1)) (lt-ltb _ 256 p.2),
      )

-- each write keeps it
module _ (d : Delivery) (sound : delivery_sound d ≡ true) where
  pub idelivery-keeps : (v : ℕ) → delivery_sound (with_idelivery d v) ≡ true
  unfolding with_idelivery
  idelivery-keeps v =
      let p = (sound-iff d).0 sound in
      (sound-iff (with_idelivery d v)).1 (switch-le d.idelivery v p.0, p.1, p.2)

  pub iforce-keeps : (v : ℕ) → delivery_sound (with_iforce d v) ≡ true
  unfolding with_iforce
  iforce-keeps v =
      let p = (sound-iff d).0 sound in
      (sound-iff (with_iforce d v)).1 (p.0, switch-le d.iforce v p.1, p.2)

  pub ithreshold-keeps : (v : ℕ) → delivery_sound (with_ithreshold d v) ≡ true
  unfolding with_ithreshold
  ithreshold-keeps v =
      let p = (sound-iff d).0 sound in
      (sound-iff (with_ithreshold d v)).1 (p.0, p.1, omega arith)

  pub force-keeps : delivery_sound (without_force d) ≡ true
  unfolding without_force
  force-keeps =
      let p = (sound-iff d).0 sound in
      (sound-iff (without_force d)).1 (p.0, omega arith, p.2)

-- ---- the threshold

-- it shuts out its own priority
pub lets-threshold : (d : Delivery) → d.ithreshold ≢ 0 → lets d d.ithreshold ≡ false
unfolding lets
lets-threshold d n = passes-itself d.ithreshold n

-- ---- the signal

module _ (d : Delivery) (e : Bool) (t : ℕ) where
  pub signals-iff : structure_signals d e t ≡ true
      ↔ ((e ≡ true) × (d.idelivery ≡ 1) × ((d.iforce ≢ 0) ⊎ (t ≢ 0)))
  unfolding structure_signals
  signals-iff =
      let on = eqb d.idelivery 1 in
      let forced = not (eqb d.iforce 0) in (
        λ x. (
          and_first e on (and_first (e && on) _ x),
          eqb-true _ 1 (and_second e on (and_first (e && on) _ x)),
          ⊎_elim (λ y. inl (eqb-false _ 0 (not-true _ y))) (λ y. inr (eqb-false _ 0 (not-true _ y)))
              (or_cases forced _ (and_second (e && on) _ x)),
        ),
        λ p.
            and_both _ _ (and_both _ _ p.0 (eq-eqb _ 1 p.1))
            (⊎_elim (λ n. simp (ne_eqb d.iforce 0 n)) (λ n. simp (ne_eqb t 0 n, or-true)) p.2),
      )
