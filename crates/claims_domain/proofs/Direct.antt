-- Claims 43 to 49, from the laws of direct delivery. Assumes nothing.
use Prim.Native.Nat.{ℕ, ◌<◌}
use mathlib.Core.Path.{◌≡◌, sym, ap}
use mathlib.Core.Bool.{true, ◌&&◌, or-true}
use mathlib.Core.Logic.{◌≢◌, ◌⊎◌, inl, inr, ⊎_elim}
use native.Mathlib.Omega.{arith}
use lib.Dec.{eqb, ltb}
use borrow.Author.Tests.{eqb-true, ltb-true, eq-eqb, lt-ltb}
use Rattle.words.proofs.TestsLaws.{tested, and_first, and_second, or_cases}
use Rattle.source_target.specs.Target.{hart_of, number_of}
use Rattle.source.specs.declared.Source.{Source}
use Rattle.domain_delivery.specs.declared.Delivery.{Delivery}
use Rattle.words.specs.Threshold.{passes}
use Rattle.domain_delivery.specs.Delivery.{lets}
use Rattle.domain.specs.Domain.{Domain, domaincfg_of, genmsi_of}
use Rattle.domain.specs.Slot.{source_at}
use Rattle.domain.specs.Structure.{structure_at}
use Rattle.domain_direct.specs.Direct.{standing, eligible, top_source, hart_claimed}
use Rattle.domain_direct_laws.proofs.TopEffects.{topi-least, topi-is, topi-zero, topi-zero-iff, topi-messages}
use Rattle.domain_direct_laws.proofs.ClaimEffects.{claim-zero, claim-other, claim-level, claim-other-mode}
use Rattle.domain_direct_laws.proofs.ClaimEffects.{signal-iff}
use Rattle.claims_domain.specs.Direct.{Claim-43, Claim-44, Claim-45, Claim-46, Claim-47, Claim-48}
use Rattle.claims_domain.specs.Direct.{Claim-49}

pub claim-43 : Claim-43
unfolding Claim-43
claim-43 = topi-zero-iff

pub claim-44 : Claim-44
unfolding Claim-44
claim-44 d h m some =
    let source : top_source d h ≢ 0 = λ z. some ((topi-zero d h m).1 z) in
    let top = topi-least d h source in
    (topi-is d h m source, top.1, top.2, top.0, top.3)

pub claim-45 : Claim-45
unfolding Claim-45
claim-45 = topi-messages

pub claim-46 : Claim-46
unfolding Claim-46
claim-46 d h m z = claim-zero d h m z

pub claim-47 : Claim-47
unfolding Claim-47
claim-47 = signal-iff

-- ---- which source counts

module _ (x : Delivery) (p : ℕ) where
  lets-on : lets x p ≡ true → (x.ithreshold ≡ 0) ⊎ (p < x.ithreshold)
  unfolding lets passes
  lets-on e =
      ⊎_elim (λ t. inl (eqb-true x.ithreshold 0 t)) (λ t. inr (ltb-true p x.ithreshold t))
      (or_cases (eqb x.ithreshold 0) (ltb p x.ithreshold) e)

  lets-of : (x.ithreshold ≡ 0) ⊎ (p < x.ithreshold) → lets x p ≡ true
  unfolding lets passes
  lets-of =
      ⊎_elim (λ z. simp (eq-eqb x.ithreshold 0 z)) (λ l. simp (lt-ltb p x.ithreshold l, or-true))

pub claim-48 : Claim-48
unfolding Claim-48 eligible standing
claim-48 d h i =
    let s = source_at d i in
    let here = eqb (hart_of s.target) h in
    let through = lets (structure_at d h) (number_of s.target) in
    let before = s.pending && s.enabled && here in
    let apart : (before && through) ≡ true → (before ≡ true) × (through ≡ true) =
    λ e. (and_first before through e, and_second before through e) in (
      (
        λ e. let two = and_first (s.pending && s.enabled) here (apart e).0 in (
          and_first s.pending s.enabled two,
          and_second s.pending s.enabled two,
          eqb-true (hart_of s.target) h (and_second (s.pending && s.enabled) here (apart e).0),
          lets-on (structure_at d h) (number_of s.target) (apart e).1,
        ),
        λ p. rw (p.0, p.1, eq-eqb (hart_of s.target) h p.2)
            (lets-of (structure_at d h) (number_of s.target) p.3),
      ),
      λ n same. tested (before && through)
          (λ e. absurd (⊎_elim n (λ l. omega arith)
          (lets-on (structure_at d h) (number_of s.target) (apart e).1)))
          (λ f. f),
    )

-- ---- what a claim leaves

-- domaincfg and genmsi stand in the places of a source 0
own_same : (d e : Domain) → source_at e 0 ≡ source_at d 0
    → (domaincfg_of e ≡ domaincfg_of d) × (genmsi_of e ≡ genmsi_of d)
unfolding domaincfg_of genmsi_of source_at
own_same d e z = (ap (λ (s : Source). s.mode) z, ap (λ (s : Source). s.target) z)

pub claim-49 : Claim-49
unfolding Claim-49
claim-49 d h shaped direct answers =
    let some : top_source d h ≢ 0 = λ z. answers ((topi-zero d h direct).1 z) in
    let rest = claim-other d h direct some in
    let own = own_same d (hart_claimed d h) (rest.0 0 (λ e. some (sym e))) in (
      own.0,
      own.1,
      rest.1,
      rest.0,
      (
        λ l. (claim-other-mode d h direct some shaped l).0,
        λ l. claim-level d h direct some shaped l (top_source d h),
      ),
    )
