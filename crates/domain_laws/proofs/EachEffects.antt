-- Laws of specs/Each.antt: sources replaced one after the other are as if each were replaced alone, and every
-- other source stays. No contract cites this file. Assumes nothing.
use Prim.Native.Nat.{ℕ, zero, suc, ◌+◌, ◌≤◌, ◌<◌}
use mathlib.Core.Path.{◌≡◌, sym, ap, ap₂, ◌∙◌}
use mathlib.Core.Bool.{true, false, cond, ◌&&◌}
use mathlib.Core.Logic.{◌≢◌}
use native.Mathlib.Decide.{ℕ_discrete}
use native.Mathlib.Omega.{arith}
use lib.Dec.{eqb, ltb}
use borrow.Author.Tests.{eq-eqb, ne_eqb, lt-ltb, le-ltb, le-leb, lt-leb, ltb-true, ltb-false}
use Rattle.words.proofs.TestsLaws.{tested}
use Rattle.source.specs.declared.Source.{Source}
use Rattle.domain.specs.Domain.{Domain}
use Rattle.domain.specs.Slot.{source_at, with_source}
use Rattle.domain_laws.specs.Shape.{DomainShaped}
use Rattle.domain_laws.specs.Became.{Touched}
use Rattle.domain_laws.specs.Each.{with_each, among}
use Rattle.domain_laws.proofs.BecameEffects.{touched_none, became-touched, touched-as}
use Rattle.domain_laws.proofs.BecameEffects.{touched-with_source}

-- ---- the n numbers from i on

module _ (i n j : ℕ) where
  pub among_in : i ≤ j → j < i + n → among i n j ≡ true
  unfolding among
  among_in l h = rw (le-leb i j l, lt-ltb j (i + n) h)

  pub among_below : j < i → among i n j ≡ false
  unfolding among
  among_below h = rw (lt-leb i j h)

  pub among-above : i + n ≤ j → among i n j ≡ false
  unfolding among
  among-above h = rw (le-leb i j (omega arith), le-ltb j (i + n) h)

among_none : (i j : ℕ) → among i 0 j ≡ false
among_none i j =
    tested (ltb j i) (λ t. among_below i 0 j (ltb-true j i t))
    (λ f. among-above i 0 j (omega (arith, ltb-false j i f)))

-- the first of them taken off
among_next : (i n j : ℕ) → i ≢ j → among (suc i) n j ≡ among i (suc n) j
among_next i n j x =
    tested (ltb j i)
    (λ t. let low = ltb-true j i t in
    among_below (suc i) n j (omega arith) ∙ sym (among_below i (suc n) j low))
    (λ f. let high = ltb-false j i f in
    let more : i < j = omega (arith, x) in
    unfold among in ap₂ ◌&&◌ (le-leb (suc i) j more ∙ sym (le-leb i j high)) (ap (ltb j) (omega arith)))

-- ---- each of them replaced

-- what the first turn and the later ones make of source j is what one turn does, if j is among them
module _ (f : Source → Source) (s : Source) (i n j : ℕ) where
  abbrev first : Source
  first = cond (eqb i j) (f s) s

  once : Dec (i ≡ j) → cond (among (suc i) n j) (f first) first ≡ cond (among i (suc n) j) (f s) s
  once (yes e) =
      rw (
        eq-eqb i j e,
        among_below (suc i) n j (omega arith),
        among_in i (suc n) j (omega arith) (omega arith),
      )
  once (no x) = rw (ne_eqb i j x, among_next i n j x)

module _ (f : ℕ → Source → Source) where
  pub touched-with_each : (d : Domain) (i n : ℕ) → DomainShaped d → 1 ≤ i → i + n ≤ 64
      → Touched d (with_each f d i n) (λ j s. cond (among i n j) (f j s) s)
  unfolding with_each
  touched-with_each d i zero shaped l h =
      touched-as (touched_none d shaped) (λ j s. cond (among i 0 j) (f j s) s)
      (λ j _ _. rw (among_none i j))
  touched-with_each d i (suc n) shaped l h =
      let one = touched-with_source d i f shaped l (omega arith) in
      let rest = touched-with_each (with_source d i (f i (source_at d i))) (suc i) n one.shaped (omega arith)
      (omega arith) in
      touched-as (became-touched one rest) (λ j s. cond (among i (suc n) j) (f j s) s)
      (λ j _ _. once (f j) (source_at d j) i n j (ℕ_discrete i j))
