-- What topi is: the paper's sentences on it as theorems. No contract cites this file. Assumes nothing.
use Prim.Native.Nat.{ℕ, zero, suc, ◌+◌, ◌*◌, ◌^◌, ◌≤◌, ◌<◌}
use mathlib.Core.Path.{◌≡◌, refl, sym, ◌∙◌, subst}
use mathlib.Core.Bool.{true, false}
use mathlib.Core.Logic.{◌≢◌, ◌↔◌}
use native.Mathlib.Decide.{ℕ_discrete}
use native.Mathlib.Omega.{arith}
use lib.Dec.{eqb, ltb}
use borrow.Author.Tests.{ltb-true, ltb-false, eqb-true, eqb-false}
use Rattle.words.proofs.TestsLaws.{tested, not_same}
use Rattle.source_target.specs.Target.{number_of}
use Rattle.source_target.proofs.TargetLaws.{number_of-lt}
use Rattle.domain.specs.Domain.{Domain, by_messages}
use Rattle.domain.specs.Slot.{source_at}
use Rattle.domain_direct.specs.Direct.{eligible, precedes, top_from, top_source, topi_of, hart_claimed}
use Rattle.domain_topi.proofs.TopLaws.{better, precedes-none, precedes-some, better-new, better-late}
use Rattle.domain_topi.proofs.TopLaws.{better-other}
use Rattle.domain_topi.proofs.TopLaws.{top_from-end, top_from-next, top_source-lt}
use Rattle.domain_topi.proofs.WordLaws as word
use Rattle.domain_direct.proofs.DirectLaws as direct

-- the priority number of source i
abbrev pub priority_at : Domain → ℕ → ℕ
priority_at d i = number_of (source_at d i).target

-- what holds below n and at n holds below n + 1
below_next : (P : ℕ → Type 0) (n : ℕ) → ((j : ℕ) → j < n → P j) → P n → (j : ℕ) → j < suc n → P j
below_next P n rest here j h = at (ℕ_discrete n j)
  where
    at : Dec (n ≡ j) → P j
    at (yes e) = subst P e here
    at (no d) = rest j (omega arith)

module _ (d : Domain) (h : ℕ) where
  -- t has no greater priority number than j, and is not above j where they are equal
  abbrev Before : ℕ → ℕ → Type 0
  Before t j = (t ≢ 0) × (priority_at d t ≤ priority_at d j) × (priority_at d j ≡ priority_at d t → t ≤ j)

  -- t is the best of the sources below n, or 0 if none of them counts
  record Best (n t : ℕ) : Type 0 where
    pub within : t < n
    pub counts : t ≢ 0 → eligible d h t ≡ true
    pub least : (j : ℕ) → j < n → 1 ≤ j → eligible d h j ≡ true → Before t j

  -- ---- one source more

  precedes-by : (i b : ℕ) → b ≢ 0 → precedes d i b ≡ ltb (priority_at d i) (priority_at d b)
  precedes-by i b n = precedes-some d i b n (source_at d i) (source_at d b) refl refl

  precedes-less : (i b : ℕ) → b ≢ 0 → precedes d i b ≡ true → priority_at d i < priority_at d b
  precedes-less i b n p =
      ltb-true (priority_at d i) (priority_at d b) (sym (precedes-by i b n) ∙ p)

  precedes-not : (i b : ℕ) → b ≢ 0 → precedes d i b ≡ false → priority_at d b ≤ priority_at d i
  precedes-not i b n p =
      ltb-false (priority_at d i) (priority_at d b) (sym (precedes-by i b n) ∙ p)

  module _ (i b : ℕ) (low : 1 ≤ i) (best : Best i b) where
    abbrev Counted : ℕ → ℕ → Type 0
    Counted t j = 1 ≤ j → eligible d h j ≡ true → Before t j

    best-new : eligible d h i ≡ true → precedes d i b ≡ true → Best (suc i) i
    best-new e p =
        record {
          within = omega arith;
          counts = λ n. e;
          least =
              below_next (Counted i) i
              (λ j q l c. let old = best.least j q l c in
              let less = precedes-less i b old.0 p in
              (λ z. omega arith, omega arith, λ same. absurd (omega arith)))
              (λ l c. (λ z. omega arith, omega arith, λ same. omega arith));
        }

    best-late : precedes d i b ≡ false → Best (suc i) b
    best-late p =
        let some : b ≢ 0 = λ z. not_same (precedes d i b) (precedes-none d i b z) p in
        let more = precedes-not i b some p in
        let within = best.within in
        record {
          within = omega arith;
          counts = best.counts;
          least = below_next (Counted b) i best.least (λ l c. (some, more, λ same. omega arith));
        }

    best-other : eligible d h i ≡ false → Best (suc i) b
    best-other e =
        let within = best.within in
        record {
          within = omega arith;
          counts = best.counts;
          least = below_next (Counted b) i best.least (λ l c. absurd (not_same (eligible d h i) c e));
        }

    best-next : Best (suc i) (better d h i b)
    best-next =
        tested (eligible d h i)
        (λ e. tested (precedes d i b)
        (λ p. rw (better-new d h i b e p) (best-new e p))
        (λ p. rw (better-late d h i b p) (best-late p)))
        (λ e. rw (better-other d h i b e) (best-other e))

  best-from : (m i n b : ℕ) → i + n ≡ m → 1 ≤ i → Best i b → Best m (top_from d h i n b)
  best-from m i zero b e low best = rw (top_from-end d h i b) (subst (λ (k : ℕ). Best k b) (omega arith) best)
  best-from m i (suc n) b e low best =
      rw (top_from-next d h i n b)
      (best-from m (suc i) n (better d h i b) (omega arith) (omega arith) (best-next i b low best))

  best-top : Best 64 (top_source d h)
  unfolding top_source
  best-top =
      best-from 64 1 63 0 refl (omega arith)
      (record {
        within = omega arith;
        counts = λ n. absurd (n refl);
        least = λ j q l c. absurd (omega arith);
      })

  -- ---- topi

  -- a top counts; of the sources that count it has the least priority number and is the lowest that has it
  pub topi-least : top_source d h ≢ 0
      → (eligible d h (top_source d h) ≡ true) × (1 ≤ top_source d h) × (top_source d h ≤ 63)
      × ((i : ℕ) → 1 ≤ i → i ≤ 63 → eligible d h i ≡ true
      → (priority_at d (top_source d h) ≤ priority_at d i)
      × (priority_at d i ≡ priority_at d (top_source d h) → top_source d h ≤ i))
  topi-least some =
      let within = best-top.within in (
        best-top.counts some,
        omega arith,
        omega arith,
        λ i l u c. let p = best-top.least i (omega arith) l c in (p.1, p.2),
      )

  -- with no top no source counts
  pub topi-none : top_source d h ≡ 0 ↔ ((i : ℕ) → 1 ≤ i → i ≤ 63 → eligible d h i ≡ false)
  topi-none = (
    λ z i l u. tested (eligible d h i) (λ c. absurd ((best-top.least i (omega arith) l c).0 z)) (λ f. f),
    λ none. tested (eqb (top_source d h) 0) (λ t. eqb-true (top_source d h) 0 t)
        (λ f. let some = eqb-false (top_source d h) 0 f in
        let within = best-top.within in
        absurd (not_same _ (best-top.counts some) (none (top_source d h) (omega arith) (omega arith)))),
  )

  pub topi-is : by_messages d ≡ false → top_source d h ≢ 0
      → topi_of d h ≡ top_source d h * 65536 + priority_at d (top_source d h)
  topi-is m some = word.topi-direct d h m ∙ word.word_some d (top_source d h) some

  -- in direct mode topi is 0 exactly if the search finds nothing
  pub topi-zero : by_messages d ≡ false → topi_of d h ≡ 0 ↔ top_source d h ≡ 0
  topi-zero m = (
    λ z. tested (eqb (top_source d h) 0) (λ t. eqb-true (top_source d h) 0 t)
        (λ f. let some = eqb-false (top_source d h) 0 f in absurd (some (omega (arith, topi-is m some)))),
    λ z. word.topi-direct d h m ∙ word.word_none d (top_source d h) z,
  )

  -- topi reads 0 exactly if no source counts
  pub topi-zero-iff : by_messages d ≡ false
      → topi_of d h ≡ 0 ↔ ((i : ℕ) → 1 ≤ i → i ≤ 63 → eligible d h i ≡ false)
  topi-zero-iff m = (λ z. topi-none.0 ((topi-zero m).0 z), λ none. (topi-zero m).1 (topi-none.1 none))

  -- by messages topi reads 0, and a claim changes nothing
  pub topi-messages : by_messages d ≡ true → (topi_of d h ≡ 0) × (hart_claimed d h ≡ d)
  topi-messages m = (word.topi-messages d h m, direct.claimed-messages d h m)

  pub topi_of-lt : topi_of d h < 2 ^ 32
  topi_of-lt =
      tested (by_messages d) (λ m. omega (arith, word.topi-messages d h m))
      (λ m. tested (eqb (top_source d h) 0)
      (λ t. omega (arith, (topi-zero m).1 (eqb-true (top_source d h) 0 t)))
      (λ f. omega (
        arith,
        topi-is m (eqb-false (top_source d h) 0 f),
        top_source-lt d h,
        number_of-lt (source_at d (top_source d h)).target,
      )))
