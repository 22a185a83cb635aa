-- Laws of `lowest` of specs/Search.antt: what the search for the lowest finds. No contract cites this file.
-- Assumes nothing.
--   lowest-hit, lowest-miss      one step of the search
--   lowest-lt, lowest-ge         where what is found lies
--   lowest-found, lowest-first   what is found holds, and nothing before it does
--   lowest-none-1, lowest-none-2 0 is found exactly if it holds nowhere
--   lowest-same                  two tests that agree find the same
--   lowest-under, lowest-shut    a second test that no number passes above one that does not is asked once
use Prim.Native.Nat.{ℕ, zero, suc, ◌+◌, ◌-◌, ◌≤◌, ◌<◌}
use mathlib.Core.Path.{◌≡◌, refl, sym, ap, ap₂, ◌∙◌}
use mathlib.Core.Bool.{Bool, true, false, ◌&&◌, and-false}
use mathlib.Core.Logic.{◌≢◌}
use native.Mathlib.Omega.{arith}
use Rattle.words.proofs.TestsLaws.{tested, and_both, from_next}
use Rattle.file_search.specs.Search.{lowest}

module _ (p : ℕ → Bool) where
  pub lowest-hit : (i k : ℕ) → p i ≡ true → lowest p i (suc k) ≡ i
  unfolding lowest
  lowest-hit i k e = simp e

  pub lowest-miss : (i k : ℕ) → p i ≡ false → lowest p i (suc k) ≡ lowest p (suc i) k
  unfolding lowest
  lowest-miss i k e = simp e

  -- the same in a search up to m, as the code counts
  pub lowest-hit-to : (i m : ℕ) → i < m → p i ≡ true → lowest p i (m - i) ≡ i
  lowest-hit-to i m h e = ap (lowest p i) (omega arith) ∙ lowest-hit i (m - suc i) e

  pub lowest-miss-to : (i m : ℕ) → i < m → p i ≡ false → lowest p i (m - i) ≡ lowest p (i + 1) (m - (i + 1))
  lowest-miss-to i m h e =
      ap (lowest p i) (omega arith) ∙ lowest-miss i (m - suc i) e ∙ ap₂ (lowest p) (omega arith) (omega arith)

  pub lowest-lt : (i k : ℕ) → 1 ≤ i → lowest p i k < i + k
  unfolding lowest
  lowest-lt i zero h = omega arith
  lowest-lt i (suc k) h =
      tested (p i) (λ t. omega (arith, lowest-hit i k t))
      (λ f. omega (arith, lowest-miss i k f, lowest-lt (suc i) k (omega arith)))

  pub lowest-ge : (i k : ℕ) → lowest p i k ≢ 0 → i ≤ lowest p i k
  unfolding lowest
  lowest-ge i zero n = absurd (n refl)
  lowest-ge i (suc k) n =
      tested (p i) (λ t. omega (arith, lowest-hit i k t))
      (λ f. omega (arith, lowest-miss i k f, lowest-ge (suc i) k (λ z. n (lowest-miss i k f ∙ z))))

  pub lowest-found : (i k : ℕ) → lowest p i k ≢ 0 → p (lowest p i k) ≡ true
  lowest-found i zero n = absurd (n (unfold lowest in refl))
  lowest-found i (suc k) n =
      tested (p i) (λ t. ap p (lowest-hit i k t) ∙ t)
      (λ f. ap p (lowest-miss i k f) ∙ lowest-found (suc i) k (λ z. n (lowest-miss i k f ∙ z)))

  pub lowest-first : (i k j : ℕ) → i ≤ j → j < lowest p i k → p j ≡ false
  lowest-first i zero j l h = absurd (unfold lowest in omega arith)
  lowest-first i (suc k) j l h =
      tested (p i) (λ t. absurd (omega (arith, lowest-hit i k t)))
      (λ f. from_next (λ (m : ℕ). m < lowest p i (suc k) → p m ≡ false) i (λ q. f)
      (λ m n q. lowest-first (suc i) k m n (omega (arith, lowest-miss i k f))) j l h)

  pub lowest-none-1 : (i k : ℕ) → 1 ≤ i → lowest p i k ≡ 0 → (j : ℕ) → i ≤ j → j < i + k → p j ≡ false
  lowest-none-1 i zero o z j l h = absurd (omega arith)
  lowest-none-1 i (suc k) o z j l h =
      tested (p i) (λ t. absurd (omega (arith, lowest-hit i k t)))
      (λ f. from_next (λ (m : ℕ). m < i + suc k → p m ≡ false) i (λ q. f)
      (λ m n q. lowest-none-1 (suc i) k (omega arith) (sym (lowest-miss i k f) ∙ z) m n (omega arith)) j l h)

  pub lowest-none-2 : (i k : ℕ) → ((j : ℕ) → i ≤ j → j < i + k → p j ≡ false) → lowest p i k ≡ 0
  unfolding lowest
  lowest-none-2 i zero h = refl
  lowest-none-2 i (suc k) h =
      lowest-miss i k (h i (omega arith) (omega arith))
      ∙ lowest-none-2 (suc i) k (λ j l m. h j (omega arith) (omega arith))

pub lowest-same : (p q : ℕ → Bool) (i k : ℕ) → ((j : ℕ) → i ≤ j → j < i + k → p j ≡ q j)
    → lowest p i k ≡ lowest q i k
unfolding lowest
lowest-same p q i zero h = refl
lowest-same p q i (suc k) h =
    let here = h i (omega arith) (omega arith) in
    let rest = lowest-same p q (suc i) k (λ j l m. h j (omega arith) (omega arith)) in
    tested (p i)
    (λ t. lowest-hit p i k t ∙ sym (lowest-hit q i k (sym here ∙ t)))
    (λ f. lowest-miss p i k f ∙ rest ∙ sym (lowest-miss q i k (sym here ∙ f)))

-- ---- a second test

module _ (p q : ℕ → Bool) where
  abbrev both : ℕ → Bool
  both i = p i && q i

  pub lowest-under : (i k : ℕ) → q (lowest p i k) ≡ true → lowest both i k ≡ lowest p i k
  unfolding lowest
  lowest-under i zero e = refl
  lowest-under i (suc k) e =
      tested (p i)
      (λ t. let here = lowest-hit p i k t in
      lowest-hit both i k (and_both (p i) (q i) t (sym (ap q here) ∙ e)) ∙ sym here)
      (λ f. let next = lowest-miss p i k f in
      lowest-miss both i k (simp f) ∙ lowest-under (suc i) k (sym (ap q next) ∙ e) ∙ sym next)

  pub lowest-shut : ((i j : ℕ) → i ≤ j → q i ≡ false → q j ≡ false) → (i k : ℕ)
      → q (lowest p i k) ≡ false → lowest both i k ≡ 0
  lowest-shut up i zero e = unfold lowest in refl
  lowest-shut up i (suc k) e =
      tested (p i)
      (λ t. let here = sym (ap q (lowest-hit p i k t)) ∙ e in
      lowest-none-2 both i (suc k) (λ j l h. simp (up i j l here, and-false)))
      (λ f. lowest-miss both i k (simp f) ∙ lowest-shut up (suc i) k (sym (ap q (lowest-miss p i k f)) ∙ e))
