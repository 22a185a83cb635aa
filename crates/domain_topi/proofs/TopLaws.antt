-- Laws of the search for the top in specs/Top.antt: what counts, what goes before what, and what the best
-- of a stretch of sources is. No contract cites this file. Assumes nothing.
--   eligible-..        what counts, test by test
--   precedes-..        what goes before what
--   better-..          one step of the search
--   top_from-..        the search from a source on: step by step, in two parts, where nothing counts
--   top_source-..      the search over all sources
use Prim.Native.Nat.{ℕ, zero, suc, ◌+◌, ◌-◌, ◌≤◌, ◌<◌}
use mathlib.Core.Path.{◌≡◌, refl, sym, ap, ap₂, ◌∙◌}
use mathlib.Core.Bool.{true, false, cond, ◌&&◌, and-false}
use mathlib.Core.Logic.{◌≢◌}
use native.Mathlib.Omega.{arith}
use lib.Dec.{ltb}
use borrow.Author.Tests.{eq-eqb, ne_eqb}
use Rattle.words.proofs.TestsLaws.{tested}
use Rattle.source_target.specs.Target.{number_of}
use Rattle.source.specs.declared.Source.{Source}
use Rattle.domain.specs.Domain.{Domain}
use Rattle.domain.specs.Slot.{source_at}
use Rattle.domain_topi.specs.Top.{standing, eligible, precedes, top_from, top_source}

-- ---- what counts for a hart, and what goes before what; s is source i as it was read

pub eligible-unstanding : (d : Domain) (h i : ℕ) → standing d i ≡ false → eligible d h i ≡ false
unfolding eligible
eligible-unstanding d h i f = simp f

module _ (d : Domain) (i b : ℕ) where
  pub precedes-none : b ≡ 0 → precedes d i b ≡ true
  unfolding precedes
  precedes-none z = simp (eq-eqb b 0 z)

  pub precedes-some : b ≢ 0 → (s t : Source) → s ≡ source_at d i → t ≡ source_at d b
      → precedes d i b ≡ ltb (number_of s.target) (number_of t.target)
  unfolding precedes
  precedes-some n s t hs ht = simp (ne_eqb b 0 n, hs, ht)

-- ---- the search

module _ (d : Domain) (h : ℕ) where
  -- the better of b and source i
  abbrev pub better : ℕ → ℕ → ℕ
  better i b = cond (eligible d h i && precedes d i b) i b

  module _ (i b : ℕ) where
    pub better-new : eligible d h i ≡ true → precedes d i b ≡ true → better i b ≡ i
    better-new e p = simp (e, p)

    pub better-late : precedes d i b ≡ false → better i b ≡ b
    better-late p = simp (p, and-false)

    pub better-other : eligible d h i ≡ false → better i b ≡ b
    better-other e = simp e

    pub better-lt : (m : ℕ) → i < m → b < m → better i b < m
    better-lt m hi hb = tested (eligible d h i && precedes d i b) (λ t. rw t hi) (λ f. rw f hb)

  pub top_from-end : (i b : ℕ) → top_from d h i 0 b ≡ b
  unfolding top_from
  top_from-end i b = refl

  pub top_from-next : (i n b : ℕ) → top_from d h i (suc n) b ≡ top_from d h (suc i) n (better i b)
  unfolding top_from
  top_from-next i n b = refl

  -- the same in a search up to m
  pub top_from-next-to : (i m b : ℕ) → i < m
      → top_from d h i (m - i) b ≡ top_from d h (i + 1) (m - (i + 1)) (better i b)
  top_from-next-to i m b l =
      ap (λ (n : ℕ). top_from d h i n b) (omega arith) ∙ top_from-next i (m - suc i) b
      ∙ ap₂ (λ (j n : ℕ). top_from d h j n (better i b)) (omega arith) (omega arith)

  pub top_from-lt : (m i n b : ℕ) → i + n ≤ m → b < m → top_from d h i n b < m
  top_from-lt m i zero b l hb = rw (top_from-end i b) hb
  top_from-lt m i (suc n) b l hb =
      rw (top_from-next i n b)
      (top_from-lt m (suc i) n (better i b) (omega arith) (better-lt i b m (omega arith) hb))

  -- a stretch of sources in two parts
  top_from-parts : (i m n b : ℕ) → top_from d h i (m + n) b ≡ top_from d h (i + m) n (top_from d h i m b)
  top_from-parts i zero n b =
      ap₂ (λ (j k : ℕ). top_from d h j k b) (omega arith) (omega arith)
      ∙ ap (top_from d h (i + 0) n) (sym (top_from-end i b))
  top_from-parts i (suc m) n b =
      ap (λ (k : ℕ). top_from d h i k b) (omega arith) ∙ top_from-next i (m + n) b
      ∙ top_from-parts (suc i) m n (better i b)
      ∙ ap₂ (λ (j c : ℕ). top_from d h j n c) (omega arith) (sym (top_from-next i m b))

  pub top_from-none : (i n b : ℕ) → ((j : ℕ) → i ≤ j → j < i + n → eligible d h j ≡ false)
      → top_from d h i n b ≡ b
  top_from-none i zero b none = top_from-end i b
  top_from-none i (suc n) b none =
      top_from-next i n b ∙ ap (top_from d h (suc i) n)
      (better-other i b (none i (omega arith) (omega arith)))
      ∙ top_from-none (suc i) n b (λ j l m. none j (omega arith) (omega arith))

  -- sources that do not count are passed over
  pub top_from-skip : (i k m b : ℕ) → i ≤ k → k ≤ m → ((j : ℕ) → i ≤ j → j < k → eligible d h j ≡ false)
      → top_from d h i (m - i) b ≡ top_from d h k (m - k) b
  top_from-skip i k m b l n none =
      ap (λ (x : ℕ). top_from d h i x b) (omega arith) ∙ top_from-parts i (k - i) (m - k) b
      ∙ ap₂ (λ (j c : ℕ). top_from d h j (m - k) c) (omega arith)
      (top_from-none i (k - i) b (λ j p q. none j p (omega arith)))

  -- ---- all sources

  pub top_source-lt : top_source d h < 64
  unfolding top_source
  top_source-lt = top_from-lt 64 1 63 0 (omega arith) (omega arith)

-- for the functions that go on with the top
pub ruleset top_below = (top_source-lt)
