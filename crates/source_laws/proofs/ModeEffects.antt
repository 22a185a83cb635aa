-- The sourcecfg words that a write stores, and what an inactive one means: no level source, and a wire that
-- reads low. No contract cites this file. Assumes nothing.
use Prim.Native.Nat.{ℕ, zero, suc, ◌≤◌, ◌<◌}
use mathlib.Core.Path.{◌≡◌, refl, sym, ap, ◌∙◌, subst}
use mathlib.Core.Bool.{Bool, true, false, not, cond, ◌&&◌, ◌||◌, true≢false}
use mathlib.Core.Logic.{◌⊎◌, inl, inr}
use native.Mathlib.Omega.{arith}
use lib.Dec.{eqb}
use borrow.Author.Tests.{eqb-true}
use Rattle.words.specs.Bits.{bit_of, has_bit}
use Rattle.words.specs.Parts.{field_of}
use Rattle.words.proofs.PartsLaws.{field_of-lt}
use Rattle.words.proofs.TestsLaws.{tested, not_same}
use Rattle.source_mode.specs.Mode.{is_active, is_level, is_rectified, kept_mode, source_word}

-- ---- the words that a write stores: six modes, and 1024 in the machine domain

module _ (P : ℕ → Type 0) (p0 : P 0) (p1 : P 1) (p4 : P 4) (p5 : P 5) (p6 : P 6) (p7 : P 7) where
  field-cases : (x : ℕ) → x < 8 → P (cond (eqb x 2 || eqb x 3) 0 x)
  field-cases zero h = p0
  field-cases (suc zero) h = p1
  field-cases (suc (suc zero)) h = p0
  field-cases (suc (suc (suc zero))) h = p0
  field-cases (suc (suc (suc (suc zero)))) h = p4
  field-cases (suc (suc (suc (suc (suc zero))))) h = p5
  field-cases (suc (suc (suc (suc (suc (suc zero)))))) h = p6
  field-cases (suc (suc (suc (suc (suc (suc (suc zero))))))) h = p7
  field-cases (suc (suc (suc (suc (suc (suc (suc (suc x)))))))) h = absurd (omega arith)

  kept_mode-cases : (v : ℕ) → P (kept_mode v)
  unfolding kept_mode
  kept_mode-cases v = field-cases (field_of v 0 3) (field_of-lt v 0 3)

  module _ (c : Bool) (p1024 : c ≡ false → P 1024) where
    child-cases : (has : Bool) (v : ℕ) → c ≡ true → P (source_word c has v)
    unfolding source_word
    child-cases has v e =
        rw e (tested (has && not (has_bit v 10)) (λ t. rw t (kept_mode-cases v)) (λ f. rw f p0))

    machine-cases : (has : Bool) (v : ℕ) → c ≡ false → P (source_word c has v)
    unfolding source_word
    machine-cases has v e = rw e (tested (has_bit v 10) (λ t. rw t (p1024 e)) (λ f. rw f (kept_mode-cases v)))

    -- what holds of each of these words holds of what a write stores
    pub source_word-cases : (has : Bool) (v : ℕ) → P (source_word c has v)
    source_word-cases has v = tested c (child-cases has v) (machine-cases has v)

    -- and of a word that would be stored as it is
    pub range-cases : (w : ℕ) → w ≡ source_word c true w → P w
    range-cases w e = subst P (sym e) (source_word-cases true w)

-- a choice between equals
either : (c : Bool) (w : ℕ) → cond c w w ≡ w
either true w = refl
either false w = refl

module _ (c : Bool) where
  -- to write what was stored would store it as it is
  pub source_word-back : (has : Bool) (v : ℕ) → source_word c true (source_word c has v) ≡ source_word c has v
  unfolding source_word kept_mode has_bit bit_of field_of
  source_word-back =
      source_word-cases (λ w. source_word c true w ≡ w) (either c 0) (either c 1) (either c 4) (either c 5)
      (either c 6) (either c 7) c (λ e. rw e)

  pub range-zero : 0 ≡ source_word c true 0
  unfolding source_word kept_mode has_bit bit_of field_of
  range-zero = sym (either c 0)

  pub range-delegated : c ≡ false → 1024 ≡ source_word c true 1024
  unfolding source_word has_bit bit_of
  range-delegated e = rw e

  -- 1024 is the greatest of them
  pub range-greatest : (w : ℕ) → w ≡ source_word c true w → 1024 ≤ w → w ≡ 1024
  range-greatest =
      range-cases (λ w. 1024 ≤ w → w ≡ 1024) (λ h. omega arith) (λ h. omega arith) (λ h. omega arith)
      (λ h. omega arith) (λ h. omega arith) (λ h. omega arith) c (λ e h. refl)

  -- an inactive one is 0, or delegates, which only the machine domain's do
  pub range-inactive : (w : ℕ) → w ≡ source_word c true w → is_active w ≡ false
      → (w ≡ 0) ⊎ ((w ≡ 1024) × (c ≡ false))
  unfolding is_active
  range-inactive =
      range-cases (λ w. is_active w ≡ false → (w ≡ 0) ⊎ ((w ≡ 1024) × (c ≡ false))) (λ f. inl refl)
      (λ f. absurd (true≢false f)) (λ f. absurd (true≢false f)) (λ f. absurd (true≢false f))
      (λ f. absurd (true≢false f)) (λ f. absurd (true≢false f)) c (λ e f. inr (refl, e))

-- ---- an inactive word

pub active-delegated : is_active 1024 ≡ false
unfolding is_active
active-delegated = refl

module _ (w : ℕ) where
  -- it is none of the active ones
  inactive-other : is_active w ≡ false → (k : ℕ) → is_active k ≡ true → eqb w k ≡ false
  inactive-other f k t =
      tested (eqb w k)
      (λ e. absurd (not_same (is_active k) t (ap is_active (sym (eqb-true w k e)) ∙ f))) (λ n. n)

  pub level-inactive : is_active w ≡ false → is_level w ≡ false
  unfolding is_active is_level
  level-inactive f = rw (inactive-other f 6 refl, inactive-other f 7 refl)

  pub rectified-inactive : (wire : Bool) → is_active w ≡ false → is_rectified w wire ≡ false
  unfolding is_active is_rectified
  rectified-inactive wire f = simp (
    inactive-other f 4 refl,
    inactive-other f 5 refl,
    inactive-other f 6 refl,
    inactive-other f 7 refl,
  )

  pub active-level : is_level w ≡ true → is_active w ≡ true
  active-level l = tested (is_active w) (λ t. t) (λ f. absurd (not_same (is_level w) l (level-inactive f)))
