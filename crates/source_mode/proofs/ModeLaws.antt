-- Laws of specs/Mode.antt. No contract cites this file. Assumes nothing.
use Prim.Native.Nat.{ℕ, ◌<◌}
use mathlib.Core.Path.{◌≡◌, ap, ◌∙◌}
use mathlib.Core.Bool.{Bool, true, false, not, ◌||◌, and-false, or-true, or-false}
use mathlib.Core.Logic.{◌≢◌, ◌⊎◌, ⊎_elim}
use lib.Dec.{eqb, ltb, lit<}
use borrow.Author.Tests.{eq-eqb, ne_eqb}
use Rattle.words.specs.Bits.{has_bit}
use Rattle.words.specs.Parts.{field_of}
use Rattle.words.proofs.PartsLaws.{field_of-lt}
use Rattle.words.proofs.TestsLaws.{tested}
use Rattle.source_mode.specs.Mode.{is_active, is_level, is_rectified, kept_mode, source_word}

module _ (m : ℕ) where
  pub active-zero : m ≡ 0 → is_active m ≡ false
  unfolding is_active
  active-zero e = simp (eq-eqb m 0 e)

  pub active-other : m ≢ 0 → is_active m ≡ ltb m 1024
  unfolding is_active
  active-other h = simp (ne_eqb m 0 h)

  pub level-one : m ≡ 6 → is_level m ≡ true
  unfolding is_level
  level-one e = simp (eq-eqb m 6 e)

  pub level-other : m ≢ 6 → is_level m ≡ eqb m 7
  unfolding is_level
  level-other h = simp (ne_eqb m 6 h)

-- a wire read by its mode
module _ (wire : Bool) where
  pub rectified-straight : (m : ℕ) → (m ≡ 4) ⊎ (m ≡ 6) → is_rectified m wire ≡ wire
  unfolding is_rectified
  rectified-straight m =
      ⊎_elim (λ e. ap (λ (k : ℕ). is_rectified k wire) e ∙ or-false wire)
      (λ e. ap (λ (k : ℕ). is_rectified k wire) e ∙ or-false wire)

  pub rectified-inverted : (m : ℕ) → (m ≡ 5) ⊎ (m ≡ 7) → is_rectified m wire ≡ not wire
  unfolding is_rectified
  rectified-inverted m =
      ⊎_elim (λ e. ap (λ (k : ℕ). is_rectified k wire) e) (λ e. ap (λ (k : ℕ). is_rectified k wire) e)

  pub rectified-low : (m : ℕ) → m ≢ 4 → m ≢ 6 → m ≢ 5 → m ≢ 7 → is_rectified m wire ≡ false
  unfolding is_rectified
  rectified-low m a b c d = simp (ne_eqb m 4 a, ne_eqb m 6 b, ne_eqb m 5 c, ne_eqb m 7 d)

module _ (v : ℕ) where
  pub kept_reserved : (field_of v 0 3 ≡ 2) ⊎ (field_of v 0 3 ≡ 3) → kept_mode v ≡ 0
  unfolding kept_mode
  kept_reserved =
      ⊎_elim (λ e. simp (eq-eqb (field_of v 0 3) 2 e)) (λ e. simp (eq-eqb (field_of v 0 3) 3 e, or-true))

  pub kept-other : field_of v 0 3 ≢ 2 → field_of v 0 3 ≢ 3 → kept_mode v ≡ field_of v 0 3
  unfolding kept_mode
  kept-other a b = simp (ne_eqb (field_of v 0 3) 2 a, ne_eqb (field_of v 0 3) 3 b)

  pub kept-lt : kept_mode v < 8
  unfolding kept_mode
  kept-lt =
      tested (eqb (field_of v 0 3) 2 || eqb (field_of v 0 3) 3) (λ t. simp t (lit< tt))
      (λ f. simp f (field_of-lt v 0 3))

  pub word-child-bit : (c has : Bool) → c ≡ true → has_bit v 10 ≡ true → source_word c has v ≡ 0
  unfolding source_word
  word-child-bit c has e b = simp (e, b, and-false)

  pub word-delegated : (c has : Bool) → c ≡ false → has_bit v 10 ≡ true → source_word c has v ≡ 1024
  unfolding source_word
  word-delegated c has e b = simp (e, b)

  pub word-child-has : (c has : Bool) → c ≡ true → has ≡ true → has_bit v 10 ≡ false
      → source_word c has v ≡ kept_mode v
  unfolding source_word
  word-child-has c has e h b = simp (e, h, b)

  pub word-child-not : (c has : Bool) → c ≡ true → has ≡ false → source_word c has v ≡ 0
  unfolding source_word
  word-child-not c has e h = simp (e, h)

  pub word-machine : (c has : Bool) → c ≡ false → has_bit v 10 ≡ false → source_word c has v ≡ kept_mode v
  unfolding source_word
  word-machine c has e b = simp (e, b)
