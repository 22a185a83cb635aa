-- Laws of specs/Gathering.antt: a source more, and the word that both sets make. No contract cites this file.
-- Assumes nothing.
use Prim.Native.Nat.{ℕ, ◌+◌, ◌*◌, ◌^◌, ◌<◌}
use mathlib.Core.Path.{◌≡◌, sym, ap, ap₂, transport, ◌∙◌}
use mathlib.Core.Bool.{Bool, true, false, not, ◌&&◌, ◌||◌, and-true, and-false, or-false}
use mathlib.Core.List.{List}
use native.Mathlib.Decide.{ℕ_discrete}
use native.Mathlib.Omega.{arith}
use lib.ListN.{get_or}
use Rattle.words.specs.Bits.{has_bit, put_bit, without_bit, union, without}
use Rattle.words.specs.Parts.{low}
use Rattle.words.specs.Sets.{member}
use Rattle.words.proofs.BitsLaws.{has_bit-put_bit-same, has_bit-put_bit-other, has_bit-union, has_bit-without}
use Rattle.words.proofs.BitsLaws.{has_bit-without_bit-same, has_bit-without_bit-other, without_bit-le}
use Rattle.words.proofs.PartsLaws.{has_bit-low, low-lt}
use Rattle.words.proofs.SetsLaws.{word-members}
use Rattle.words_masks.specs.Masks.{common}
use Rattle.words_masks.proofs.MasksLaws.{has_bit-common}
use Rattle.source_mode.specs.Mode.{is_rectified}
use Rattle.source.specs.declared.Source.{Source}
use Rattle.domain.specs.Domain.{Domain}
use Rattle.domain.specs.Slot.{source_at}
use Rattle.domain_inputs.specs.declared.Rectified.{Rectified}
use Rattle.domain_inputs.specs.Inputs.{input_bit, input_word}
use Rattle.domain_inputs.specs.Gathering.{RectifiedTo}
use Rattle.domain_inputs.proofs.InputsLaws.{input-source, input_none, input-word-by}

-- ---- a source more

-- the bits below n are as p says; with bit n put so, those below n + 1 are
put-more : (p : ℕ → Bool) (w n : ℕ) (on : Bool) → ((b : ℕ) → b < n → has_bit w b ≡ p b) → on ≡ p n
    → (b : ℕ) → b < n + 1 → has_bit (put_bit w n on) b ≡ p b
put-more p w n on before e b h = at (ℕ_discrete b n)
  where
    at : Dec (b ≡ n) → has_bit (put_bit w n on) b ≡ p b
    at (yes q) = rw q (has_bit-put_bit-same w n on ∙ e)
    at (no x) = has_bit-put_bit-other w n on b x ∙ before b (omega (arith, x))

module _ (d : Domain) (k : ℕ) where
  pub rectified-none : RectifiedTo d k 0 (record { high = 0; low = 0 })
  rectified-none = record { high = λ b h. absurd (omega arith); low = λ b h. absurd (omega arith) }

  pub rectified-more : (b : ℕ) {x : Rectified} {s : Source} {up down : Bool} {h l : ℕ}
      → RectifiedTo d k b x → s ≡ source_at d (32 * k + b)
      → up ≡ is_rectified s.mode true → h ≡ put_bit x.high b up
      → down ≡ is_rectified s.mode false → l ≡ put_bit x.low b down
      → RectifiedTo d k (b + 1) (record { high = h; low = l })
  rectified-more b {x} {s} so_far e up h down l = record {
    high = λ j m. ap (λ (w : ℕ). has_bit w j) h
        ∙ put-more (λ (j : ℕ). is_rectified (source_at d (32 * k + j)).mode true) x.high b _ so_far.high
        (up ∙ ap (λ (s : Source). is_rectified s.mode true) e) j m;
    low = λ j m. ap (λ (w : ℕ). has_bit w j) l
        ∙ put-more (λ (j : ℕ). is_rectified (source_at d (32 * k + j)).mode false) x.low b _ so_far.low
        (down ∙ ap (λ (s : Source). is_rectified s.mode false) e) j m;
  }

  -- the same sources, counted otherwise
  pub rectified-at : {n m : ℕ} {x : Rectified} → n ≡ m → RectifiedTo d k n x → RectifiedTo d k m x
  rectified-at {n} {m} {x} e so_far = transport (λ j. RectifiedTo d k (e j) x) so_far

-- ---- the word

-- a wire has one of two levels
by_level : (m : ℕ) (wire : Bool)
    → ((is_rectified m true && wire) || (is_rectified m false && not wire)) ≡ is_rectified m wire
by_level m true = simp (and-true, and-false, or-false)
by_level m false = simp (and-true, and-false)

module _ (d : Domain) (ws : List ℕ) (k : ℕ) (x : Rectified) (all : RectifiedTo d k 32 x) where
  -- both sets, each with the wires that it is for
  abbrev joint : ℕ
  joint = low (union (common x.high (get_or ws k 0)) (without x.low (get_or ws k 0)))

  joint-bit : (n : ℕ) → n < 32
      → has_bit joint n ≡ is_rectified (source_at d (32 * k + n)).mode (member ws (32 * k + n))
  joint-bit n h =
      let wire = get_or ws k 0 in
      let mode = (source_at d (32 * k + n)).mode in
      has_bit-low _ n h ∙ has_bit-union _ _ n
      ∙ ap₂ ◌||◌ (has_bit-common x.high wire n) (has_bit-without x.low wire n)
      ∙ ap₂ (λ (up down : Bool). (up && has_bit wire n) || (down && not (has_bit wire n)))
      (all.high n h) (all.low n h)
      ∙ by_level mode (has_bit wire n) ∙ ap (is_rectified mode) (sym (word-members ws k n h))

  pub later-word : 0 < k → joint ≡ input_word d ws k
  later-word l =
      input-word-by d ws k joint (low-lt _)
      (λ n h. joint-bit n h ∙ sym (input-source d ws (32 * k + n) (omega arith)))

  pub first_word : k ≡ 0 → without_bit joint 0 ≡ input_word d ws k
  first_word e =
      let small : joint < 2 ^ 32 = low-lt _ in
      input-word-by d ws k (without_bit joint 0) (omega (arith, without_bit-le joint 0, small))
      (λ n h. at n h (ℕ_discrete n 0))
    where
      at : (n : ℕ) → n < 32 → Dec (n ≡ 0) → has_bit (without_bit joint 0) n ≡ input_bit d ws (32 * k + n)
      at n h (yes z) =
          ap (has_bit (without_bit joint 0)) z ∙ has_bit-without_bit-same joint 0
          ∙ sym (input_none d ws (32 * k + n) (omega (arith, e, z)))
      at n h (no z) =
          has_bit-without_bit-other joint 0 n z ∙ joint-bit n h
          ∙ sym (input-source d ws (32 * k + n) (omega (arith, z)))
