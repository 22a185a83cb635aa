-- A word that is 0 says a rule of every source. No contract cites this file. Assumes nothing.
use Prim.Native.Nat.{ℕ, ◌^◌, ◌<◌}
use mathlib.Core.Path.{◌≡◌, refl, sym, ap, ◌∙◌}
use mathlib.Core.Bool.{Bool, true, false, not, ◌&&◌, ◌||◌}
use native.Mathlib.Nat.{lt_of_le_of_lt}
use lib.Dec.{eqb}
use Rattle.words.specs.Bits.{has_bit, union, without}
use Rattle.words.specs.Every.{every}
use Rattle.words.proofs.BitsLaws.{has_bit-union, has_bit-without, union-lt, without-le}
use Rattle.words.proofs.EveryLaws.{every_of, every-same}
use Rattle.words_masks.specs.Masks.{common}
use Rattle.words_masks.proofs.MasksLaws.{has_bit-common, common-lt, none-every}

-- a word is 0 exactly if p holds of every number below 64, where p says that the word has not its bit
word_test : (w : ℕ) (p : ℕ → Bool) → w < 2 ^ 64 → ((j : ℕ) → not (has_bit w j) ≡ p j)
    → eqb w 0 ≡ every p 0 64
word_test w p h f = none-every 64 w h ∙ every-same (λ j. not (has_bit w j)) p 0 64 (λ j l m. f j)

used : (a p e : Bool) → not ((p || e) && not a) ≡ (a || (not p && not e))
used true true e = refl
used true false true = refl
used true false false = refl
used false true e = refl
used false false true = refl
used false false false = refl

module _ (p e : ℕ) (hp : p < 2 ^ 64) where
  pub word-unused : (a : ℕ) → e < 2 ^ 64
      → eqb (without (union p e) a) 0
      ≡ every (λ j. has_bit a j || (not (has_bit p j) && not (has_bit e j))) 0 64
  word-unused a he =
      word_test (without (union p e) a) (λ j. has_bit a j || (not (has_bit p j) && not (has_bit e j)))
      (lt_of_le_of_lt (without-le (union p e) a) (union-lt 64 p e hp he))
      (λ j. ap not (has_bit-without (union p e) a j
      ∙ ap (λ (b : Bool). b && not (has_bit a j)) (has_bit-union p e j))
      ∙ used (has_bit a j) (has_bit p j) (has_bit e j))

  pub word-unsent : (s : Bool)
      → (not s || eqb (common p e) 0) ≡ every (λ j. not (s && has_bit p j && has_bit e j)) 0 64
  word-unsent true =
      word_test (common p e) (λ j. not (has_bit p j && has_bit e j)) (common-lt 64 p e hp)
      (λ j. ap not (has_bit-common p e j))
  word-unsent false = sym (every_of (λ j. not (false && has_bit p j && has_bit e j)) 0 64 (λ j l h. refl))

module _ (s v w p : ℕ) where
  pub word_low : p < 2 ^ 64
      → eqb (common p (union (without s w) (common v w))) 0
      ≡ every (λ j. not (has_bit p j &&
      ((has_bit s j && not (has_bit w j)) || (has_bit v j && has_bit w j)))) 0 64
  word_low hp =
      word_test (common p (union (without s w) (common v w)))
      (λ j. not (has_bit p j && ((has_bit s j && not (has_bit w j)) || (has_bit v j && has_bit w j))))
      (common-lt 64 p (union (without s w) (common v w)) hp)
      (λ j. ap not (has_bit-common p (union (without s w) (common v w)) j
      ∙ ap (λ (b : Bool). has_bit p j && b) (has_bit-union (without s w) (common v w) j
      ∙ (λ k. has_bit-without s w j k || has_bit-common v w j k))))

  pub word-missing : (m : Bool) → s < 2 ^ 64 → v < 2 ^ 64
      → (m || eqb (without (union (common s w) (without v w)) p) 0)
      ≡ every (λ j. m
      || not (((has_bit s j && has_bit w j) || (has_bit v j && not (has_bit w j))) && not (has_bit p j))) 0 64
  word-missing true hs hv = sym (every_of _ 0 64 (λ j l h. refl))
  word-missing false hs hv =
      word_test (without (union (common s w) (without v w)) p)
      (λ j. not (((has_bit s j && has_bit w j) || (has_bit v j && not (has_bit w j))) && not (has_bit p j)))
      (lt_of_le_of_lt (without-le (union (common s w) (without v w)) p)
      (union-lt 64 (common s w) (without v w) (common-lt 64 s w hs) (lt_of_le_of_lt (without-le v w) hv)))
      (λ j. ap not (has_bit-without (union (common s w) (without v w)) p j
      ∙ ap (λ (b : Bool). b && not (has_bit p j)) (has_bit-union (common s w) (without v w) j
      ∙ (λ k. has_bit-common s w j k || has_bit-without v w j k))))
