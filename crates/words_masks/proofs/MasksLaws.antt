-- Laws of specs/Masks.antt: which bits a gathered word has, and a word with no bits is 0. No contract cites
-- this file. Assumes nothing.
use Prim.Native.Nat.{ℕ, zero, suc, ◌+◌, ◌^◌, ◌<◌}
use mathlib.Core.Path.{◌≡◌, sym, ◌∙◌}
use mathlib.Core.Bool.{Bool, false, not, ◌&&◌, cond}
use mathlib.Core.List.{List}
use mathlib.Core.Logic.{◌≢◌}
use native.Mathlib.Nat.{lt_of_le_of_lt, pow-suc}
use native.Mathlib.Decide.{ℕ_discrete}
use native.Mathlib.Omega.{arith}
use lib.Bits.{bit_or, or_add_and, and_le_l, and_le_r}
use lib.Dec.{eqb, lit<}
use lib.ListN.{get_or}
use lib.Pow.{pow_pos}
use borrow.Author.Tests.{eq-eqb, eqb-true, not-true}
use Rattle.words.specs.Bits.{has_bit, with_bit}
use Rattle.words.specs.Parts.{joined}
use Rattle.words.specs.Sets.{member}
use Rattle.words.specs.Every.{every}
use Rattle.words.proofs.BitsLaws.{has_bit-and, has_bit-nothing, has_bit-with_bit-same, has_bit-with_bit-other}
use Rattle.words.proofs.BitsLaws.{has_bit-ext, has_bit-none, with_bit-lt}
use Rattle.words.proofs.ZerosLaws.{bit_of-high}
use Rattle.words.proofs.PartsLaws.{has_bit-joined}
use Rattle.words.proofs.SetsLaws.{member-word}
use Rattle.words.proofs.EveryLaws.{every-each, every_of}
use Rattle.words.proofs.TestsLaws.{tested, same_truth, and_first, and_second, and_both}
use Rattle.words_masks.specs.Masks.{common, gathered}

pub has_bit-common : (w v k : ℕ) → has_bit (common w v) k ≡ (has_bit w k && has_bit v k)
unfolding common
has_bit-common w v k = has_bit-and w v k

pub common-lt : (n w v : ℕ) → w < 2 ^ n → common w v < 2 ^ n
unfolding common
common-lt n w v h = lt_of_le_of_lt (and_le_l w v) h

-- ---- what is gathered

module _ (p : ℕ → Bool) where
  pub gathered-more : (n : ℕ) → gathered p (n + 1) ≡ cond (p n) (with_bit (gathered p n) n) (gathered p n)
  unfolding gathered
  gathered-more n = let e : n + 1 ≡ suc n = omega arith in rw e

  pub gathered-first : p 0 ≡ false → 0 ≡ gathered p 1
  unfolding gathered
  gathered-first e = simp e

  pub gathered-lt : (n : ℕ) → gathered p n < 2 ^ n
  unfolding gathered
  gathered-lt zero = lit< tt
  gathered-lt (suc n) =
      let less : gathered p n < 2 ^ suc n = omega (arith, gathered-lt n, pow-suc 2 n) in
      tested (p n) (λ t. simp t (with_bit-lt (suc n) (gathered p n) n less (omega arith))) (λ f. simp f less)

  has_bit-gathered-next : (n : ℕ) → has_bit (gathered p (suc n)) n ≡ p n
  unfolding gathered
  has_bit-gathered-next n =
      tested (p n) (λ t. simp t (has_bit-with_bit-same (gathered p n) n))
      (λ f. simp f (has_bit-none (gathered p n) n
      (bit_of-high n (gathered p n) n (gathered-lt n) (omega arith))))

  has_bit-gathered-rest : (n j : ℕ) → j ≢ n → has_bit (gathered p (suc n)) j ≡ has_bit (gathered p n) j
  unfolding gathered
  has_bit-gathered-rest n j h =
      tested (p n) (λ t. simp t (has_bit-with_bit-other (gathered p n) n j h)) (λ f. simp f)

  pub has_bit-gathered : (n j : ℕ) → j < n → has_bit (gathered p n) j ≡ p j
  has_bit-gathered zero j h = absurd (omega arith)
  has_bit-gathered (suc n) j h = at (ℕ_discrete j n) (λ l. has_bit-gathered n j l)
    where
      at : Dec (j ≡ n) → (j < n → has_bit (gathered p n) j ≡ p j) → has_bit (gathered p (suc n)) j ≡ p j
      at (yes e) below = rw e (has_bit-gathered-next n)
      at (no d) below = has_bit-gathered-rest n j d ∙ below (omega arith)

-- ---- a word with no bits

-- a word is 0 exactly if it has no bit
pub none-every : (n w : ℕ) → w < 2 ^ n → eqb w 0 ≡ every (λ j. not (has_bit w j)) 0 n
none-every n w h =
    same_truth (eqb w 0) (every (λ j. not (has_bit w j)) 0 n)
    (λ e. every_of (λ j. not (has_bit w j)) 0 n
    (λ j l m. rw (eqb-true w 0 e, has_bit-nothing j)))
    (λ e. eq-eqb w 0 (has_bit-ext n w 0 h (pow_pos n)
    (λ k l. not-true (has_bit w k) (every-each (λ j. not (has_bit w j)) 0 n e k (omega arith) (omega arith))
    ∙ sym (has_bit-nothing k))))

-- two words together are 0 exactly if each is
pub or-none : (w v : ℕ) → eqb (bit_or w v) 0 ≡ (eqb w 0 && eqb v 0)
or-none w v =
    same_truth (eqb (bit_or w v) 0) (eqb w 0 && eqb v 0)
    (λ e. let z : bit_or w v ≡ 0 = eqb-true (bit_or w v) 0 e in
    and_both (eqb w 0) (eqb v 0)
    (eq-eqb w 0 (omega (arith, or_add_and w v, and_le_l w v, and_le_r w v)))
    (eq-eqb v 0 (omega (arith, or_add_and w v, and_le_l w v, and_le_r w v))))
    (λ e. eq-eqb (bit_or w v) 0
    (omega (
      arith,
      or_add_and w v,
      eqb-true w 0 (and_first (eqb w 0) (eqb v 0) e),
      eqb-true v 0 (and_second (eqb w 0) (eqb v 0) e),
    )))

-- ---- two words of a set in one

pub has_bit-set : (ws : List ℕ) (j : ℕ) → get_or ws 0 0 < 2 ^ 32 → j < 64
    → has_bit (joined (get_or ws 0 0) (get_or ws 1 0)) j ≡ member ws j
has_bit-set ws j h l = has_bit-joined (λ (k : ℕ). get_or ws k 0) h j l ∙ member-word ws j
