-- Laws of `first_bit` and `lowest_shared` of specs/Search.antt: the search of a word bit after bit, and what
-- it
-- says of the identities of that word. No contract cites this file. Assumes nothing.
--   first_bit-hit-to, first_bit-miss-to  one step of the search, as the code counts
--   rest-bit, rest-next, rest_lt         what is left of a word that the code has shifted
--   first_bit-none                       with no bit left there is none
--   shared_start, shared-end             where the search of all words starts, and where it ends
--   shared-hit, shared-miss              a word that has a shared identity, and one that has none
use Prim.Native.Nat.{ℕ, zero, suc, ◌+◌, ◌-◌, ◌*◌, ◌/◌, ◌^◌, ◌≤◌, ◌<◌}
use mathlib.Core.Path.{◌≡◌, refl, sym, ap, ap₂, ◌∙◌}
use mathlib.Core.Bool.{Bool, true, false, ◌&&◌}
use mathlib.Core.List.{List}
use mathlib.Core.Logic.{◌≢◌}
use native.Mathlib.Decide.{dec_lt}
use native.Mathlib.Nat.{div-eq_of_lt, lt_of_lt_of_le}
use native.Mathlib.Omega.{arith}
use lib.Bits.{bit_and}
use lib.ListN.{get_or}
use lib.Pow.{pow_mono, shr-shr}
use Rattle.words.specs.Bits.{bit_of, has_bit}
use Rattle.words.specs.Sets.{member}
use Rattle.words.proofs.TestsLaws.{tested}
use Rattle.words.proofs.BitsLaws.{has_bit-bit_of, has_bit-and, has_bit-nothing}
use Rattle.words.proofs.ZerosLaws.{bit_of-shr}
use Rattle.words.proofs.SetsLaws.{word-members}
use Rattle.file_search.specs.Search.{lowest, lowest_shared, first_bit}
use Rattle.file_search.proofs.LowestLaws.{lowest-hit-to, lowest-miss-to}

-- ---- one word

module _ (w : ℕ) where
  first_bit-hit : (k n : ℕ) → has_bit w k ≡ true → first_bit w k (suc n) ≡ k
  unfolding first_bit
  first_bit-hit k n e = simp e

  first_bit-miss : (k n : ℕ) → has_bit w k ≡ false → first_bit w k (suc n) ≡ first_bit w (suc k) n
  unfolding first_bit
  first_bit-miss k n e = simp e

  pub first_bit-hit-to : (k m : ℕ) → k < m → has_bit w k ≡ true → first_bit w k (m - k) ≡ k
  first_bit-hit-to k m h e = ap (first_bit w k) (omega arith) ∙ first_bit-hit k (m - suc k) e

  pub first_bit-miss-to : (k m : ℕ) → k < m → has_bit w k ≡ false
      → first_bit w k (m - k) ≡ first_bit w (k + 1) (m - (k + 1))
  first_bit-miss-to k m h e =
      ap (first_bit w k) (omega arith) ∙ first_bit-miss k (m - suc k) e
      ∙ ap₂ (first_bit w) (omega arith) (omega arith)

-- ---- what is left of a word, its bits from k on

module _ (w rest k : ℕ) (left : rest ≡ w / 2 ^ k) where
  pub rest-bit : has_bit rest 0 ≡ has_bit w k
  rest-bit =
      has_bit-bit_of rest 0 w k
      (ap (λ (x : ℕ). bit_of x 0) left ∙ bit_of-shr w k 0 ∙ ap (bit_of w) (omega arith))

  pub rest-next : rest / 2 ≡ w / 2 ^ (k + 1)
  rest-next = ap (λ (x : ℕ). x / 2) left ∙ shr-shr w k 1

  -- while a bit is left, the end of the word is not reached
  pub rest_lt : w < 2 ^ 32 → rest ≢ 0 → k < 32
  rest_lt h n = at (dec_lt k 32)
    where
      at : Dec (k < 32) → k < 32
      at (yes l) = l
      at (no l) =
          absurd (n (left ∙ div-eq_of_lt (lt_of_lt_of_le h (pow_mono {i = 32} {j = k} (omega arith)))))

  rest-none : rest ≡ 0 → has_bit w k ≡ false
  rest-none e = sym rest-bit ∙ ap (λ (x : ℕ). has_bit x 0) e ∙ has_bit-nothing 0

pub first_bit-none : (w k n : ℕ) → w / 2 ^ k ≡ 0 → first_bit w k n ≡ k + n
unfolding first_bit
first_bit-none w k zero e = omega arith
first_bit-none w k (suc n) e =
    let next : w / 2 ^ suc k ≡ 0 =
    ap (λ (j : ℕ). w / 2 ^ j) (omega arith) ∙ sym (rest-next w 0 k (sym e)) in
    first_bit-miss w k n (rest-none w 0 k (sym e) refl) ∙ first_bit-none w (suc k) n next ∙ omega arith

-- ---- the identities of one word, from o on

module _ (p : ℕ → Bool) (w o e : ℕ) (agree : (k : ℕ) → k < 32 → p (o + k) ≡ has_bit w k) where
  abbrev from : ℕ → ℕ
  from i = lowest p i (e - i)

  word_next : (k : ℕ) → k < 32 → o + k < e → has_bit w k ≡ false → from (o + k) ≡ from (o + suc k)
  word_next k l m f = lowest-miss-to p (o + k) e m (agree k l ∙ f) ∙ ap from (omega arith)

  word-hit : (k n : ℕ) → k + n ≤ 32 → o + k + n ≤ e → first_bit w k n < k + n
      → from (o + k) ≡ o + first_bit w k n
  word-hit k zero l m h = absurd (unfold first_bit in omega arith)
  word-hit k (suc n) l m h =
      tested (has_bit w k)
      (λ t. lowest-hit-to p (o + k) e (omega arith) (agree k (omega arith) ∙ t)
      ∙ ap (◌+◌ o) (sym (first_bit-hit w k n t)))
      (λ f. let rest = first_bit-miss w k n f in word_next k (omega arith) (omega arith) f
      ∙ word-hit (suc k) n (omega arith) (omega arith) (omega arith) ∙ ap (◌+◌ o) (sym rest))

  word-miss : (k n : ℕ) → k + n ≤ 32 → o + k + n ≤ e → k + n ≤ first_bit w k n
      → from (o + k) ≡ from (o + (k + n))
  word-miss k zero l m h = ap from (omega arith)
  word-miss k (suc n) l m h =
      tested (has_bit w k) (λ t. absurd (omega (arith, first_bit-hit w k n t)))
      (λ f. let rest = first_bit-miss w k n f in word_next k (omega arith) (omega arith) f
      ∙ word-miss (suc k) n (omega arith) (omega arith) (omega arith) ∙ ap from (omega arith))

-- ---- the search, word after word

module _ (ps es : List ℕ) where
  abbrev pub shared_from : ℕ → ℕ
  shared_from i = lowest (λ j. member ps j && member es j) i (256 - i)

  abbrev pub shared_word : ℕ → ℕ
  shared_word a = bit_and (get_or ps a 0) (get_or es a 0)

  shared-bit : (a k : ℕ) → k < 32
      → (member ps (32 * a + k) && member es (32 * a + k)) ≡ has_bit (shared_word a) k
  shared-bit a k h =
      ap₂ ◌&&◌ (word-members ps a k h) (word-members es a k h)
      ∙ sym (has_bit-and (get_or ps a 0) (get_or es a 0) k)

  pub shared_start : lowest_shared ps es ≡ shared_from 1
  unfolding lowest_shared
  shared_start = refl

  module _ (a k : ℕ) (l : a < 8) (low : k < 32) where
    abbrev first : ℕ
    first = first_bit (shared_word a) k (32 - k)

    pub shared-hit : first < 32 → shared_from (32 * a + k) ≡ 32 * a + first
    shared-hit h =
        word-hit (λ j. member ps j && member es j) (shared_word a) (32 * a) 256 (shared-bit a) k (32 - k)
        (omega arith) (omega arith) (omega arith)

    pub shared-miss : 32 ≤ first → shared_from (32 * a + k) ≡ shared_from (32 * (a + 1) + 0)
    shared-miss h =
        word-miss (λ j. member ps j && member es j) (shared_word a) (32 * a) 256 (shared-bit a) k (32 - k)
        (omega arith) (omega arith) (omega arith)
        ∙ ap shared_from (omega arith)

  pub shared-end : (i : ℕ) → 256 ≤ i → shared_from i ≡ 0
  unfolding lowest
  shared-end i h =
      let none : 256 - i ≡ 0 = omega arith in ap (lowest (λ j. member ps j && member es j) i) none
