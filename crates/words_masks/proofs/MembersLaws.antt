-- Laws of specs/Members.antt, and how the bits that are left are gone through. No contract cites this file.
-- Assumes nothing.
--   listed-ext        tests that agree list the same numbers
--   listed-none       where none holds, none is listed
--   listed-short      those after the last that holds are left out
--   listed-skip       those before the first that holds are passed over
--   listed-first      the first that holds comes first
--   Head p k m i is   of the numbers from k on and below m of which p holds, i is the first and is the others
--   listed-head       that is what a list that begins with i says
--   listed-end        where none is listed, none holds
--   raised-bit        a word shifted down and up again has the same bits from there on
--   left-end          no bit left: no number is listed
--   left-next         the lowest bit left is the next number, and the others are left
--   left-within       what is left stays below 2 ^ 64
use Prim.Native.Nat.{ℕ, zero, suc, ◌+◌, ◌-◌, ◌*◌, ◌/◌, ◌^◌, ◌≤◌, ◌<◌}
use mathlib.Core.Path.{◌≡◌, refl, sym, ap, ap₂, ◌∙◌}
use mathlib.Core.Bool.{Bool, true, false, cond}
use mathlib.Core.List.{List, [], ◌∷◌}
use mathlib.Core.Logic.{◌≢◌}
use native.Mathlib.Omega.{arith}
use native.Mathlib.Nat.{zero-add, add-zero}
use lib.Count.{count_trailing_zeros}
use lib.ListN.{get_or, length, drop}
use lib.Pow.{pow_pos}
use Rattle.std.proofs.Math.Nat.{div-mul-le_self, mul-div_cancel}
use Rattle.words.specs.Bits.{bit_of, has_bit}
use Rattle.words.proofs.BitsLaws.{has_bit-bit_of}
use Rattle.words.proofs.TestsLaws.{tested, from_next}
use Rattle.words.proofs.ZerosLaws.{bit_of-shr}
use Rattle.words.proofs.WalkLaws.{Walk, walk_none, walk-lt, walk-on, walk-passed, walk-next}
use Rattle.words_masks.specs.Members.{listed}

pub listed-ext : (p q : ℕ → Bool) (i n : ℕ) → ((j : ℕ) → i ≤ j → j < i + n → p j ≡ q j)
    → listed p i n ≡ listed q i n
unfolding listed
listed-ext p q i zero e = refl
listed-ext p q i (suc n) e =
    ap₂ (λ (b : Bool) (l : List ℕ). cond b (i ∷ l) l) (e i (omega arith) (omega arith))
    (listed-ext p q (suc i) n (λ j l h. e j (omega arith) (omega arith)))

pub listed-none : (p : ℕ → Bool) (i n : ℕ) → ((j : ℕ) → i ≤ j → j < i + n → p j ≡ false) → listed p i n ≡ []
unfolding listed
listed-none p i zero e = refl
listed-none p i (suc n) e =
    rw (e i (omega arith) (omega arith)) (listed-none p (suc i) n (λ j l h. e j (omega arith) (omega arith)))

-- none of the last k holds
pub listed-short : (p : ℕ → Bool) (i n k : ℕ) → ((j : ℕ) → i + n ≤ j → j < i + n + k → p j ≡ false)
    → listed p i (n + k) ≡ listed p i n
unfolding listed
listed-short p i zero k e = rw (zero-add) (listed-none p i k (λ j l h. e j (omega arith) (omega arith)))
listed-short p i (suc n) k e =
    let more : suc n + k ≡ suc (n + k) = omega arith in
    rw more (ap (λ (l : List ℕ). cond (p i) (i ∷ l) l)
    (listed-short p (suc i) n k (λ j l h. e j (omega arith) (omega arith))))

-- k numbers that are passed over
passed : (p : ℕ → Bool) (i k n : ℕ) → ((j : ℕ) → i ≤ j → j < i + k → p j ≡ false)
    → listed p i (k + n) ≡ listed p (i + k) n
unfolding listed
passed p i zero n e = rw (zero-add, add-zero) refl
passed p i (suc k) n e =
    let more : suc k + n ≡ suc (k + n) = omega arith in
    let on : i + suc k ≡ suc i + k = omega arith in
    rw (more, on, e i (omega arith) (omega arith))
    (passed p (suc i) k n (λ j l h. e j (omega arith) (omega arith)))

pub listed-skip : (p : ℕ → Bool) (i k m : ℕ) → i ≤ k → k ≤ m → ((j : ℕ) → i ≤ j → j < k → p j ≡ false)
    → listed p i (m - i) ≡ listed p k (m - k)
listed-skip p i k m l h e =
    ap (listed p i) (omega arith) ∙ passed p i (k - i) (m - k) (λ j a b. e j a (omega arith))
    ∙ ap (λ (j : ℕ). listed p j (m - k)) (omega arith)

pub listed-first : (p : ℕ → Bool) (k m : ℕ) → k < m → p k ≡ true
    → listed p k (m - k) ≡ k ∷ listed p (k + 1) (m - (k + 1))
unfolding listed
listed-first p k m h t =
    let left : m - k ≡ suc (m - (k + 1)) = omega arith in
    let on : k + 1 ≡ suc k = omega arith in
    rw (left, on, t) refl

-- ---- what a list that is left says

pub record Head (p : ℕ → Bool) (k m i : ℕ) (is : List ℕ) : Type 0 where
  pub low : k ≤ i
  pub high : i < m
  pub holds : p i ≡ true
  pub passed : (j : ℕ) → k ≤ j → j < i → p j ≡ false
  pub others : is ≡ listed p (i + 1) (m - (i + 1))

here : (p : ℕ → Bool) (k n i : ℕ) (is : List ℕ) → p k ≡ true → k ∷ listed p (suc k) n ≡ i ∷ is
    → Head p k (k + suc n) i is
here p k n i is t e =
    let same : k ≡ i = ap (λ (l : List ℕ). get_or l 0 0) e in
    record {
      low = omega arith;
      high = omega arith;
      holds = ap p (sym same) ∙ t;
      passed = λ j l h. absurd (omega arith);
      others = sym (ap (drop 1) e) ∙ ap₂ (listed p) (omega arith) (omega arith);
    }

pub listed-head : (p : ℕ → Bool) (k n i : ℕ) (is : List ℕ) → listed p k n ≡ i ∷ is → Head p k (k + n) i is
unfolding listed
listed-head p k zero i is e = absurd (omega (arith, ap length e))
listed-head p k (suc n) i is e =
    tested (p k) (λ t. here p k n i is t (simp t at e))
    (λ f.
    let later = listed-head p (suc k) n i is (simp f at e) in
    record {
      low = omega (arith, later.low);
      high = omega (arith, later.high);
      holds = later.holds;
      passed = λ j l h. from_next (λ j. j < i → p j ≡ false) k (λ q. f) (λ j m q. later.passed j m q) j l h;
      others = later.others ∙ ap (listed p (i + 1)) (omega arith);
    })

pub listed-end : (p : ℕ → Bool) (k n : ℕ) → listed p k n ≡ [] → (j : ℕ) → k ≤ j → j < k + n → p j ≡ false
unfolding listed
listed-end p k zero e j l h = absurd (omega arith)
listed-end p k (suc n) e j l h =
    tested (p k) (λ t. absurd (omega (arith, ap length (simp t at e))))
    (λ f. from_next (λ j. j < k + suc n → p j ≡ false) k (λ q. f)
    (λ j m q. listed-end p (suc k) n (simp f at e) j m (omega arith)) j l h)

-- ---- a word from a bit on

down : (w k : ℕ) → w * 2 ^ k / 2 ^ k ≡ w
down w k = mul-div_cancel w (pow_pos k)

same-from : (w v k : ℕ) → w / 2 ^ k ≡ v / 2 ^ k → (j : ℕ) → k ≤ j → has_bit w j ≡ has_bit v j
same-from w v k e j l =
    let place : j ≡ k + (j - k) = omega arith in
    rw place (has_bit-bit_of w (k + (j - k)) v (k + (j - k))
    (sym (bit_of-shr w k (j - k)) ∙ ap (λ (x : ℕ). bit_of x (j - k)) e ∙ bit_of-shr v k (j - k)))

pub raised-bit : (w k j : ℕ) → k ≤ j → has_bit (w / 2 ^ k * 2 ^ k) j ≡ has_bit w j
raised-bit w k j l = same-from (w / 2 ^ k * 2 ^ k) w k (down (w / 2 ^ k) k) j l

-- ---- the bits that are left, of which bit 0 is number i

module _ (rest i : ℕ) (fits : rest * 2 ^ i < 2 ^ 64) where
  abbrev on : ℕ → Bool
  on = has_bit (rest * 2 ^ i)

  walk : Walk on (rest * 2 ^ i) rest i
  walk = record { whole = fits; bits = λ j l h. refl; shifted = sym (down rest i) }

  pub left-end : i ≤ 64 → rest ≡ 0 → listed on i (64 - i) ≡ []
  left-end l none = listed-none on i (64 - i) (λ j a b. walk_none walk none j a (omega arith))

  module _ (some : rest ≢ 0) where
    abbrev next : ℕ
    next = i + count_trailing_zeros 64 rest

    abbrev rest' : ℕ
    rest' = rest / 2 ^ count_trailing_zeros 64 rest / 2

    after : Walk on (rest * 2 ^ i) rest' (next + 1)
    after = walk-next walk some on (λ j l. refl)

    pub left-within : (next + 1 ≤ 64) × (rest' * 2 ^ (next + 1) < 2 ^ 64)
    left-within =
        let low = walk-lt walk some in (
          omega arith,
          rw (after.shifted) (omega (arith, div-mul-le_self (rest * 2 ^ i) (2 ^ (next + 1)), fits)),
        )

    pub left-next : listed on i (64 - i)
        ≡ next ∷ listed (has_bit (rest' * 2 ^ (next + 1))) (next + 1) (64 - (next + 1))
    left-next =
        let low = walk-lt walk some in
        listed-skip on i next 64 (omega arith) (omega arith) (walk-passed walk some)
        ∙ listed-first on next 64 low (walk-on walk some)
        ∙ ap (λ (l : List ℕ). next ∷ l)
        (listed-ext on (has_bit (rest' * 2 ^ (next + 1))) (next + 1) (64 - (next + 1))
        (λ j l h. same-from (rest * 2 ^ i) (rest' * 2 ^ (next + 1)) (next + 1)
        (sym after.shifted ∙ sym (down rest' (next + 1))) j l))
