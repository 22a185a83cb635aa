-- Where the lowest bit of a word is: as many bits as it has trailing zeros are 0, and the next is 1; and the
-- bits of a word that was shifted. No contract cites this file. Assumes nothing.
use Prim.Native.Nat.{ℕ, zero, suc, ◌+◌, ◌/◌, ◌%◌, ◌^◌, ◌≤◌, ◌<◌}
use mathlib.Core.Path.{◌≡◌, refl, sym, ap, ◌∙◌}
use mathlib.Core.Logic.{◌≢◌}
use native.Mathlib.Nat.{pow-suc, div-eq_of_lt, lt_of_lt_of_le}
use native.Mathlib.Omega.{arith}
use lib.Arith.{lt-one}
use lib.Count.{count_trailing_zeros, under}
use lib.Pow.{pow_mono, shr-shr}
use Rattle.words.specs.Bits.{bit_of}
use Rattle.words.proofs.BitsLaws.{bit_of-zero, bit_of-suc}

-- ---- the lowest bit

below_step : (w t p : ℕ) → p ≡ w % 2 → ((k : ℕ) → k < t → bit_of (w / 2) k ≡ 0)
    → (j : ℕ) → j < under p t → bit_of w j ≡ 0
below_step w t zero e half zero l = bit_of-zero w ∙ sym e
below_step w t zero e half (suc j) l = bit_of-suc w j ∙ half j (omega arith)
below_step w t (suc p) e half j l = absurd (omega arith)

pub bit_of-below : (n w j : ℕ) → j < count_trailing_zeros n w → bit_of w j ≡ 0
unfolding count_trailing_zeros
bit_of-below zero w j h = absurd (omega arith)
bit_of-below (suc n) w j h = below_step w (count_trailing_zeros n (w / 2)) (w % 2) refl
    (bit_of-below n (w / 2)) j h

lowest_step : (w t p : ℕ) → p ≡ w % 2 → (p ≡ 0 → bit_of (w / 2) t ≡ 1) → bit_of w (under p t) ≡ 1
lowest_step w t zero e half = bit_of-suc w t ∙ half refl
lowest_step w t (suc p) e half = bit_of-zero w ∙ omega arith

pub bit_of-lowest : (n w : ℕ) → w < 2 ^ n → w ≢ 0 → bit_of w (count_trailing_zeros n w) ≡ 1
unfolding count_trailing_zeros
bit_of-lowest zero w h z = absurd (z (lt-one h))
bit_of-lowest (suc n) w h z =
    lowest_step w (count_trailing_zeros n (w / 2)) (w % 2) refl
    (λ even. bit_of-lowest n (w / 2) (omega (arith, pow-suc 2 n)) (λ q. z (omega arith)))

-- ---- a word shifted, and how high a bit can stand

pub bit_of-shr : (w i j : ℕ) → bit_of (w / 2 ^ i) j ≡ bit_of w (i + j)
unfolding bit_of
bit_of-shr w i j = ap (λ (x : ℕ). x % 2) (shr-shr w i j)

pub bit_of-high : (n w k : ℕ) → w < 2 ^ n → n ≤ k → bit_of w k ≡ 0
unfolding bit_of
bit_of-high n w k h l = ap (λ (x : ℕ). x % 2) (div-eq_of_lt (lt_of_lt_of_le h (pow_mono l)))
