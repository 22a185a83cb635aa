-- Laws of specs/Bits.antt: what each bit of a changed word is, and that a word is its bits. No contract cites
-- this file. Assumes nothing.
--   bit_of-..           a bit as a number, for each definition
--   has_bit-..          the same as a truth value: -same the bit that was changed, -other any other
--   bits-ext            two words of n bits are equal if their bits are
--   ..-or, ..-and       what the code's `|`, `&` and `!` give
use Prim.Native.Nat.{ℕ, zero, suc, ◌+◌, ◌-◌, ◌*◌, ◌/◌, ◌%◌, ◌^◌, ◌≤◌, ◌<◌, min, max}
use mathlib.Core.Path.{◌≡◌, refl, sym, ap, ap₂, ◌∙◌}
use mathlib.Core.Bool.{Bool, true, false, not, ◌&&◌, ◌||◌, true≢false, false≢true}
use mathlib.Core.Logic.{◌≢◌}
use native.Mathlib.Nat.{mod-lt, div-add-mod', mod-eq_of_lt, div-eq_of_lt}
use native.Mathlib.Nat.{pow-suc, zero-lt-suc, zero-add}
use native.Mathlib.Omega.{arith}
use lib.Arith.{lt-one}
use lib.Dec.{eqb}
use lib.Pow.{pow_pos, pow-lt, shr-shr}
use lib.Bits.{bit_and, bit_or, and_step, or_step, or_shr, or_mod, and_shr, and_mod, and_le_l, or_lt}
use lib.Bits.{or_zero_r, and_zero_r}
use Rattle.std.proofs.lemmas.Nat.{one_shl}
use borrow.Author.Tests.{eq-eqb, ne_eqb}
use Rattle.words.specs.Bits.{bit_of, has_bit, with_bit, without_bit, put_bit, union, without}

-- ---- a bit as a number

pub bit_of-lt : (w k : ℕ) → bit_of w k < 2
unfolding bit_of
bit_of-lt w k = mod-lt (w / 2 ^ k) (zero-lt-suc 1)

pub bit_of-zero : (w : ℕ) → bit_of w 0 ≡ w % 2
unfolding bit_of
bit_of-zero w = ap (λ (x : ℕ). x % 2) (simp native.Mathlib.Nat.div-one)

pub bit_of-suc : (w k : ℕ) → bit_of w (suc k) ≡ bit_of (w / 2) k
unfolding bit_of
bit_of-suc w k =
    ap
    (λ (x : ℕ). x % 2) (sym (shr-shr w 1 k ∙ ap (λ (n : ℕ). w / 2 ^ n) (native.Mathlib.Numerals.one-add k)))

-- a word is its bits: induction on how many it has
pub bits-ext : (n : ℕ) (w v : ℕ) → w < 2 ^ n → v < 2 ^ n → ((k : ℕ) → k < n → bit_of w k ≡ bit_of v k) → w ≡ v
bits-ext zero w v hw hv h = lt-one hw ∙ sym (lt-one hv)
bits-ext (suc n) w v hw hv h =
    let hw' : w < 2 * 2 ^ n = omega (arith, pow-suc 2 n) in
    let hv' : v < 2 * 2 ^ n = omega (arith, pow-suc 2 n) in
    let halves : w / 2 ≡ v / 2 = bits-ext n (w / 2) (v / 2) (omega arith) (omega arith)
    (λ k l. sym (bit_of-suc w k) ∙ h (suc k) (omega arith) ∙ bit_of-suc v k) in
    let odd : w % 2 ≡ v % 2 = sym (bit_of-zero w) ∙ h 0 (omega arith) ∙ bit_of-zero v in
    omega arith

-- ---- all bits at once

bit-max : (x y : ℕ) → x < 2 → y < 2 → bit_or x y ≡ max x y
bit-max x y hx hy =
    or_step x y
    ∙ ap₂ (λ (a b : ℕ). bit_or a b * 2 + max (x % 2) (y % 2)) (div-eq_of_lt hx) (div-eq_of_lt hy)
    ∙ zero-add (max (x % 2) (y % 2)) ∙ ap₂ max (mod-eq_of_lt hx) (mod-eq_of_lt hy)

pub bit_of-union : (w v k : ℕ) → bit_of (union w v) k ≡ max (bit_of w k) (bit_of v k)
unfolding bit_of union
bit_of-union w v k =
    ap (λ (x : ℕ). x % 2) (or_shr w v k)
    ∙ or_mod (w / 2 ^ k) (v / 2 ^ k) 1
    ∙ bit-max (w / 2 ^ k % 2) (v / 2 ^ k % 2) (mod-lt (w / 2 ^ k) (zero-lt-suc 1))
    (mod-lt (v / 2 ^ k) (zero-lt-suc 1))

bit-min : (x y : ℕ) → x < 2 → y < 2 → bit_and x y ≡ min x y
bit-min x y hx hy =
    and_step x y
    ∙ ap₂ (λ (a b : ℕ). bit_and a b * 2 + min (x % 2) (y % 2)) (div-eq_of_lt hx) (div-eq_of_lt hy)
    ∙ zero-add (min (x % 2) (y % 2)) ∙ ap₂ min (mod-eq_of_lt hx) (mod-eq_of_lt hy)

pub bit_of-and : (w v k : ℕ) → bit_of (bit_and w v) k ≡ min (bit_of w k) (bit_of v k)
unfolding bit_of
bit_of-and w v k =
    ap (λ (x : ℕ). x % 2) (and_shr w v k)
    ∙ and_mod (w / 2 ^ k) (v / 2 ^ k) 1
    ∙ bit-min (w / 2 ^ k % 2) (v / 2 ^ k % 2) (mod-lt (w / 2 ^ k) (zero-lt-suc 1))
    (mod-lt (v / 2 ^ k) (zero-lt-suc 1))

without-step : (w v : ℕ) → without w v ≡ without (w / 2) (v / 2) * 2 + (w % 2 - v % 2)
unfolding without
without-step w v = omega (arith, and_step w v, and_le_l (w / 2) (v / 2), div-add-mod' w 2)

pub bit_of-without : (w v k : ℕ) → bit_of (without w v) k ≡ bit_of w k - bit_of v k
bit_of-without w v zero =
    bit_of-zero (without w v) ∙ omega (arith, without-step w v, bit_of-zero w, bit_of-zero v)
bit_of-without w v (suc k) =
    bit_of-suc (without w v) k ∙ ap (λ (x : ℕ). bit_of x k) (omega (arith, without-step w v))
    ∙ bit_of-without (w / 2) (v / 2) k ∙ ap₂ ◌-◌ (sym (bit_of-suc w k)) (sym (bit_of-suc v k))

and_last : (w v : ℕ)
    → without (w / 2) (v / 2) * 2 + min (w % 2) (1 - v % 2) ≡ without (w / 2) (v / 2) * 2 + (w % 2 - v % 2)
and_last w v = omega arith

-- what `w & !v` gives at n bits
pub without-and : (n w v : ℕ) → w < 2 ^ n → v < 2 ^ n → bit_and w ((2 ^ n - 1) - v) ≡ without w v
unfolding without
without-and zero w v hw hv = rw (lt-one hw)
without-and (suc n) w v hw hv =
    let double : 2 ^ suc n ≡ 2 ^ n * 2 = pow-suc 2 n in
    let rest : ((2 ^ suc n - 1) - v) / 2 ≡ (2 ^ n - 1) - v / 2 = omega arith in
    let last : ((2 ^ suc n - 1) - v) % 2 ≡ 1 - v % 2 = omega arith in
    and_step w ((2 ^ suc n - 1) - v) ∙ ap₂ (λ (x y : ℕ). bit_and (w / 2) x * 2 + min (w % 2) y) rest last
    ∙ rw (without-and n (w / 2) (v / 2) (omega arith) (omega arith)) (and_last w v ∙ sym (without-step w v))

-- ---- one bit

bit_of-nothing : (k : ℕ) → bit_of 0 k ≡ 0
unfolding bit_of
bit_of-nothing k = ap (λ (x : ℕ). x % 2) (native.Mathlib.Nat.zero-div (2 ^ k))

half_pow : (k : ℕ) → 2 ^ suc k / 2 ≡ 2 ^ k
half_pow k = omega (arith, pow-suc 2 k)

pow-bit-same : (k : ℕ) → bit_of (2 ^ k) k ≡ 1
unfolding bit_of
pow-bit-same k = ap (λ (x : ℕ). x % 2) (native.Mathlib.Nat.div_self (pow_pos k))

pow-bit-other : (k j : ℕ) → j ≢ k → bit_of (2 ^ k) j ≡ 0
pow-bit-other zero zero h = absurd (h refl)
pow-bit-other zero (suc j) h = bit_of-suc 1 j ∙ bit_of-nothing j
pow-bit-other (suc k) zero h = bit_of-zero (2 ^ suc k) ∙ omega (arith, pow-suc 2 k)
pow-bit-other (suc k) (suc j) h =
    bit_of-suc (2 ^ suc k) j ∙ ap (λ (x : ℕ). bit_of x j) (half_pow k) ∙ pow-bit-other k j (λ e. h (ap suc e))

or_digits : (w b p : ℕ) → (w / 2 + b * p) * 2 + max (w % 2) (p * 2 % 2) ≡ w + b * (p * 2)
or_digits w b p = omega arith

and-digits : (w b p : ℕ) → b * p * 2 + min (w % 2) (p * 2 % 2) ≡ b * (p * 2)
and-digits w b p = omega arith

-- what `w | (1 << k)` gives
pub with_bit-or : (w k : ℕ) → bit_or w (2 ^ k) ≡ with_bit w k
unfolding with_bit
with_bit-or w zero = or_step w 1 ∙ omega (arith, or_zero_r (w / 2), bit_of-zero w)
with_bit-or w (suc k) =
    or_step w (2 ^ suc k) ∙ ap (λ (x : ℕ). bit_or (w / 2) x * 2 + max (w % 2) (2 ^ suc k % 2)) (half_pow k)
    ∙ rw (with_bit-or (w / 2) k, bit_of-suc, pow-suc) (or_digits w (1 - bit_of (w / 2) k) (2 ^ k))

-- the same at n bits
pub with_bit-shl : (n w k : ℕ) → k < n → bit_or w (1 * 2 ^ k % 2 ^ n) ≡ with_bit w k
with_bit-shl n w k h = ap (bit_or w) (one_shl k n h) ∙ with_bit-or w k

-- what `w & (1 << k)` gives
and_pow : (w k : ℕ) → bit_and w (2 ^ k) ≡ bit_of w k * 2 ^ k
and_pow w zero = and_step w 1 ∙ omega (arith, and_zero_r (w / 2), bit_of-zero w)
and_pow w (suc k) =
    and_step w (2 ^ suc k) ∙ ap (λ (x : ℕ). bit_and (w / 2) x * 2 + min (w % 2) (2 ^ suc k % 2)) (half_pow k)
    ∙ rw (and_pow (w / 2) k, bit_of-suc, pow-suc) (and-digits w (bit_of (w / 2) k) (2 ^ k))

pub with_bit-union : (w k : ℕ) → with_bit w k ≡ union w (2 ^ k)
unfolding union
with_bit-union w k = sym (with_bit-or w k)

pub without_bit-without : (w k : ℕ) → without_bit w k ≡ without w (2 ^ k)
unfolding without_bit without
without_bit-without w k = ap (λ (x : ℕ). w - x) (sym (and_pow w k))

-- what `w & !(1 << k)` gives at n bits
pub without_bit-shl : (n w k : ℕ) → w < 2 ^ n → k < n
    → bit_and w ((2 ^ n - 1) - 1 * 2 ^ k % 2 ^ n) ≡ without_bit w k
without_bit-shl n w k hw hk =
    ap (λ (x : ℕ). bit_and w ((2 ^ n - 1) - x)) (one_shl k n hk)
    ∙ without-and n w (2 ^ k) hw (pow-lt hk) ∙ sym (without_bit-without w k)

pub bit_of-with_bit-same : (w k : ℕ) → bit_of (with_bit w k) k ≡ 1
bit_of-with_bit-same w k =
    ap (λ (x : ℕ). bit_of x k) (with_bit-union w k) ∙ bit_of-union w (2 ^ k) k
    ∙ omega (arith, pow-bit-same k, bit_of-lt w k)

pub bit_of-with_bit-other : (w k j : ℕ) → j ≢ k → bit_of (with_bit w k) j ≡ bit_of w j
bit_of-with_bit-other w k j h =
    ap (λ (x : ℕ). bit_of x j) (with_bit-union w k) ∙ bit_of-union w (2 ^ k) j
    ∙ omega (arith, pow-bit-other k j h)

pub bit_of-without_bit-same : (w k : ℕ) → bit_of (without_bit w k) k ≡ 0
bit_of-without_bit-same w k =
    ap (λ (x : ℕ). bit_of x k) (without_bit-without w k) ∙ bit_of-without w (2 ^ k) k
    ∙ omega (arith, pow-bit-same k, bit_of-lt w k)

pub bit_of-without_bit-other : (w k j : ℕ) → j ≢ k → bit_of (without_bit w k) j ≡ bit_of w j
bit_of-without_bit-other w k j h =
    ap (λ (x : ℕ). bit_of x j) (without_bit-without w k) ∙ bit_of-without w (2 ^ k) j
    ∙ omega (arith, pow-bit-other k j h)

-- ---- as truth values

pub has_bit-one : (w k : ℕ) → bit_of w k ≡ 1 → has_bit w k ≡ true
unfolding has_bit
has_bit-one w k e = eq-eqb (bit_of w k) 1 e

pub has_bit-none : (w k : ℕ) → bit_of w k ≡ 0 → has_bit w k ≡ false
unfolding has_bit
has_bit-none w k e = ne_eqb (bit_of w k) 1 (λ q. omega arith)

pub has_bit-bit_of : (w k v j : ℕ) → bit_of w k ≡ bit_of v j → has_bit w k ≡ has_bit v j
unfolding has_bit
has_bit-bit_of w k v j e = ap (λ (x : ℕ). eqb x 1) e

pub has_bit-nothing : (k : ℕ) → has_bit 0 k ≡ false
has_bit-nothing k = has_bit-none 0 k (bit_of-nothing k)

pub has_bit-with_bit-same : (w k : ℕ) → has_bit (with_bit w k) k ≡ true
has_bit-with_bit-same w k = has_bit-one (with_bit w k) k (bit_of-with_bit-same w k)

pub has_bit-with_bit-other : (w k j : ℕ) → j ≢ k → has_bit (with_bit w k) j ≡ has_bit w j
has_bit-with_bit-other w k j h = has_bit-bit_of (with_bit w k) j w j (bit_of-with_bit-other w k j h)

pub has_bit-without_bit-same : (w k : ℕ) → has_bit (without_bit w k) k ≡ false
has_bit-without_bit-same w k = has_bit-none (without_bit w k) k (bit_of-without_bit-same w k)

pub has_bit-without_bit-other : (w k j : ℕ) → j ≢ k → has_bit (without_bit w k) j ≡ has_bit w j
has_bit-without_bit-other w k j h = has_bit-bit_of (without_bit w k) j w j (bit_of-without_bit-other w k j h)

-- a bit is 0 or 1
pub bit-cases : (P : ℕ → Type 0) → P 0 → P 1 → (x : ℕ) → x < 2 → P x
bit-cases P p q zero h = p
bit-cases P p q (suc zero) h = q
bit-cases P p q (suc (suc x)) h = absurd (omega arith)

bool-max : (x y : ℕ) → x < 2 → y < 2 → eqb (max x y) 1 ≡ (eqb x 1 || eqb y 1)
bool-max x y hx hy =
    bit-cases (λ (a : ℕ). eqb (max a y) 1 ≡ (eqb a 1 || eqb y 1))
    (bit-cases (λ (b : ℕ). eqb (max 0 b) 1 ≡ (eqb 0 1 || eqb b 1)) refl refl y hy)
    (bit-cases (λ (b : ℕ). eqb (max 1 b) 1 ≡ (eqb 1 1 || eqb b 1)) refl refl y hy)
    x hx

bool-min : (x y : ℕ) → x < 2 → y < 2 → eqb (min x y) 1 ≡ (eqb x 1 && eqb y 1)
bool-min x y hx hy =
    bit-cases (λ (a : ℕ). eqb (min a y) 1 ≡ (eqb a 1 && eqb y 1))
    (bit-cases (λ (b : ℕ). eqb (min 0 b) 1 ≡ (eqb 0 1 && eqb b 1)) refl refl y hy)
    (bit-cases (λ (b : ℕ). eqb (min 1 b) 1 ≡ (eqb 1 1 && eqb b 1)) refl refl y hy)
    x hx

bool-sub : (x y : ℕ) → x < 2 → y < 2 → eqb (x - y) 1 ≡ (eqb x 1 && not (eqb y 1))
bool-sub x y hx hy =
    bit-cases (λ (a : ℕ). eqb (a - y) 1 ≡ (eqb a 1 && not (eqb y 1)))
    (bit-cases (λ (b : ℕ). eqb (0 - b) 1 ≡ (eqb 0 1 && not (eqb b 1))) refl refl y hy)
    (bit-cases (λ (b : ℕ). eqb (1 - b) 1 ≡ (eqb 1 1 && not (eqb b 1))) refl refl y hy)
    x hx

pub has_bit-union : (w v k : ℕ) → has_bit (union w v) k ≡ (has_bit w k || has_bit v k)
unfolding has_bit
has_bit-union w v k =
    ap (λ (x : ℕ). eqb x 1) (bit_of-union w v k)
    ∙ bool-max (bit_of w k) (bit_of v k) (bit_of-lt w k) (bit_of-lt v k)

pub has_bit-and : (w v k : ℕ) → has_bit (bit_and w v) k ≡ (has_bit w k && has_bit v k)
unfolding has_bit
has_bit-and w v k =
    ap (λ (x : ℕ). eqb x 1) (bit_of-and w v k)
    ∙ bool-min (bit_of w k) (bit_of v k) (bit_of-lt w k) (bit_of-lt v k)

pub has_bit-without : (w v k : ℕ) → has_bit (without w v) k ≡ (has_bit w k && not (has_bit v k))
unfolding has_bit
has_bit-without w v k =
    ap (λ (x : ℕ). eqb x 1) (bit_of-without w v k)
    ∙ bool-sub (bit_of w k) (bit_of v k) (bit_of-lt w k) (bit_of-lt v k)

bool-bit : (x y : ℕ) → x < 2 → y < 2 → eqb x 1 ≡ eqb y 1 → x ≡ y
bool-bit x y hx hy =
    bit-cases (λ (a : ℕ). eqb a 1 ≡ eqb y 1 → a ≡ y)
    (bit-cases (λ (b : ℕ). eqb 0 1 ≡ eqb b 1 → 0 ≡ b) (λ e. refl) (λ e. absurd (false≢true e)) y hy)
    (bit-cases (λ (b : ℕ). eqb 1 1 ≡ eqb b 1 → 1 ≡ b) (λ e. absurd (true≢false e)) (λ e. refl) y hy)
    x hx

pub has_bit-ext : (n : ℕ) (w v : ℕ) → w < 2 ^ n → v < 2 ^ n → ((k : ℕ) → k < n → has_bit w k ≡ has_bit v k)
    → w ≡ v
unfolding has_bit
has_bit-ext n w v hw hv h =
    bits-ext n w v hw hv (λ k l. bool-bit (bit_of w k) (bit_of v k) (bit_of-lt w k) (bit_of-lt v k) (h k l))

-- ---- how large

pub union-lt : (n w v : ℕ) → w < 2 ^ n → v < 2 ^ n → union w v < 2 ^ n
unfolding union
union-lt n w v hw hv = or_lt n w v hw hv

pub without-le : (w v : ℕ) → without w v ≤ w
unfolding without
without-le w v = omega arith

pub with_bit-lt : (n w k : ℕ) → w < 2 ^ n → k < n → with_bit w k < 2 ^ n
with_bit-lt n w k hw hk = rw with_bit-union (union-lt n w (2 ^ k) hw (pow-lt hk))

pub without_bit-le : (w k : ℕ) → without_bit w k ≤ w
unfolding without_bit
without_bit-le w k = omega arith

-- ---- a bit put as a test says

pub put_bit-on : (w k : ℕ) (b : Bool) → b ≡ true → put_bit w k b ≡ with_bit w k
unfolding put_bit
put_bit-on w k b e = simp e

pub put_bit-off : (w k : ℕ) (b : Bool) → b ≡ false → put_bit w k b ≡ without_bit w k
unfolding put_bit
put_bit-off w k b e = simp e

pub has_bit-put_bit-same : (w k : ℕ) (b : Bool) → has_bit (put_bit w k b) k ≡ b
has_bit-put_bit-same w k true = ap (λ (x : ℕ). has_bit x k) (put_bit-on w k true refl)
    ∙ has_bit-with_bit-same w k
has_bit-put_bit-same w k false =
    ap (λ (x : ℕ). has_bit x k) (put_bit-off w k false refl) ∙ has_bit-without_bit-same w k

pub has_bit-put_bit-other : (w k : ℕ) (b : Bool) (j : ℕ) → j ≢ k → has_bit (put_bit w k b) j ≡ has_bit w j
has_bit-put_bit-other w k true j n =
    ap (λ (x : ℕ). has_bit x j) (put_bit-on w k true refl) ∙ has_bit-with_bit-other w k j n
has_bit-put_bit-other w k false j n =
    ap (λ (x : ℕ). has_bit x j) (put_bit-off w k false refl) ∙ has_bit-without_bit-other w k j n
