-- Laws of specs/Parts.antt: what the code's shifts and masks give, and that parts and wholes undo each other.
-- No contract cites this file.
-- Assumes nothing.
use Prim.Native.Nat.{ℕ, ◌+◌, ◌-◌, ◌*◌, ◌/◌, ◌%◌, ◌^◌, ◌<◌}
use mathlib.Core.Path.{◌≡◌, refl, sym, ap, ap₂, ◌∙◌}
use native.Mathlib.Decide.{dec_lt}
use native.Mathlib.Nat.{mod-lt, mod-eq_of_lt}
use native.Mathlib.Omega.{arith}
use lib.Arith.{digits_mod}
use lib.Pow.{pow_pos, shl_exact, mod-mod-pow, shr-shr}
use lib.Bits.{bit_and, bit_or, and_mask, or_shifted}
use Rattle.std.proofs.lemmas.Nat.{one_shl}
use Rattle.words.specs.Bits.{bit_of, has_bit}
use Rattle.words.specs.Parts.{reversed, low, high, joined, field_of, packed}
use Rattle.words.proofs.BitsLaws.{has_bit-bit_of}

-- ---- what the code's shifts and masks give

-- `(w >> at) & ((1 << size) - 1)` at n bits
pub field_of-and : (n w at size : ℕ) → size < n
    → bit_and (w / 2 ^ at) (1 * 2 ^ size % 2 ^ n - 1) ≡ field_of w at size
unfolding field_of
field_of-and n w at size h =
    ap (λ (x : ℕ). bit_and (w / 2 ^ at) (x - 1)) (one_shl size n h) ∙ and_mask (w / 2 ^ at) size

-- `(hi << at) | lo` at n bits
pub packed-or : (n hi at lo : ℕ) → lo < 2 ^ at → hi * 2 ^ at < 2 ^ n
    → bit_or (hi * 2 ^ at % 2 ^ n) lo ≡ packed hi at lo
unfolding packed
packed-or n hi at lo hlo hhi = ap (λ (x : ℕ). bit_or x lo) (mod-eq_of_lt hhi) ∙ or_shifted hi at lo hlo

-- ---- halves

pub low-lt : (w : ℕ) → low w < 2 ^ 32
unfolding low
low-lt w = mod-lt w (pow_pos 32)

pub high_lt : (w : ℕ) → w < 2 ^ 64 → high w < 2 ^ 32
unfolding high
high_lt w h = omega arith

pub joined-lt : (lo hi : ℕ) → lo < 2 ^ 32 → hi < 2 ^ 32 → joined lo hi < 2 ^ 64
unfolding joined
joined-lt lo hi hlo hhi = omega arith

pub joined-zero : joined 0 0 ≡ 0
unfolding joined
joined-zero = refl

pub low-joined : (lo hi : ℕ) → lo < 2 ^ 32 → low (joined lo hi) ≡ lo
unfolding low joined
low-joined lo hi h = omega arith

pub high-joined : (lo hi : ℕ) → lo < 2 ^ 32 → high (joined lo hi) ≡ hi
unfolding high joined
high-joined lo hi h = omega arith

pub joined_back : (w : ℕ) → joined (low w) (high w) ≡ w
unfolding low high joined
joined_back w = omega arith

-- ---- bytes and fields

pub reversed-lt : (w : ℕ) → w < 2 ^ 32 → reversed w < 2 ^ 32
unfolding reversed
reversed-lt w h = omega arith

pub reversed-bytes : (a b c d : ℕ) → a < 256 → b < 256 → c < 256 → d < 256
    → reversed (a * 2 ^ 24 + b * 2 ^ 16 + c * 2 ^ 8 + d) ≡ d * 2 ^ 24 + c * 2 ^ 16 + b * 2 ^ 8 + a
unfolding reversed
reversed-bytes a b c d ha hb hc hd =
    let w = a * 2 ^ 24 + b * 2 ^ 16 + c * 2 ^ 8 + d in
    let ed : w % 256 ≡ d = omega arith in
    let qc : w / 2 ^ 8 ≡ (a * 256 + b) * 256 + c = omega arith in
    let qb : w / 2 ^ 16 ≡ a * 256 + b = omega arith in
    let qa : w / 2 ^ 24 ≡ a = omega arith in
    let ec : w / 2 ^ 8 % 256 ≡ c = ap (λ (x : ℕ). x % 256) qc ∙ digits_mod (a * 256 + b) hc in
    let eb : w / 2 ^ 16 % 256 ≡ b = ap (λ (x : ℕ). x % 256) qb ∙ digits_mod a hb in
    let ea : w / 2 ^ 24 % 256 ≡ a = ap (λ (x : ℕ). x % 256) qa ∙ mod-eq_of_lt ha in
    rw (ed, ec, eb, ea)

pub reversed-back : (w : ℕ) → w < 2 ^ 32 → reversed (reversed w) ≡ w
reversed-back w h =
    let bytes : w ≡ w / 2 ^ 24 * 2 ^ 24 + w / 2 ^ 16 % 256 * 2 ^ 16 + w / 2 ^ 8 % 256 * 2 ^ 8 + w % 256 =
    omega arith in
    let top : w / 2 ^ 24 < 256 = omega arith in
    let b : w / 2 ^ 16 % 256 < 256 = omega arith in
    let c : w / 2 ^ 8 % 256 < 256 = omega arith in
    let d : w % 256 < 256 = omega arith in
    ap (λ (x : ℕ). reversed (reversed x)) bytes
    ∙ ap reversed (reversed-bytes (w / 2 ^ 24) (w / 2 ^ 16 % 256) (w / 2 ^ 8 % 256) (w % 256) top b c d)
    ∙ reversed-bytes (w % 256) (w / 2 ^ 8 % 256) (w / 2 ^ 16 % 256) (w / 2 ^ 24) d c b top ∙ sym bytes

pub field_of-lt : (w at size : ℕ) → field_of w at size < 2 ^ size
unfolding field_of
field_of-lt w at size = mod-lt (w / 2 ^ at) (pow_pos size)

pub field_of-is : (w at size : ℕ) → field_of w at size ≡ w / 2 ^ at % 2 ^ size
unfolding field_of
field_of-is w at size = refl

pub packed-is : (hi at lo : ℕ) → packed hi at lo ≡ hi * 2 ^ at + lo
unfolding packed
packed-is hi at lo = refl

-- the field that was put above is read there, and what lies below stays
pub field_of-packed : (hi at lo size : ℕ) → lo < 2 ^ at → hi < 2 ^ size
    → field_of (packed hi at lo) at size ≡ hi
unfolding field_of packed
field_of-packed hi at lo size hlo hhi = ap (λ (x : ℕ). x % 2 ^ size) (lib.Pow.high hi at hlo)
    ∙ mod-eq_of_lt hhi

pub packed-low : (hi at lo : ℕ) → lo < 2 ^ at → packed hi at lo % 2 ^ at ≡ lo
unfolding packed
packed-low hi at lo h = lib.Pow.low hi at h

-- ---- the bits of halves

bit_of-mod : (w n k : ℕ) → k < n → bit_of (w % 2 ^ n) k ≡ bit_of w k
unfolding bit_of
bit_of-mod w n k h =
    let above : n ≡ (n - k) + k = omega arith in
    let one : n - k ≡ (n - k - 1) + 1 = omega arith in
    ap (λ (m : ℕ). w % 2 ^ m / 2 ^ k % 2) above ∙ ap (λ (x : ℕ). x % 2) (lib.Pow.field w (n - k) k)
    ∙ ap (λ (m : ℕ). w / 2 ^ k % 2 ^ m % 2) one ∙ mod-mod-pow (w / 2 ^ k) (n - k - 1) 1

pub has_bit-low : (w k : ℕ) → k < 32 → has_bit (low w) k ≡ has_bit w k
unfolding low
has_bit-low w k h = has_bit-bit_of (w % 2 ^ 32) k w k (bit_of-mod w 32 k h)

pub has_bit-high : (w k : ℕ) → has_bit (high w) k ≡ has_bit w (32 + k)
unfolding high bit_of
has_bit-high w k = has_bit-bit_of (w / 2 ^ 32) k w (32 + k) (ap (λ (x : ℕ). x % 2) (shr-shr w 32 k))

pub has_bit-joined-low : (lo hi k : ℕ) → lo < 2 ^ 32 → k < 32 → has_bit (joined lo hi) k ≡ has_bit lo k
has_bit-joined-low lo hi k hlo hk =
    sym (has_bit-low (joined lo hi) k hk) ∙ ap (λ (x : ℕ). has_bit x k) (low-joined lo hi hlo)

pub has_bit-joined-high : (lo hi k : ℕ) → lo < 2 ^ 32 → has_bit (joined lo hi) (32 + k) ≡ has_bit hi k
has_bit-joined-high lo hi k hlo =
    sym (has_bit-high (joined lo hi) k) ∙ ap (λ (x : ℕ). has_bit x k) (high-joined lo hi hlo)

-- two words as one, each of them by its number
pub has_bit-joined : (word : ℕ → ℕ) → word 0 < 2 ^ 32 → (i : ℕ) → i < 64
    → has_bit (joined (word 0) (word 1)) i ≡ has_bit (word (i / 32)) (i % 32)
has_bit-joined word low i h = at (dec_lt i 32)
  where
    at : Dec (i < 32) → has_bit (joined (word 0) (word 1)) i ≡ has_bit (word (i / 32)) (i % 32)
    at (yes l) =
        has_bit-joined-low (word 0) (word 1) i low l
        ∙ ap₂ (λ (k b : ℕ). has_bit (word k) b) (omega arith) (omega arith)
    at (no l) =
        ap (has_bit (joined (word 0) (word 1))) (omega arith)
        ∙ has_bit-joined-high (word 0) (word 1) (i - 32) low
        ∙ ap₂ (λ (k b : ℕ). has_bit (word k) b) (omega arith) (omega arith)
