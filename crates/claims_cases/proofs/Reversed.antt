-- The bytes of a word reversed by shifts and masks: the same arithmetic as the library's method (D41). No
-- contract cites this file. Assumes nothing.
use Prim.Native.Nat.{ℕ, ◌+◌, ◌*◌, ◌/◌, ◌%◌, ◌^◌, ◌≤◌, ◌<◌}
use mathlib.Core.Path.{◌≡◌, ap, ◌∙◌}
use native.Mathlib.Omega.{arith}
use lib.Dec.{lit≤}
use lib.Pow.{shl_exact}
use lib.Bits.{bit_and, bit_or, and_mask, or_shifted}
use Rattle.words.specs.Parts.{reversed}

-- a byte put at a place above what is there
byte_or : (b at lo : ℕ) → b < 256 → lo < 2 ^ at → at + 8 ≤ 32
    → bit_or (b * 2 ^ at % 2 ^ 32) lo ≡ b * 2 ^ at + lo
byte_or b at lo hb hlo h =
    ap (λ (x : ℕ). bit_or x lo) (shl_exact 8 at 32 hb (omega arith)) ∙ or_shifted b at lo hlo

pub reversed-or : (w : ℕ) → w < 2 ^ 32
    → bit_or (bit_and w 255 * 2 ^ 24 % 2 ^ 32)
    (bit_or (bit_and (w / 2 ^ 8) 255 * 2 ^ 16 % 2 ^ 32)
    (bit_or (bit_and (w / 2 ^ 16) 255 * 2 ^ 8 % 2 ^ 32) (w / 2 ^ 24)))
    ≡ reversed w
unfolding reversed
reversed-or w h =
    let d : w / 2 ^ 24 < 2 ^ 8 = omega arith in
    let c : w / 2 ^ 16 % 256 * 2 ^ 8 + w / 2 ^ 24 < 2 ^ 16 = omega arith in
    let b : w / 2 ^ 8 % 256 * 2 ^ 16 + (w / 2 ^ 16 % 256 * 2 ^ 8 + w / 2 ^ 24) < 2 ^ 24 = omega arith in
    rw (and_mask w 8, and_mask (w / 2 ^ 8) 8, and_mask (w / 2 ^ 16) 8)
    (ap (λ (x : ℕ). bit_or (w % 256 * 2 ^ 24 % 2 ^ 32) (bit_or (w / 2 ^ 8 % 256 * 2 ^ 16 % 2 ^ 32) x))
    (byte_or (w / 2 ^ 16 % 256) 8 (w / 2 ^ 24) (omega arith) d (lit≤ tt))
    ∙ ap (bit_or (w % 256 * 2 ^ 24 % 2 ^ 32)) (byte_or (w / 2 ^ 8 % 256) 16 _ (omega arith) c (lit≤ tt))
    ∙ byte_or (w % 256) 24 _ (omega arith) b (lit≤ tt) ∙ omega arith)
