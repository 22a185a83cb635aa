-- Laws of specs/Deliveries.antt. No contract cites this file. Assumes nothing.
use Prim.Native.Nat.{ℕ, ◌≤◌, ◌<◌, ◌^◌}
use mathlib.Core.Path.{◌≡◌, sym, ◌∙◌}
use mathlib.Core.Bool.{Bool, true, not, ◌&&◌}
use native.Mathlib.Decide.{dec_lt}
use native.Mathlib.Omega.{arith}
use lib.Dec.{eqb}
use borrow.Author.Tests.{eq-eqb, ne_eqb, eqb-true, eqb-false}
use Rattle.words.proofs.TestsLaws.{tested, and_second}
use Rattle.file_select.specs.Deliveries.{delivery_legal}

pub legal-switch : (g : Bool) (d : ℕ) → d < 2 → delivery_legal g d ≡ true
unfolding delivery_legal
legal-switch g d h =
    tested (eqb d 0) (λ z. simp z) (λ n. simp (n, eq-eqb d 1 (omega (arith, eqb-false d 0 n))))

pub legal-other : (g : Bool) (d : ℕ) → 2 ≤ d → delivery_legal g d ≡ (not g && eqb d 0x40000000)
unfolding delivery_legal
legal-other g d h = simp (ne_eqb d 0 (λ q. omega arith), ne_eqb d 1 (λ q. omega arith))

pub legal-lt : (g : Bool) (d : ℕ) → delivery_legal g d ≡ true → d < 2 ^ 32
legal-lt g d e = at (dec_lt d 2)
  where
    at : Dec (d < 2) → d < 2 ^ 32
    at (yes h) = omega arith
    at (no h) =
        omega (
          arith,
          eqb-true d 0x40000000
              (and_second (not g) (eqb d 0x40000000) (sym (legal-other g d (omega arith)) ∙ e)),
        )
