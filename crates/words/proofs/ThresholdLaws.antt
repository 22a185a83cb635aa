-- Laws of specs/Threshold.antt. No contract cites this file. Assumes nothing.
use Prim.Native.Nat.{ℕ, ◌≤◌}
use mathlib.Core.Path.{◌≡◌, sym, ◌∙◌}
use mathlib.Core.Bool.{false, true≢false}
use mathlib.Core.Logic.{◌≢◌}
use native.Mathlib.Omega.{arith}
use lib.Dec.{eqb, ltb}
use borrow.Author.Tests.{ne_eqb, le-ltb, ltb-false}
use Rattle.words.proofs.TestsLaws.{tested, or_left}
use Rattle.words.specs.Threshold.{passes}

-- a threshold other than 0 lets through what is below it, so never itself
pub passes-below : (t i : ℕ) → t ≢ 0 → passes t i ≡ ltb i t
unfolding passes
passes-below t i h = simp (ne_eqb t 0 h)

pub passes-itself : (t : ℕ) → t ≢ 0 → passes t t ≡ false
passes-itself t h = passes-below t t h ∙ le-ltb t t (omega arith)

-- what lies above a number that is shut out is shut out
pub passes-above : (t i j : ℕ) → i ≤ j → passes t i ≡ false → passes t j ≡ false
unfolding passes
passes-above t i j h e =
    tested (eqb t 0) (λ z. absurd (true≢false (sym (or_left (eqb t 0) (ltb i t) z) ∙ e)))
    (λ n. simp n (le-ltb j t (omega (arith, ltb-false i t (simp n at e)))))
