-- Laws of specs/Halves.antt. No contract cites this file. Assumes nothing.
use Prim.Native.Nat.{ℕ, ◌+◌, ◌*◌, ◌≤◌}
use mathlib.Core.Path.{◌≡◌, ap₂, ◌∙◌}
use mathlib.Core.List.{List}
use native.Mathlib.Omega.{arith}
use borrow.Author.Tests.{eq-eqb}
use lib.ListN.{length, set, length-set, get_or-eq_default}
use lib.Seq.{set_out}
use Rattle.words.specs.Bits.{without}
use Rattle.words.specs.Parts.{low, high, joined}
use Rattle.words.proofs.BitsLaws.{without_bit-without}
use Rattle.words.proofs.PartsLaws.{joined-zero}
use Rattle.file_select.specs.Halves.{doubleword, put_halves, put_doubleword}

module _ (ws : List ℕ) (j : ℕ) where
  pub doubleword-past : length ws ≤ 2 * j → doubleword ws j ≡ 0
  unfolding doubleword
  doubleword-past h =
      let l : length ws ≤ 2 * j + 1 = omega arith in
      ap₂ joined (get_or-eq_default ws 0 h) (get_or-eq_default ws 0 l) ∙ joined-zero

  pub put-past : (v : ℕ) → length ws ≤ 2 * j → put_halves ws j v ≡ ws
  unfolding put_halves
  put-past v h =
      set_out (set ws (2 * j) (low v)) (2 * j + 1) (high v) (rw length-set (omega arith))
      ∙ set_out ws (2 * j) (low v) h

-- identity 0 is dropped from word 0 alone
pub put_first : (ws : List ℕ) (j v : ℕ) → j ≡ 0 → put_doubleword ws j v ≡ put_halves ws 0 (without v 1)
unfolding put_doubleword
put_first ws j v e = simp (eq-eqb j 0 e) (ap₂ (put_halves ws) e (without_bit-without v 0))
