-- What the two words of a set that one register shows hold, bit by bit, and what is left when they are
-- written. No contract cites this file. Assumes nothing.
use Prim.Native.Nat.{ℕ, ◌+◌, ◌*◌, ◌/◌, ◌%◌, ◌<◌}
use mathlib.Core.Path.{◌≡◌, sym, ap, ap₂, ◌∙◌}
use mathlib.Core.Bool.{cond, ◌&&◌, and-true, and-false}
use mathlib.Core.List.{List}
use native.Mathlib.Decide.{ℕ_discrete}
use native.Mathlib.Nat.{add-zero}
use native.Mathlib.Omega.{arith}
use lib.Dec.{eqb, leb}
use lib.ListN.{length, get_or}
use borrow.Author.Tests.{eq-eqb, ne_eqb, le-leb, lt-leb}
use Rattle.words.specs.Bits.{has_bit, without_bit}
use Rattle.words.specs.Parts.{joined}
use Rattle.words.specs.Sets.{member, WordsFit}
use Rattle.words.proofs.BitsLaws.{has_bit-without_bit-same}
use Rattle.words.proofs.PartsLaws.{has_bit-joined}
use Rattle.file_select.specs.Halves.{doubleword, put_doubleword}
use Rattle.file_laws.proofs.RegisterEffects.{member-halves, member-put, member-put-other}

-- bit i mod 64 of word i div 64 is identity i
pub has_bit-doubleword : (ws : List ℕ) (k i : ℕ) → WordsFit ws → i / 64 ≡ k
    → has_bit (doubleword ws k) (i % 64) ≡ member ws i
unfolding doubleword member WordsFit
has_bit-doubleword ws k i fit e =
    ap (λ (a : ℕ). has_bit (joined (get_or ws a 0) (get_or ws (2 * k + 1) 0)) (i % 64))
    (sym (add-zero (2 * k)))
    ∙ has_bit-joined (λ (a : ℕ). get_or ws (2 * k + a) 0) (fit (2 * k + 0)) (i % 64) (omega arith)
    ∙ ap₂ (λ (a b : ℕ). has_bit (get_or ws a 0) b) (omega arith) (omega arith)

-- identity i after v was written to word k: bit i mod 64 of v where that is its word, but that 0 stays out
pub member-put_doubleword : (ws : List ℕ) (k v i : ℕ) → 2 * k + 1 < length ws
    → member (put_doubleword ws k v) i
    ≡ cond (eqb (i / 64) k) (has_bit v (i % 64) && leb 1 i) (member ws i)
unfolding put_doubleword
member-put_doubleword ws k v i fits = at (ℕ_discrete (i / 64) k) (ℕ_discrete i 0)
  where
    at : Dec (i / 64 ≡ k) → Dec (i ≡ 0) → member (put_doubleword ws k v) i
        ≡ cond (eqb (i / 64) k) (has_bit v (i % 64) && leb 1 i) (member ws i)
    at (no d) z = member-put-other ws k v fits i d ∙ sym (simp (ne_eqb (i / 64) k d))
    at (yes e) (yes z) =
        ap₂ (λ (l m : ℕ). member (put_doubleword ws l v) m) (omega arith) z
        ∙ member-halves ws 0 (without_bit v 0) (omega arith) 0 (omega arith) ∙ has_bit-without_bit-same v 0
        ∙ sym (simp (eq-eqb (i / 64) k e, lt-leb 1 i (omega arith), and-false))
    at (yes e) (no z) =
        ap (member (put_doubleword ws k v)) (omega arith)
        ∙ member-put ws k v fits (i % 64) (omega arith) (λ q. z (omega arith))
        ∙ sym (simp (eq-eqb (i / 64) k e, le-leb 1 i (omega arith), and-true))
