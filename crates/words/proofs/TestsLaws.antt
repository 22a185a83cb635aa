-- A test goes one way or the other, what a joined test says of its parts, when two tests agree, and a range
-- taken apart at its start. No contract cites this file. Assumes nothing.
use Prim.Native.Nat.{ℕ, suc, ◌≤◌}
use mathlib.Core.Path.{◌≡◌, refl, sym, subst}
use mathlib.Core.Bool.{Bool, true, false, beq, ◌&&◌, ◌||◌, true≢false, false≢true}
use mathlib.Core.Logic.{◌≢◌, ◌⊎◌, inl, inr}
use native.Mathlib.Decide.{ℕ_discrete}
use native.Mathlib.Omega.{arith}

-- what follows from either outcome of a test
pub tested {ℓ} : {C : Type ℓ} (b : Bool) → (b ≡ true → C) → (b ≡ false → C) → C
tested true t f = t refl
tested false t f = f refl

pub and_first : (a b : Bool) → (a && b) ≡ true → a ≡ true
and_first true b e = refl
and_first false b e = e

pub and_second : (a b : Bool) → (a && b) ≡ true → b ≡ true
and_second true b e = e
and_second false b e = absurd (false≢true e)

pub and_both : (a b : Bool) → a ≡ true → b ≡ true → (a && b) ≡ true
and_both a b p q = rw (p, q)

-- two tests that follow from each other are one
pub same_truth : (a b : Bool) → (a ≡ true → b ≡ true) → (b ≡ true → a ≡ true) → a ≡ b
same_truth true b f g = sym (f refl)
same_truth false true f g = g refl
same_truth false false f g = refl

pub or_cases : (a b : Bool) → (a || b) ≡ true → (a ≡ true) ⊎ (b ≡ true)
or_cases true b e = inl refl
or_cases false b e = inr e

pub or_left : (a b : Bool) → a ≡ true → (a || b) ≡ true
or_left a b e = rw e

pub or_right : (a b : Bool) → b ≡ true → (a || b) ≡ true
or_right true b e = refl
or_right false b e = e

pub beq-true : (a b : Bool) → beq a b ≡ true → a ≡ b
beq-true true true e = refl
beq-true true false e = absurd (false≢true e)
beq-true false true e = absurd (false≢true e)
beq-true false false e = refl

pub beq_same : (a b : Bool) → a ≡ b → beq a b ≡ true
beq_same true b e = rw (sym e)
beq_same false b e = rw (sym e)

pub beq-differs : (a b : Bool) → a ≢ b → beq a b ≡ false
beq-differs true true n = absurd (n refl)
beq-differs true false n = refl
beq-differs false true n = refl
beq-differs false false n = absurd (n refl)

pub not_same : (b : Bool) → b ≡ true → b ≡ false → ⊥
not_same true p q = true≢false q
not_same false p q = false≢true p

-- what holds at i and from i + 1 on holds from i on
pub from_next : (P : ℕ → Type 0) (i : ℕ) → P i → ((j : ℕ) → suc i ≤ j → P j) → (j : ℕ) → i ≤ j → P j
from_next P i here rest j h = at (ℕ_discrete i j)
  where
    at : Dec (i ≡ j) → P j
    at (yes e) = subst P e here
    at (no n) = rest j (omega arith)
