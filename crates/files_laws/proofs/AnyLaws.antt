-- Laws of `any_of` in specs/Messages.antt: it is true exactly if a message passes the test. No contract cites
-- this file. Assumes nothing.
use Prim.Native.Nat.{ℕ, zero, suc, ◌<◌}
use mathlib.Core.Path.{◌≡◌, refl}
use mathlib.Core.Bool.{Bool, true, false, ◌||◌, or-true, true≢false}
use mathlib.Core.List.{List, [], ◌∷◌}
use native.Mathlib.Omega.{arith}
use lib.ListN.{length, get_or}
use Rattle.files_laws.specs.Messages.{any_of}

-- ---- a joined test that fails

pub or-first : (a b : Bool) → (a || b) ≡ false → a ≡ false
or-first true b e = e
or-first false b e = refl

pub or-second : (a b : Bool) → (a || b) ≡ false → b ≡ false
or-second true b e = absurd (true≢false e)
or-second false b e = e

-- ---- any message of a list

module _ (p : ℕ → Bool) where
  pub any_of-true : (ms : List ℕ) (j : ℕ) → j < length ms → p (get_or ms j 0) ≡ true → any_of p ms ≡ true
  unfolding any_of
  any_of-true [] j h e = absurd (omega arith)
  any_of-true (m ∷ ms) zero h e = simp e
  any_of-true (m ∷ ms) (suc j) h e = simp (any_of-true ms j (omega arith) e, or-true)

  pub any_of-false : (ms : List ℕ) → any_of p ms ≡ false → (j : ℕ) → j < length ms → p (get_or ms j 0) ≡ false
  unfolding any_of
  any_of-false [] e j h = absurd (omega arith)
  any_of-false (m ∷ ms) e zero h = or-first (p m) (any_of p ms) e
  any_of-false (m ∷ ms) e (suc j) h = any_of-false ms (or-second (p m) (any_of p ms) e) j (omega arith)

  pub any_of-none : (ms : List ℕ) → ((j : ℕ) → j < length ms → p (get_or ms j 0) ≡ false) → any_of p ms
      ≡ false
  unfolding any_of
  any_of-none [] each = refl
  any_of-none (m ∷ ms) each =
      simp (each 0 (omega arith)) (any_of-none ms (λ j h. each (suc j) (omega arith)))
