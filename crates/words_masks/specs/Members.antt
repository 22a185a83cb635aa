-- The members of a set of numbers as their list. Assumes nothing.
--   listed p i n   those of the n numbers from i on of which p holds, in rising order
use Rattle.std.specs.Prelude.{ℕ, zero, suc, Bool, cond, List, [], ◌∷◌}

unfoldable pub listed : (ℕ → Bool) → ℕ → ℕ → List ℕ
listed p i zero = []
listed p i (suc n) = cond (p i) (i ∷ listed p (suc i) n) (listed p (suc i) n)
