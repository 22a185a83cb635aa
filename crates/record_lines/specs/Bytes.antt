-- Where a byte stands among others. Assumes nothing.
--   index_of b xs     the place of the first byte b of xs, or how many bytes xs has if there is none
--   index_after t k   that place in x ∷ xs, if t says that x is b and k is the place in xs
use Rattle.std.specs.Prelude.{ℕ, suc, Bool, true, false, List, [], ◌∷◌, eqb}

unfoldable pub index_after : Bool → ℕ → ℕ
index_after true k = 0
index_after false k = suc k

unfoldable pub index_of : ℕ → List ℕ → ℕ
index_of b [] = 0
index_of b (x ∷ xs) = index_after (eqb x b) (index_of b xs)
