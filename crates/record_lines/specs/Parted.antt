-- Bytes parted by a byte. 02, M-100; docs/RECORD.md. Assumes nothing.
--   ended_by b p xs     the parts that a byte b ends in xs, if p stands before xs and has no byte b
--   rest_by b p xs      what stands behind the last byte b of xs: p and all of xs if there is none
use Rattle.std.specs.Prelude.{ℕ, cond, List, [], ◌∷◌, ◌++◌, eqb}

unfoldable pub ended_by : ℕ → List ℕ → List ℕ → List (List ℕ)
ended_by b p [] = []
ended_by b p (x ∷ xs) = cond (eqb x b) (p ∷ ended_by b [] xs) (ended_by b (p ++ (x ∷ [])) xs)

unfoldable pub rest_by : ℕ → List ℕ → List ℕ → List ℕ
rest_by b p [] = p
rest_by b p (x ∷ xs) = cond (eqb x b) (rest_by b [] xs) (rest_by b (p ++ (x ∷ [])) xs)
