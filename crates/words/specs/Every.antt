-- A test of every number of a stretch. Assumes nothing.
--   every p i n    p holds of the n numbers from i on
use Rattle.std.specs.Prelude.{ℕ, zero, suc, Bool, true, ◌&&◌}

unfoldable pub every : (ℕ → Bool) → ℕ → ℕ → Bool
every p i zero = true
every p i (suc n) = p i && every p (suc i) n
