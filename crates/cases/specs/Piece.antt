-- What was read of the input. Assumes nothing.
--   IsPrefixLen n xs    n of the bytes xs can be lent: there are as many, and the first n are n
use Rattle.std.specs.Prelude.{ℕ, ◌≤◌, ◌≡◌, List, length, take}

abbrev pub IsPrefixLen : ℕ → List ℕ → Type 0
IsPrefixLen n xs = (n ≤ length xs) × (n ≡ length (take n xs))
