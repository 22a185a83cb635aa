-- What comes next of the input. Assumes nothing.
--   IsNext n xs    what n says of the piece xs: how much of it can be taken, and that no more is taken
use Rattle.std.specs.Prelude.{ℕ, ◌≤◌, List}
use Rattle.cases.specs.Piece.{IsPrefixLen}
use Rattle.cases.specs.declared.Next.{Next}
use Rattle.cases.specs.declared.Next.TheVariants.{Line, Piece, End}

abbrev pub IsNext : Next → List ℕ → Type 0
IsNext (Line to) xs = IsPrefixLen to.size xs × (to.at ≤ to.size)
IsNext (Piece to) xs = IsPrefixLen to.size xs × (to.at ≤ to.size)
IsNext End xs = Unit {0}
