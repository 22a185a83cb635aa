-- The turns bound the lines. Assumes nothing.
use Prim.Native.Nat.{◌≤◌}
use Rattle.cases.specs.Lendable.{Lendable}
use Rattle.cases.specs.Piece.{IsPrefixLen}
use Rattle.cases.proofs.main.Given as goal

abbrev pub invariant-loop : goal.invariant-loop
invariant-loop l =
    IsPrefixLen l.place.size l.chunk × (l.place.at ≤ l.place.size) × (l.number ≤ l.counter)
    × Lendable l.lent.state l.lent.log
