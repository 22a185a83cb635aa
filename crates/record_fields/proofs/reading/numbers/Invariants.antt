-- The numbers so far are those of the fields before `at`. Assumes nothing.
use Prim.Native.Nat.{◌-◌}
use lib.ListN.{length}
use Rattle.record_fields.proofs.NumbersLaws.{NumbersTo}
use Rattle.record_fields.proofs.reading.numbers.Given as goal

abbrev pub invariant-loop-at : goal.invariant-loop-at
invariant-loop-at l = NumbersTo l.line l.fields l.at

abbrev pub decreases-loop-at : goal.decreases-loop-at
decreases-loop-at l = length l.line - l.at
