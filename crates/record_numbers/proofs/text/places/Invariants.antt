-- What the loop of this function keeps, and its measure. Assumes nothing.
use Rattle.record_numbers.proofs.PuttingLaws.{Counted}
use Rattle.record_numbers.proofs.text.places.Given as goal

abbrev pub invariant-loop-rest : goal.invariant-loop-rest
invariant-loop-rest l = Counted l.n l.k l.rest

abbrev pub decreases-loop-rest : goal.decreases-loop-rest
decreases-loop-rest l = l.rest
