-- What the loop of this function keeps, and its measure. Assumes nothing.
use Rattle.record_numbers.proofs.PuttingLaws.{Standing}
use Rattle.record_numbers.proofs.text.put_decimal.Given as goal

abbrev pub invariant-loop-i : goal.invariant-loop-i
invariant-loop-i l = Standing l.n l.at l.end l.initial.out l.out l.i l.rest

abbrev pub decreases-loop-i : goal.decreases-loop-i
decreases-loop-i l = l.i
