-- `replay::shift::Shift::some` meets its contract: no more is held than before. Assumes nothing.
use Rattle.replay.proofs.shift.Shift.some.Goals as goal

pub invariant_of-self : goal.invariant_of-self
invariant_of-self c = c.some-run.ensures.few.0
