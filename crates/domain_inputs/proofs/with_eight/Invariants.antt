-- What the loop of this function keeps, and its measure. Assumes nothing.
use Prim.Native.Nat.{◌+◌}
use Rattle.domain.specs.Domain.{domain_of}
use Rattle.domain_inputs.specs.Gathering.{RectifiedTo}
use Rattle.domain_inputs.proofs.with_eight.Given as goal

abbrev pub invariant-loop-j : goal.invariant-loop-j
invariant-loop-j l = RectifiedTo (domain_of l.part) l.k (l.b + l.j) l.x
