-- What the loop of this function keeps, and its measure. Assumes nothing.
use Prim.Native.Nat.{◌*◌}
use Rattle.domain.specs.Domain.{domain_of}
use Rattle.domain_inputs.specs.Gathering.{RectifiedTo}
use Rattle.domain_inputs.proofs.gather.Given as goal

abbrev pub invariant-loop-eight : goal.invariant-loop-eight
invariant-loop-eight l = RectifiedTo (domain_of l.part) l.k (8 * l.eight) l.x
