-- What the loop of this function keeps, and its measure. Assumes nothing.
use Prim.Native.Nat.{◌+◌, ◌*◌}
use mathlib.Core.Path.{◌≡◌}
use Rattle.domain.specs.Domain.{domain_of, by_messages}
use Rattle.domain_slots.specs.Slots.{SoFar}
use Rattle.domain_slots.proofs.gather.Given as goal

abbrev pub invariant-loop-seven : goal.invariant-loop-seven
invariant-loop-seven l =
    (l.messages ≡ by_messages (domain_of l.part)) × SoFar l.child (domain_of l.part) (7 * l.seven + 1) l.g
