-- `source_target::below_hart` meets its contract: a guest index above an identity ends below the hart.
-- Assumes nothing.
use Rattle.source_target.proofs.TargetLaws.{receiver-lt}
use Rattle.source_target.proofs.below_hart.Goals as goal

pub returns-then-child-clause-below : goal.returns-then-child-clause-below
returns-then-child-clause-below c =
    rw c.packed32.ensures (receiver-lt _ _ c.guest_of.ensures.1 c.number_of-number.ensures.1)
