-- `domain_inputs::gather` meets its contract: eight sources a turn are in. Assumes nothing.
use native.Mathlib.Omega.{arith}
use Rattle.domain_inputs.proofs.GatheringLaws.{rectified-none, rectified-at}
use Rattle.domain_inputs.proofs.gather.Goals as goal

pub loop-eight-init : goal.loop-eight-init
loop-eight-init c = rectified-none _ _

pub loop-eight-preserved : goal.loop-eight-preserved
loop-eight-preserved c = rectified-at _ _ (omega arith) c.with_eight-x.ensures

pub returns : goal.returns
returns c = rectified-at _ _ (omega arith) c.loop-eight.invariant
