-- `domain_inputs::with_eight` meets its contract: j sources more are in. Assumes nothing.
use native.Mathlib.Omega.{arith}
use Rattle.domain_inputs.proofs.GatheringLaws.{rectified-at}
use Rattle.domain_inputs.proofs.with_eight.Goals as goal

pub loop-j-init : goal.loop-j-init
loop-j-init c = rectified-at _ _ (omega arith) c.requires.2

pub loop-j-preserved : goal.loop-j-preserved
loop-j-preserved c = rectified-at _ _ (omega arith) c.with_source-x.ensures

pub returns : goal.returns
returns c = rectified-at _ _ (omega arith) c.loop-j.invariant
