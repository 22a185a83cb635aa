-- The run has gone on by the bytes before `at`. Assumes nothing.
use Prim.Native.Nat.{◌-◌, ◌≤◌}
use mathlib.Core.Path.{◌≡◌}
use lib.ListN.{length}
use lib.Seq.{slice}
use Rattle.record_runs.specs.Replay.{gone_on}
use Rattle.replay.proofs.turns.turn.Given as goal

abbrev pub invariant-loop-at : goal.invariant-loop-at
invariant-loop-at l = (l.shift ≡ gone_on (slice 0 l.at l.chunk) l.initial.shift) × (l.at ≤ length l.chunk)

abbrev pub decreases-loop-at : goal.decreases-loop-at
decreases-loop-at l = length l.chunk - l.at
