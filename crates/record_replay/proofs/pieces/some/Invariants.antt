-- The run has gone on by the bytes before its place. Assumes nothing.
use Prim.Native.Nat.{◌-◌, ◌≤◌, ◌<◌}
use mathlib.Core.Path.{◌≡◌}
use mathlib.Core.Logic.{◌⊎◌}
use mathlib.Core.List.{[]}
use lib.ListN.{length, take}
use Rattle.record_lines.specs.Lines.{line_room}
use Rattle.record_replay.specs.Pieces.{Went, held_at}
use Rattle.record_replay.proofs.pieces.some.Given as goal

abbrev pub invariant-loop-run : goal.invariant-loop-run
invariant-loop-run l =
    Went l.chunk l.initial.run.at
    (held_at l.initial.state l.initial.log l.initial.saved l.initial.line l.initial.run.number) [] l.run.at
    (held_at l.state l.log l.saved l.line l.run.number) (take l.run.used l.out)
    × (length l.line ≤ line_room) × (l.run.used ≤ length l.out) × (length l.state ≡ length l.initial.state)
    × (length l.out ≡ length l.initial.out)
    × ((l.initial.run.at < l.run.at) ⊎ (l.run.used ≡ 0))

abbrev pub decreases-loop-run : goal.decreases-loop-run
decreases-loop-run l = length l.chunk - l.run.at
