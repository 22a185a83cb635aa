-- The turns bound the lines. Assumes nothing.
use Prim.Native.Nat.{◌*◌, ◌^◌, ◌≤◌}
use Rattle.replay.proofs.turns.all.Given as goal

abbrev pub invariant-loop : goal.invariant-loop
invariant-loop l = l.shift.number ≤ l.counter * 2 ^ 16
