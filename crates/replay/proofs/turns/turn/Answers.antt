-- `replay::turns::turn` meets its contract: at each turn of its loop the run has gone on by the bytes so far.
-- Assumes nothing.
use mathlib.Core.Path.{◌≡◌}
use Prim.Native.Nat.{◌+◌, ◌-◌, ◌<◌, ◌^◌}
use native.Mathlib.Omega.{arith}
use lib.ListN.{length}
use Rattle.record_lines.proofs.LinesLaws.{kept-few}
use Rattle.replay.proofs.TurnLaws.{part_none, part-more, part-all, part-number}
use Rattle.replay.proofs.turns.turn.Goals as goal

pub loop-at-init : goal.loop-at-init
loop-at-init c =
    (rw (← c.shift.view_is) (part_none c.args.chunk.now _ (kept-few _ c.shift.invariant)), omega arith)

pub some-run-requires : goal.some-run-requires
some-run-requires c =
    let inv = c.loop-at.invariant in
    let number = part-number _ c.loop-at.at _ _ inv.1 inv.0 in
    let left : c.loop-at.shift.number + (length c.args.chunk.now - c.loop-at.at) < 2 ^ 64 =
    omega (arith, number, inv.1, c.requires, c.loop-at-test.true) in
    (inv.1, left)

pub returns-in_err-write-clause-number_le : goal.returns-in_err-write-clause-number_le
returns-in_err-write-clause-number_le c =
    let some = c.some-run.ensures.went in
    let held = part-more _ _ _ _ _ _ _ c.loop-at.invariant.0 some in
    omega (arith, part-number _ c.some-run.result.at _ _ some.end held, some.end)

pub loop-at-smaller : goal.loop-at-smaller
loop-at-smaller c =
    let more = c.loop-at-test.true in
    omega (arith, c.some-run.ensures.went.end, c.some-run.ensures.at_lt_at more, more)

pub loop-at-preserved : goal.loop-at-preserved
loop-at-preserved c =
    (part-more _ _ _ _ _ _ _ c.loop-at.invariant.0 c.some-run.ensures.went, c.some-run.ensures.went.end)

pub returns : goal.returns
returns c =
    let inv = c.loop-at.invariant in
    let all : c.loop-at.at ≡ length c.args.chunk.now = omega (arith, inv.1, c.loop-at-test.false) in
    record {
      ok = part-all _ _ _ _ all inv.0;
      number_le = omega (arith, part-number _ c.loop-at.at _ _ inv.1 inv.0, inv.1);
    }
