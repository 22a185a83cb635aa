-- `record_replay::pieces::some` meets its contract: at each turn the run has gone on by the bytes so far.
-- Assumes nothing.
use mathlib.Core.Path.{refl, ◌∙◌}
use mathlib.Core.Logic.{inl, inr}
use mathlib.Core.List.{[]}
use native.Mathlib.Omega.{arith}
use Rattle.record_lines.proofs.LinesLaws.{kept-few}
use Rattle.record_runs.proofs.RunLaws.{gone-none}
use Rattle.record_replay.proofs.PiecesLaws.{went-none, went-both, went-number}
use Rattle.record_replay.proofs.pieces.some.Goals as goal

pub loop-run-init : goal.loop-run-init
loop-run-init c =
    let run = c.args.from in (
      went-none c.args.chunk.now run.at _ [] c.requires.1
          (gone-none _ (kept-few c.args.line.now c.bytes.ensures.few)),
      c.bytes.ensures.few,
      omega arith,
      refl,
      refl,
      inr refl,
    )

pub one-run-requires : goal.one-run-requires
one-run-requires c =
    let inv = c.loop-run.invariant in
    let pre = c.requires in (
      omega (arith, c.if-out-run-ge-ANSWER_ROOM.true, inv.2),
      c.loop-run-test.true,
      omega (arith, c.loop-run-test.true, pre.2, went-number _ _ _ _ _ _ _ inv.0, inv.0.start),
    )

pub loop-run-preserved : goal.loop-run-preserved
loop-run-preserved c =
    let inv = c.loop-run.invariant in
    let one = c.one-run in
    let next = one.ensures in (
      went-both _ _ _ _ _ _ _ _ _ _ inv.0 next.went,
      next.few,
      omega (arith, next.further, one.auto.out, c.if-out-run-ge-ANSWER_ROOM.true, inv.2),
      one.auto.state ∙ inv.3,
      one.auto.out ∙ inv.4,
      inl (omega (arith, inv.0.start, next.further)),
    )
