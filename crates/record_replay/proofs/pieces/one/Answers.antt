-- `record_replay::pieces::one` meets its contract. Assumes nothing.
use mathlib.Core.Path.{ap}
use native.Mathlib.Omega.{arith}
use lib.ListN.{length}
use Rattle.record_replay.proofs.PiecesLaws.{went-open, went-ended}
use Rattle.record_replay.proofs.pieces.one.Goals as goal

pub returns-then-end-chunk : goal.returns-then-end-chunk
returns-then-end-chunk c =
    let more = c.if-end-chunk.true in
    let cut = c.cut-end.ensures in
    let line-end = c.end_line-used.ensures in
    record {
      went = went-ended _ _ _ _ _ _ _ cut.cut_at _ more (cut.at_value more) _ _ _ c.clear.ensures
          (rw c.bytes.ensures.bytes at line-end.saved_after)
          (rw c.bytes.ensures.bytes at line-end.out_after);
      further = (line-end.upper_bound, omega (arith, cut.cut_at.start));
      few = omega (arith, ap length c.clear.ensures);
    }

pub returns : goal.returns
returns c =
    record {
      went = went-open _ _ _ _ _ _ _ c.cut-end.ensures.cut_at _;
      further = (omega arith, omega (arith, c.requires.1, c.if-end-chunk.false));
      few = c.cut-end.ensures.few;
    }
