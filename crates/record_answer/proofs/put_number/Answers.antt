-- `record_answer::put_number` meets its contract: the number is put, and the end of the line behind it.
-- Assumes nothing.
use mathlib.Core.List.{[], ◌∷◌}
use native.Mathlib.Omega.{arith}
use lib.ListN.{take}
use Rattle.record_numbers.specs.Decimal.{text_of}
use Rattle.record_lines.specs.Lines.{line_feed}
use Rattle.record_answer.proofs.ShownLaws.{line-one, put_byte, put_then}
use Rattle.record_answer.proofs.put_number.Goals as goal

pub returns : goal.returns
returns c =
    let args = c.args in
    let xs = take args.at args.out.now in
    let text = c.put_decimal-end.ensures.out_after in
    let byte = put_byte c.put_decimal-end.new.out c.put_decimal-end.result line_feed (omega arith) in
    let line = put_then xs (text_of args.number) (line_feed ∷ []) text byte in
    record {
      out_after = rw (line-one args.number) line;
      upper_bound = omega arith;
    }
