-- `record_call::read` meets its contract. Assumes nothing.
use Rattle.record_call.proofs.TableLaws.{long-line, line-none, line-some}
use Rattle.record_call.proofs.read.Goals as goal

pub returns-then-line-gt-LINE_SIZE : goal.returns-then-line-gt-LINE_SIZE
returns-then-line-gt-LINE_SIZE c = long-line c.args.line.now c.if-line-gt-LINE_SIZE.true

pub returns-in_err-fields : goal.returns-in_err-fields
returns-in_err-fields c =
    rw c.from_residual.ensures
    (line-none c.args.line.now c.if-line-gt-LINE_SIZE.false c.in_err-fields.ensures)

pub returns : goal.returns
returns c =
    rw (c.call_of.ensures, c.name_end-end.ensures.line_value, c.as_slice.ensures.numbers)
    (line-some c.args.line.now c.in_ok-fields.fields c.if-line-gt-LINE_SIZE.false c.in_ok-fields.ensures)
