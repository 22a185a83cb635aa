-- `record_answer::put_field` meets its contract: a tab is put, and the number behind it. Assumes nothing.
use mathlib.Core.Path.{◌∙◌}
use mathlib.Core.List.{[], ◌∷◌}
use native.Mathlib.Omega.{arith}
use lib.ListN.{take, length-set}
use Rattle.record_numbers.specs.Decimal.{text_of}
use Rattle.record_fields.specs.Fields.{tab}
use Rattle.record_answer.proofs.ShownLaws.{fields-one, put_byte, put_then}
use Rattle.record_answer.proofs.put_field.Goals as goal

pub put_decimal-requires : goal.put_decimal-requires
put_decimal-requires c = simp length-set (omega arith)

pub shape_of-out : goal.shape_of-out
shape_of-out c = c.put_decimal.auto.out ∙ simp length-set

pub returns : goal.returns
returns c =
    let args = c.args in
    let xs = take args.at args.out.now in
    let byte = put_byte args.out.now args.at tab (omega arith) in
    let text = c.put_decimal.ensures.out_after in
    let field = put_then xs (tab ∷ []) (text_of args.n) byte text in
    record {
      out_after = rw (fields-one args.n) field;
      upper_bound = omega arith;
      lower_bound = omega arith;
    }
