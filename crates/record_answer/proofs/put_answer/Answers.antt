-- `record_answer::put_answer` meets its contract: the number is put, then the fields, each behind what
-- stands, then the end of the line. Assumes nothing.
use Prim.Native.Nat.{◌<◌}
use mathlib.Core.Path.{◌∙◌}
use lib.ListN.{length, take, length-set}
use native.Mathlib.Omega.{arith}
use Rattle.record_lines.specs.Lines.{line_feed}
use Rattle.record_answer.proofs.ShownLaws.{put_byte, answer-then, words-first}
use borrow.Author.Rules.{rules}
use Rattle.record_answer.proofs.put_answer.Goals as goal

pub shape_of-out : goal.shape_of-out
shape_of-out c =
    simp length-set (c.put_words-logged.auto.out ∙ c.put_field-counted.auto.out ∙ c.put_field-valued.auto.out
    ∙ c.put_field-refused.auto.out ∙ c.put_decimal-numbered.auto.out)

pub returns : goal.returns
returns c =
    let args = c.args in
    let xs = take args.at args.out.now in
    let log = args.log.now in
    let there : c.put_words-logged.result < length c.put_words-logged.new.out = search rules in
    let end = put_byte c.put_words-logged.new.out c.put_words-logged.result line_feed there in
    record {
      out_after = answer-then xs args.number args.refusal args.value args.count (take args.count log)
          c.put_decimal-numbered.ensures.out_after c.put_field-refused.ensures.out_after
          c.put_field-valued.ensures.out_after c.put_field-counted.ensures.out_after
          (words-first _ log args.count _ c.put_words-logged.ensures.out_after
          (omega (arith, c.min.ensures))) end;
      upper_bound = search rules;
    }
