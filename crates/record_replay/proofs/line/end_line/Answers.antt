-- `record_replay::line::end_line` meets its contract. Assumes nothing.
use mathlib.Core.Path.{sym, ap, ◌∙◌}
use mathlib.Core.List.{◌++◌}
use native.Mathlib.Omega.{arith}
use lib.ListN.{take}
use Rattle.record_runs.specs.Replay.{lent_of}
use Rattle.record_runs.proofs.LineLaws.{unread-lent, unread-answer, made-lent, made-answer}
use Rattle.record_replay.proofs.line.end_line.Goals as goal

pub returns-in_default : goal.returns-in_default
returns-in_default c =
    let args = c.args in
    let x = lent_of args.state.now args.log.now args.saved.now in
    let says = sym c.read.ensures ∙ c.in_default.is in
    record {
      saved_after = unread-lent _ args.number x says;
      out_after = c.put_number.ensures.out_after
          ∙ ap (λ bs. take args.used args.out.now ++ bs) (unread-answer _ args.number x says);
      upper_bound = omega (arith, c.put_number.ensures.upper_bound);
    }

pub returns : goal.returns
returns c =
    let says = sym c.read.ensures ∙ c.in-Some.is in
    let number = c.args.number in
    let gives = c.apply.ensures in
    record {
      saved_after = made-lent _ number _ says _ _ _ _ _ _ _ gives;
      out_after = c.put_answer.ensures.out_after
          ∙ ap (λ bs. take c.args.used c.args.out.now ++ bs)
          (made-answer _ number _ says _ _ _ _ _ _ _ gives _ c.numbers-answer.ensures);
      upper_bound = c.put_answer.ensures.upper_bound;
    }
