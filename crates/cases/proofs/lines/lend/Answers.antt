-- `cases::lines::lend` meets its contract: what is lent comes back as long as it was, and before the others.
-- Assumes nothing.
use mathlib.Core.Path.{◌∙◌}
use lib.ListN.{length-take}
use lib.Seq.{length-take-le, take_at, drop_at}
use native.Mathlib.Omega.{arith}
use Rattle.cases.proofs.lines.lend.Goals as goal

pub slice_bounds-apply-end-2 : goal.slice_bounds-apply-end-2
slice_bounds-apply-end-2 c = simp length-take (omega arith)

pub slice_bounds-apply-end-4 : goal.slice_bounds-apply-end-4
slice_bounds-apply-end-4 c = simp length-take (omega arith)

pub returns : goal.returns
returns c =
    let told = c.numbers.ensures in
    let gives = c.apply.ensures in
    let words = c.apply.auto.state ∙ length-take-le _ _ c.requires.0 in
    let messages = c.apply.auto.log ∙ length-take-le _ _ c.requires.1 in
    record {
      told = record {
        refusal = rw told.refusal gives.number;
        value = rw told.value gives.value;
        count = rw told.count gives.count;
        block = rw (take_at c.apply.new.state _ _ words) gives.block;
        log = rw (take_at c.apply.new.log _ _ messages) gives.log;
        saved = gives.saved;
      };
      state_unchanged = (drop_at c.apply.new.state _ _ words, drop_at c.apply.new.log _ _ messages);
    }
