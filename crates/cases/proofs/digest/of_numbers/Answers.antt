-- `cases::digest::of_numbers` meets its contract. The loop's invariant: the digest so far, gone on with the
-- numbers that are left, is that of all. Assumes nothing.
use mathlib.Core.Path.{sym, ◌∙◌}
use Rattle.cases.proofs.DigestLaws.{digest-number, digest-numbers-end}
use borrow.Author.Rules.{rules}
use Rattle.cases.proofs.digest.of_numbers.Goals as goal

pub loop-n-preserved : goal.loop-n-preserved
loop-n-preserved c = (
  search rules,
  digest-number _ _ _ c.loop-n-test.true
      c.low32.ensures c.step.ensures
      c.high32.ensures c.step-d.ensures
      ∙ c.loop-n.invariant.1,
)

pub returns : goal.returns
returns c = sym (digest-numbers-end _ _ _ c.loop-n-test.false) ∙ c.loop-n.invariant.1
