-- `cases::digest::of_words` meets its contract. The loop's invariant: the digest so far, gone on with the
-- words that are left, is that of all. Assumes nothing.
use mathlib.Core.Path.{sym, ◌∙◌}
use Rattle.cases.proofs.DigestLaws.{digest-word, digest-end}
use borrow.Author.Rules.{rules}
use Rattle.cases.proofs.digest.of_words.Goals as goal

pub loop-word-preserved : goal.loop-word-preserved
loop-word-preserved c = (
  search rules,
  digest-word _ _ _ c.loop-word-test.true c.step-d.ensures
      ∙ c.loop-word.invariant.1,
)

pub returns : goal.returns
returns c = sym (digest-end _ _ _ c.loop-word-test.false) ∙ c.loop-word.invariant.1
