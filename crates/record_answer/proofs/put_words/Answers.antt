-- `record_answer::put_words` meets its contract: at each turn the words so far are put. Assumes nothing.
use mathlib.Core.Path.{refl, ◌∙◌}
use native.Mathlib.Omega.{arith}
use borrow.Author.Rules.{rules}
use lib.ListN.{take}
use Rattle.record_answer.proofs.ShownLaws.{words-none, words_more}
use Rattle.record_answer.proofs.put_words.Goals as goal

pub loop-word-init : goal.loop-word-init
loop-word-init c =
    (refl, omega arith, words-none (take c.args.at c.args.out.now) c.args.words.now)

pub loop-word-preserved : goal.loop-word-preserved
loop-word-preserved c = (
  c.put_field-end.auto.out ∙ c.loop-word.invariant.0,
  search rules,
  words_more (take c.args.at c.args.out.now) c.args.words.now c.loop-word.word-index c.loop-word.invariant.2
      c.put_field-end.ensures.out_after c.loop-word-test.true,
)
