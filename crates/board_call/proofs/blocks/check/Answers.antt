-- `board_call::blocks::check` meets its contract: the lengths, then the rules. Assumes nothing.
use Prim.Native.Nat.{ℕ}
use mathlib.Core.Path.{◌≡◌, refl, sym, ap, ◌∙◌}
use mathlib.Core.List.{List}
use borrow.Author.Rules.{rules}
use mathlib.Core.Bool.{true, false}
use Rattle.std.proofs.lemmas.Result.{err_from_is_err_and}
use Rattle.board_block.specs.Block.{board_of, board_sound}
use Rattle.board_call.proofs.AnswerLaws.{passed-case, failed-case}
use Rattle.board_call.proofs.RefusalLaws.{refused-lengths, refused-rules, blocks-sound, passed-state}
use Rattle.board_call.proofs.RefusalLaws.{passed-log}
use Rattle.board_call.proofs.blocks.check.Goals as goal

pub returns-in_err-lengths-clause-told : goal.returns-in_err-lengths-clause-told
returns-in_err-lengths-clause-told c =
    let p = err_from_is_err_and c.from_residual.result c.from_residual.ensures.1 in
    rw (p.1, p.2) (refused-lengths true _ _ _ (failed-case _ _ c.lengths.ensures.told c.in_err-lengths.was))

pub returns-then-not-sound-clause-told : goal.returns-then-not-sound-clause-told
returns-then-not-sound-clause-told c =
    let none = passed-case _ _ c.lengths.ensures.told c.in_ok-lengths.was in
    let lent : c.unwrap.result.now ≡ c.args.state.now = search rules in
    sym (refused-rules true _ _ (passed-state false _ _ none) (passed-log false _ _ none) refl
    (ap (λ (l : List ℕ). board_sound (board_of l)) (sym lent) ∙ sym c.sound.ensures ∙ c.if-not-sound.true))

pub returns-clause-told : goal.returns-clause-told
returns-clause-told c =
    let none = passed-case _ _ c.lengths.ensures.told c.in_ok-lengths.was in
    let lent : c.unwrap.result.now ≡ c.args.state.now = search rules in
    sym (blocks-sound true _ _ (passed-state false _ _ none) (passed-log false _ _ none)
    (ap (λ (l : List ℕ). board_sound (board_of l)) (sym lent) ∙ sym c.sound.ensures ∙ c.if-not-sound.false))
