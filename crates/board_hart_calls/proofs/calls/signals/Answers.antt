-- `board_hart_calls::calls::signals` meets its contract: refused, or the signals of its hart. Assumes
-- nothing.
use mathlib.Core.Path.{◌≡◌, refl, ap, ◌∙◌}
use Prim.Native.Nat.{ℕ}
use mathlib.Core.List.{List}
use borrow.Author.Rules.{rules}
use Rattle.board_block.specs.Block.{board_of}
use Rattle.board_call.specs.Change.{signals_to}
use borrow.Author.Tests.{ltb-true}
use Rattle.board_call.proofs.AnswerLaws.{passed-case}
use Rattle.board_call_laws.proofs.CallTests.{tests-blocks, tests-failed, tests-passed}
use Rattle.board_call_laws.proofs.HartCallEffects.{tests-signals, signals-done}
use Rattle.board_hart_calls.proofs.calls.signals.Goals as goal

pub returns-in_err-check : goal.returns-in_err-check
returns-in_err-check c =
    tests-blocks (tests-signals _) _ _ _ c.check.ensures.told c.in_err-check.was _ c.from_residual.ensures.1

pub returns-in_err-check_numbers : goal.returns-in_err-check_numbers
returns-in_err-check_numbers c =
    let none = passed-case _ _ c.check.ensures.told c.in_ok-check.was in
    tests-failed (tests-signals _) _ _ none refl refl refl _ c.check_numbers.ensures
    c.in_err-check_numbers.was _ c.from_residual-in_err-check_numbers.ensures.1

pub all_signals-signals-requires : goal.all_signals-signals-requires
all_signals-signals-requires c =
    let none = passed-case _ _ c.check.ensures.told c.in_ok-check.was in
    let passed = tests-passed (tests-signals _) _ _ none refl refl refl _ c.check_numbers.ensures
    c.in_ok-check_numbers.was in
    ltb-true _ 4 passed.0

pub returns : goal.returns
returns c =
    let lent : c.unwrap.result.now ≡ c.args.state.now = search rules in
    let none = passed-case _ _ c.check.ensures.told c.in_ok-check.was in
    let passed = tests-passed (tests-signals _) _ _ none refl refl refl _ c.check_numbers.ensures
    c.in_ok-check_numbers.was in
    signals-done _ _ none _ (ltb-true _ 4 passed.0) _
    (c.all_signals-signals.ensures ∙ ap (λ (l : List ℕ). signals_to (board_of l) c.args.hart 5) lent)
