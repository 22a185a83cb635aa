-- `board_file_calls::tops::claim` meets its contract: refused, or done. Assumes nothing.
use mathlib.Core.Path.{◌≡◌, refl}
use borrow.Author.Rules.{rules}
use Rattle.board_call.proofs.AnswerLaws.{passed-case}
use Rattle.board_call_laws.proofs.CallTests.{tests-blocks, tests-failed, tests-passed}
use Rattle.board_call_laws.proofs.FileCallEffects.{tests-claim, claim-done}
use Rattle.board_file_calls.proofs.tops.claim.Goals as goal

pub returns-in_err-check : goal.returns-in_err-check
returns-in_err-check c =
    tests-blocks (tests-claim _ _) _ _ _ c.check.ensures.told c.in_err-check.was _ c.from_residual.ensures.1

pub returns-in_err-check_numbers : goal.returns-in_err-check_numbers
returns-in_err-check_numbers c =
    let none = passed-case _ _ c.check.ensures.told c.in_ok-check.was in
    tests-failed (tests-claim _ _) _ _ none c.is_file.ensures refl refl _ c.check_numbers.ensures
    c.in_err-check_numbers.was _ c.from_residual-in_err-check_numbers.ensures.1

pub load_file-f-requires : goal.load_file-f-requires
load_file-f-requires c =
    let none = passed-case _ _ c.check.ensures.told c.in_ok-check.was in
    let passed = tests-passed (tests-claim _ _) _ _ none c.is_file.ensures refl refl _ c.check_numbers.ensures
    c.in_ok-check_numbers.was in
    passed.0

pub store_file-requires : goal.store_file-requires
store_file-requires c =
    let none = passed-case _ _ c.check.ensures.told c.in_ok-check.was in
    let passed = tests-passed (tests-claim _ _) _ _ none c.is_file.ensures refl refl _ c.check_numbers.ensures
    c.in_ok-check_numbers.was in
    passed.0

pub returns : goal.returns
returns c =
    let lent : c.unwrap-state.result.now ≡ c.args.state.now = search rules in
    let none = passed-case _ _ c.check.ensures.told c.in_ok-check.was in
    let passed = tests-passed (tests-claim _ _) _ _ none c.is_file.ensures refl refl _ c.check_numbers.ensures
    c.in_ok-check_numbers.was in
    claim-done _ _ none _ lent _ _ _ c.load_file-f.ensures _ c.store_file.new.state (search rules)
    c.store_file.ensures passed.0 c.claim-done.ensures.1 _ c.claim-done.ensures.0
