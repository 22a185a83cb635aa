-- `board_file_calls::page_reads::page_read` meets its contract: refused, or done. Assumes nothing.
use mathlib.Core.Path.{◌≡◌, refl}
use borrow.Author.Rules.{rules}
use Rattle.board_call.proofs.AnswerLaws.{passed-case}
use Rattle.board_call_laws.proofs.CallTests.{tests-blocks, tests-failed, tests-passed}
use Rattle.board_call_laws.proofs.FileCallEffects.{tests-page_read, page_read-done}
use Rattle.board_file_calls.proofs.page_reads.page_read.Goals as goal

pub returns-in_err-check : goal.returns-in_err-check
returns-in_err-check c =
    tests-blocks (tests-page_read _ _ _) _ _ _ c.check.ensures.told c.in_err-check.was _
    c.from_residual.ensures.1

pub returns-in_err-check_page : goal.returns-in_err-check_page
returns-in_err-check_page c =
    let none = passed-case _ _ c.check.ensures.told c.in_ok-check.was in
    tests-failed (tests-page_read _ _ _) _ _ none refl refl refl _ c.check_page.ensures
    c.in_err-check_page.was _ c.from_residual-in_err-check_page.ensures.1

pub load_file-f-requires : goal.load_file-f-requires
load_file-f-requires c =
    let none = passed-case _ _ c.check.ensures.told c.in_ok-check.was in
    let passed = tests-passed (tests-page_read _ _ _) _ _ none refl refl refl _ c.check_page.ensures
    c.in_ok-check_page.was in
    passed.0

pub returns : goal.returns
returns c =
    let lent : c.unwrap-state.result.now ≡ c.args.state.now = search rules in
    let none = passed-case _ _ c.check.ensures.told c.in_ok-check.was in
    let passed = tests-passed (tests-page_read _ _ _) _ _ none refl refl refl _ c.check_page.ensures
    c.in_ok-check_page.was in
    page_read-done _ _ none _ lent _ _ _ c.load_file-f.ensures _ passed.0 passed.1 _ c.page_read.ensures
