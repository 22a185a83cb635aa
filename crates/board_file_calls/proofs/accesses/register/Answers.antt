-- `board_file_calls::accesses::register` meets its contract: refused, or its file accessed and
-- stored. Assumes nothing.
use mathlib.Core.Path.{◌≡◌, refl, ◌∙◌}
use native.Mathlib.Omega.{arith}
use borrow.Author.Rules.{rules}
use Rattle.words.proofs.TestsLaws.{and_first}
use Rattle.board_call.proofs.AnswerLaws.{passed-case}
use Rattle.board_call_laws.proofs.CallTests.{tests-blocks, tests-failed, tests-passed}
use Rattle.board_call_laws.proofs.FileCallEffects.{kind-read, with-kind, register-no_kind, value-or}
use Rattle.board_call_laws.proofs.FileCallEffects.{register-did, tests-register, register-done}
use Rattle.board_file_calls.proofs.KindLaws.{kind-given}
use Rattle.board_file_calls.proofs.accesses.register.Goals as goal

pub returns-in_err-check : goal.returns-in_err-check
returns-in_err-check c =
    tests-blocks (tests-register _ _ _ _ _) _ _ _ c.check.ensures.told c.in_err-check.was _
    c.from_residual.ensures.1

pub returns-in_err-access : goal.returns-in_err-access
returns-in_err-access c =
    let none = passed-case _ _ c.check.ensures.told c.in_ok-check.was in
    let known = kind-given c.args.kind _ _ c.known_kind.ensures (omega arith) in
    register-no_kind _ _ none _ _ _ _ _ _ known c.in_err-access.was _
    c.from_residual-in_err-access.ensures.1

pub returns-in_err-check_numbers : goal.returns-in_err-check_numbers
returns-in_err-check_numbers c =
    let none = passed-case _ _ c.check.ensures.told c.in_ok-check.was in
    let known = kind-given c.args.kind _ _ c.known_kind.ensures (omega arith) in
    let kind = kind-read _ _ known c.in_ok-access.was in
    tests-failed (tests-register _ _ _ _ _) _ _ none (with-kind _ _ _ kind.0 _ c.is_file.ensures) refl
    c.select_legal.ensures _ c.check_numbers.ensures c.in_err-check_numbers.was _
    c.from_residual-in_err-check_numbers.ensures.1

pub load_file-f-requires : goal.load_file-f-requires
load_file-f-requires c =
    let none = passed-case _ _ c.check.ensures.told c.in_ok-check.was in
    let known = kind-given c.args.kind _ _ c.known_kind.ensures (omega arith) in
    let kind = kind-read _ _ known c.in_ok-access.was in
    let passed = tests-passed (tests-register _ _ _ _ c.args.value) _ _ none
    (with-kind _ _ _ kind.0 _ c.is_file.ensures) refl c.select_legal.ensures _ c.check_numbers.ensures
    c.in_ok-check_numbers.was in
    and_first _ _ passed.0

pub store_file-requires : goal.store_file-requires
store_file-requires c =
    let none = passed-case _ _ c.check.ensures.told c.in_ok-check.was in
    let known = kind-given c.args.kind _ _ c.known_kind.ensures (omega arith) in
    let kind = kind-read _ _ known c.in_ok-access.was in
    let passed = tests-passed (tests-register _ _ _ _ c.args.value) _ _ none
    (with-kind _ _ _ kind.0 _ c.is_file.ensures) refl c.select_legal.ensures _ c.check_numbers.ensures
    c.in_ok-check_numbers.was in
    and_first _ _ passed.0

pub returns : goal.returns
returns c =
    let lent : c.unwrap-state.result.now ≡ c.args.state.now = search rules in
    let none = passed-case _ _ c.check.ensures.told c.in_ok-check.was in
    let known = kind-given c.args.kind _ _ c.known_kind.ensures (omega arith) in
    let kind = kind-read _ _ known c.in_ok-access.was in
    let passed = tests-passed (tests-register _ _ _ _ c.args.value) _ _ none
    (with-kind _ _ _ kind.0 _ c.is_file.ensures) refl c.select_legal.ensures _ c.check_numbers.ensures
    c.in_ok-check_numbers.was in
    register-done _ _ none _ lent _ _ _ c.load_file-f.ensures _ c.store_file.new.state (search rules)
    c.store_file.ensures _ _ _
    passed.0 passed.2 _
    (register-did _ _ (and_first _ _ passed.0) _ _ _ _ _ kind.1 _ c.access-done.ensures) refl _
    (c.unwrap_or.ensures ∙ value-or c.access-done.result.answer)
