-- `board_wired_calls::calls::wire` meets its contract: refusal by refusal, and the call. Assumes nothing.
use mathlib.Core.Path.{◌≡◌, refl, ap, ◌∙◌}
use lib.ListN.{length}
use Prim.Native.Nat.{ℕ}
use mathlib.Core.List.{List}
use borrow.Author.Rules.{rules}
use Rattle.board_block.specs.Block.{board_of, board_sound}
use mathlib.Core.Bool.{true}
use native.Mathlib.Omega.{arith}
use Rattle.board_call.proofs.AnswerLaws.{passed-case}
use Rattle.board_call.proofs.RefusalLaws.{passed-state, passed-rules}
use Rattle.board_call_laws.proofs.WiredCallEffects.{wire-low, wire-high, tests-wire, wire-done}
use Rattle.board_call_laws.proofs.CallTests.{tests-blocks, tests-failed, tests-passed}
use Rattle.board_wired_calls.proofs.calls.wire.Goals as goal

pub returns-in_err-check : goal.returns-in_err-check
returns-in_err-check c =
    let args = c.args in
    tests-blocks (tests-wire args.wire args.level) args.state.now args.log.now _
    c.check.ensures.told c.in_err-check.was _ c.from_residual.ensures.1

pub returns-in_err-check_numbers : goal.returns-in_err-check_numbers
returns-in_err-check_numbers c =
    let args = c.args in
    let none = passed-case _ _ c.check.ensures.told c.in_ok-check.was in
    tests-failed (tests-wire args.wire args.level) args.state.now args.log.now none
    c.is_wire.ensures refl refl _ c.check_numbers.ensures c.in_err-check_numbers.was _
    c.from_residual-in_err-check_numbers.ensures.1

pub wire_done-n-requires : goal.wire_done-n-requires
wire_done-n-requires c =
    let args = c.args in
    let lent : c.unwrap-state.result.now ≡ args.state.now = search rules in
    let none = passed-case _ _ c.check.ensures.told c.in_ok-check.was in
    let passed = tests-passed (tests-wire args.wire args.level) args.state.now args.log.now none
    c.is_wire.ensures refl refl _ c.check_numbers.ensures c.in_ok-check_numbers.was in (
      wire-low args.wire args.level passed.0,
      wire-high args.wire args.level passed.0,
      ap (λ (l : List ℕ). board_sound (board_of l)) lent ∙ passed-rules true _ _ none refl,
    )

pub overflow_cast-result : goal.overflow_cast-result
overflow_cast-result c = omega (arith, c.wire_done-n.ensures.0)

pub returns : goal.returns
returns c =
    let args = c.args in
    let lent : c.unwrap-state.result.now ≡ args.state.now = search rules in
    let logged : c.unwrap-log.result.now ≡ args.log.now = search rules in
    let whole : length c.wire_done-n.new.state ≡ length args.state.now = search rules in
    let none = passed-case _ _ c.check.ensures.told c.in_ok-check.was in
    let passed = tests-passed (tests-wire args.wire args.level) args.state.now args.log.now none
    c.is_wire.ensures refl refl _ c.check_numbers.ensures c.in_ok-check_numbers.was in
    wire-done args.state.now args.log.now none args.wire args.level passed.0
    c.wire_done-n.new.state c.wire_done-n.new.log _ (whole ∙ passed-state true _ _ none)
    (rw (lent, logged) at c.wire_done-n.ensures.1)
