-- `board_wired_calls::calls::domain_write` meets its contract: refusal by refusal, and the call. Assumes
-- nothing.
use mathlib.Core.Path.{◌≡◌, refl, sym, ◌∙◌}
use lib.ListN.{length}
use Prim.Native.Nat.{ℕ}
use mathlib.Core.List.{List}
use borrow.Author.Rules.{rules}
use mathlib.Core.Bool.{true}
use native.Mathlib.Omega.{arith}
use borrow.Author.Tests.{ltb-true}
use Rattle.board_call.proofs.AnswerLaws.{passed-case}
use Rattle.board_call.proofs.RefusalLaws.{passed-state, passed-rules}
use mathlib.Core.Path.{ap, subst}
use Rattle.domain_region.specs.Region.{Within}
use Rattle.domain_region.specs.declared.Word.{Word}
use Rattle.domain_region.proofs.RegionLaws.{word-within}
use lib.Dec.{eqb}
use Rattle.wired.specs.Controller.{write_call}
use Rattle.board_block.specs.Block.{board_of, board_sound}
use Rattle.board_wired_calls.proofs.AcceptedLaws.{left-of}
use Rattle.board_call_laws.proofs.CallTests.{tests-blocks, tests-failed, tests-passed}
use Rattle.board_call_laws.proofs.WiredCallEffects.{tests-domain_write, domain_write-done}
use Rattle.board_wired_calls.proofs.calls.domain_write.Goals as goal

pub returns-in_err-check : goal.returns-in_err-check
returns-in_err-check c =
    let args = c.args in
    tests-blocks (tests-domain_write args.domain args.address args.value) args.state.now
    args.log.now _
    c.check.ensures.told c.in_err-check.was _ c.from_residual.ensures.1

pub returns-in_err-check_domain : goal.returns-in_err-check_domain
returns-in_err-check_domain c =
    let args = c.args in
    let none = passed-case _ _ c.check.ensures.told c.in_ok-check.was in
    tests-failed (tests-domain_write args.domain args.address args.value) args.state.now args.log.now none
    refl refl refl _ c.check_domain.ensures c.in_err-check_domain.was _
    c.from_residual-in_err-check_domain.ensures.1

pub write_done-n-requires : goal.write_done-n-requires
write_done-n-requires c =
    let lent : c.unwrap-state.result.now ≡ c.args.state.now = search rules in
    let none = passed-case _ _ c.check.ensures.told c.in_ok-check.was in (
      subst Within (sym c.word_at.ensures) (word-within _),
      ap (λ (l : List ℕ). board_sound (board_of l)) lent ∙ passed-rules true _ _ none refl,
    )

pub overflow_cast-result : goal.overflow_cast-result
overflow_cast-result c = omega (arith, c.write_done-n.ensures.0)

pub returns : goal.returns
returns c =
    let args = c.args in
    let lent : c.unwrap-state.result.now ≡ args.state.now = search rules in
    let logged : c.unwrap-log.result.now ≡ args.log.now = search rules in
    let whole : length c.write_done-n.new.state ≡ length args.state.now = search rules in
    let none = passed-case _ _ c.check.ensures.told c.in_ok-check.was in
    let passed = tests-passed (tests-domain_write args.domain args.address args.value)
    args.state.now args.log.now none
    refl refl refl _ c.check_domain.ensures c.in_ok-check_domain.was in
    domain_write-done args.state.now args.log.now none args.domain args.address
    (ltb-true args.domain 2 passed.0) passed.1 args.value
    _ _ _
    (whole ∙ passed-state true _ _ none)
    (left-of (ap (λ (r : Word). write_call (board_of args.state.now).wired (eqb args.domain 1) r args.value)
    c.word_at.ensures) _ _ _ _ _ (rw (lent, logged) at c.write_done-n.ensures.1))
