-- `board_wired_calls::calls::domain_read` meets its contract: refusal by refusal, and the call. Assumes
-- nothing.
use mathlib.Core.Path.{◌≡◌, refl, sym, ◌∙◌}
use lib.ListN.{length}
use Prim.Native.Nat.{ℕ}
use mathlib.Core.List.{List}
use borrow.Author.Rules.{rules}
use mathlib.Core.Bool.{true}
use borrow.Author.Tests.{ltb-true}
use Rattle.board_call.proofs.AnswerLaws.{passed-case}
use Rattle.board_call.proofs.RefusalLaws.{passed-state, passed-rules}
use mathlib.Core.Path.{ap, subst}
use Rattle.domain_region.specs.Region.{Within}
use Rattle.domain_region.specs.declared.Word.{Word}
use Rattle.domain_region.proofs.RegionLaws.{word-within}
use lib.Dec.{eqb}
use Rattle.domain_region.specs.Region.{word_at}
use Rattle.wired_registers.specs.Wired.{read_in}
use Rattle.wired.specs.Controller.{read_call}
use Rattle.board_block.specs.Block.{with_wired, board_of, board_sound}
use Rattle.board_wired_calls.proofs.AcceptedLaws.{read_none}
use Rattle.board_call_laws.proofs.CallTests.{tests-blocks, tests-failed, tests-passed}
use Rattle.board_call_laws.proofs.WiredCallEffects.{tests-domain_read, domain_read-done}
use Rattle.board_wired_calls.proofs.calls.domain_read.Goals as goal

pub returns-in_err-check : goal.returns-in_err-check
returns-in_err-check c =
    let args = c.args in
    tests-blocks (tests-domain_read args.domain args.address) args.state.now args.log.now _
    c.check.ensures.told c.in_err-check.was _ c.from_residual.ensures.1

pub returns-in_err-check_domain : goal.returns-in_err-check_domain
returns-in_err-check_domain c =
    let args = c.args in
    let none = passed-case _ _ c.check.ensures.told c.in_ok-check.was in
    tests-failed (tests-domain_read args.domain args.address) args.state.now args.log.now none
    refl refl refl _ c.check_domain.ensures c.in_err-check_domain.was _
    c.from_residual-in_err-check_domain.ensures.1

pub read_done-value-requires : goal.read_done-value-requires
read_done-value-requires c =
    let lent : c.unwrap-state.result.now ≡ c.args.state.now = search rules in
    let none = passed-case _ _ c.check.ensures.told c.in_ok-check.was in (
      subst Within (sym c.word_at.ensures) (word-within _),
      ap (λ (l : List ℕ). board_sound (board_of l)) lent ∙ passed-rules true _ _ none refl,
    )

pub returns : goal.returns
returns c =
    let args = c.args in
    let l = args.state.now in
    let none = passed-case _ _ c.check.ensures.told c.in_ok-check.was in
    let long = passed-state true l args.log.now none in
    let child = eqb args.domain 1 in
    let passed = tests-passed (tests-domain_read args.domain args.address) args.state.now args.log.now none
    refl refl refl _ c.check_domain.ensures c.in_ok-check_domain.was in
    let word = c.word_at.ensures in
    let lent : c.unwrap-state.result.now ≡ args.state.now = search rules in
    let whole : length c.read_done-value.new.state ≡ length l = search rules in
    let read = rw lent at c.read_done-value.ensures in
    domain_read-done l args.log.now none
    args.domain args.address (ltb-true args.domain 2 passed.0) passed.1 _ _
    (whole ∙ long)
    (read_none l long (passed-rules true l args.log.now none refl) child (word_at args.address))
    (read.0 ∙ ap (read_in (board_of l).wired child) word)
    (read.1 ∙ ap (λ (r : Word). with_wired (board_of l) (read_call (board_of l).wired child r).wired) word)
