-- `board_move_calls::calls::make_access` meets its contract: refused, or its act done. Assumes nothing.
use Prim.Native.Nat.{ℕ}
use mathlib.Core.Path.{◌≡◌, refl, ap, ap₂, ◌∙◌}
use mathlib.Core.Bool.{Bool, ◌&&◌}
use mathlib.Core.List.{List}
use borrow.Author.Rules.{rules}
use Rattle.words.proofs.TestsLaws.{and_first, and_second}
use Rattle.board_move_steps.specs.Steps.{act_within}
use Rattle.board_move_files_laws.proofs.TableLaws.{act-within}
use Rattle.board_call.proofs.AnswerLaws.{passed-case}
use Rattle.board_call_laws.proofs.CallTests.{checked-sound, tests-blocks, tests-failed, tests-passed}
use Rattle.board_move_laws.proofs.MoveEffects.{move-old, move_new, move-low, move-high}
use Rattle.board_move_laws.proofs.MoveCallEffects.{tests-move, move-done}
use Rattle.board_block.specs.Block.{board_of, board_sound}
use Rattle.domain.specs.Domain.{by_messages}
use Rattle.board_move_calls.proofs.calls.make_access.Goals as goal

abbrev child : List ℕ → Bool
child l = by_messages (board_of l).wired.child

pub returns-in_err-check : goal.returns-in_err-check
returns-in_err-check c =
    tests-blocks (tests-move _ _ _ _ _) _ _ _ c.check.ensures.told c.in_err-check.was _
    c.from_residual.ensures.1 _

pub returns-in_err-check_numbers : goal.returns-in_err-check_numbers
returns-in_err-check_numbers c =
    let lent : c.unwrap-state.result.now ≡ c.args.state.now = search rules in
    let none = passed-case _ _ c.check.ensures.told c.in_ok-check.was in
    rw lent
    (tests-failed (tests-move _ _ _ _ _) _ _ none
    (ap₂ ◌&&◌ c.is_move.ensures (c.by_messages.ensures ∙ ap child lent)) refl refl
    _ c.check_numbers.ensures c.in_err-check_numbers.was _
    c.from_residual-in_err-check_numbers.ensures.1 _)

pub invariant_of-old_file : goal.invariant_of-old_file
invariant_of-old_file c =
    let lent : c.unwrap-state.result.now ≡ c.args.state.now = search rules in
    let none = passed-case _ _ c.check.ensures.told c.in_ok-check.was in
    let passed = tests-passed (tests-move _ _ _ _ _) _ _ none
    (ap₂ ◌&&◌ c.is_move.ensures (c.by_messages.ensures ∙ ap child lent)) refl refl _ c.check_numbers.ensures
    c.in_ok-check_numbers.was in
    record { is_there = move-old _ _ _ _ _ (and_first _ _ passed.0) }

pub invariant_of-new_file : goal.invariant_of-new_file
invariant_of-new_file c =
    let lent : c.unwrap-state.result.now ≡ c.args.state.now = search rules in
    let none = passed-case _ _ c.check.ensures.told c.in_ok-check.was in
    let passed = tests-passed (tests-move _ _ _ _ _) _ _ none
    (ap₂ ◌&&◌ c.is_move.ensures (c.by_messages.ensures ∙ ap child lent)) refl refl _ c.check_numbers.ensures
    c.in_ok-check_numbers.was in
    record { is_there = move_new _ _ _ _ _ (and_first _ _ passed.0) }

pub act_of-requires : goal.act_of-requires
act_of-requires c =
    let lent : c.unwrap-state.result.now ≡ c.args.state.now = search rules in
    let none = passed-case _ _ c.check.ensures.told c.in_ok-check.was in
    let passed = tests-passed (tests-move _ _ _ _ _) _ _ none
    (ap₂ ◌&&◌ c.is_move.ensures (c.by_messages.ensures ∙ ap child lent)) refl refl _ c.check_numbers.ensures
    c.in_ok-check_numbers.was in
    move-low _ _ _ _ _ (and_first _ _ passed.0)

pub perform-requires : goal.perform-requires
perform-requires c =
    let lent : c.unwrap-state.result.now ≡ c.args.state.now = search rules in
    let none = passed-case _ _ c.check.ensures.told c.in_ok-check.was in
    let passed = tests-passed (tests-move _ _ _ _ _) _ _ none
    (ap₂ ◌&&◌ c.is_move.ensures (c.by_messages.ensures ∙ ap child lent)) refl refl _ c.check_numbers.ensures
    c.in_ok-check_numbers.was in
    let there = and_first _ _ passed.0 in (
      ap (λ (l : List ℕ). board_sound (board_of l)) lent ∙ checked-sound _ _ none,
      ap act_within c.act_of.ensures
          ∙ act-within _ (move-low _ _ _ _ _ there) (move-high _ _ _ _ _ there),
    )

pub returns : goal.returns
returns c =
    let lent : c.unwrap-state.result.now ≡ c.args.state.now = search rules in
    let none = passed-case _ _ c.check.ensures.told c.in_ok-check.was in
    let passed = tests-passed (tests-move _ _ _ _ _) _ _ none
    (ap₂ ◌&&◌ c.is_move.ensures (c.by_messages.ensures ∙ ap child lent)) refl refl _ c.check_numbers.ensures
    c.in_ok-check_numbers.was in
    move-done _ _ none _ _ _ _ _ (and_first _ _ passed.0) (and_second _ _ passed.0) _
    c.act_of.ensures
    c.perform.new.state _ _ (search rules) (rw lent at c.perform.ensures)
