-- `board_hart_calls::calls::reset` meets its contract: refused by a length, or the start. Assumes nothing.
use mathlib.Core.Path.{refl, sym}
use mathlib.Core.Bool.{false}
use borrow.Author.Rules.{rules}
use Rattle.board_call.proofs.RefusalLaws.{refused-state, refused-log, blocks-untested}
use Rattle.board_call_laws.proofs.HartCallEffects.{reset-blocks, reset-done}
use Rattle.board_hart_calls.proofs.calls.reset.Goals as goal

pub returns-then-state_len-ne-BLOCK_SIZE : goal.returns-then-state_len-ne-BLOCK_SIZE
returns-then-state_len-ne-BLOCK_SIZE c =
    reset-blocks _ _ _ (sym (refused-state false _ _ c.if-state_len-ne-BLOCK_SIZE.true)) refl _ refl

pub returns-then-log_len-ne-LOG_SIZE : goal.returns-then-log_len-ne-LOG_SIZE
returns-then-log_len-ne-LOG_SIZE c =
    let long = c.if-state_len-ne-BLOCK_SIZE.false in
    reset-blocks _ _ _ (sym (refused-log false _ _ long c.if-log_len-ne-LOG_SIZE.true)) refl _ refl

pub returns : goal.returns
returns c =
    let long = c.if-state_len-ne-BLOCK_SIZE.false in
    let none = blocks-untested false _ _ long c.if-log_len-ne-LOG_SIZE.false refl in
    reset-done _ _ none c.start.new.state (search rules) c.start.ensures
