-- `board_call::blocks::lengths` meets its contract: test by test. Assumes nothing.
use mathlib.Core.Path.{refl, sym}
use mathlib.Core.Bool.{false}
use Rattle.board_call.proofs.RefusalLaws.{refused-state, refused-log, blocks-untested}
use Rattle.board_call.proofs.blocks.lengths.Goals as goal

pub returns-then-state-ne-BLOCK_SIZE-clause-told : goal.returns-then-state-ne-BLOCK_SIZE-clause-told
returns-then-state-ne-BLOCK_SIZE-clause-told c = sym (refused-state false _ _ c.if-state-ne-BLOCK_SIZE.true)

pub returns-then-log-ne-LOG_SIZE-clause-told : goal.returns-then-log-ne-LOG_SIZE-clause-told
returns-then-log-ne-LOG_SIZE-clause-told c =
    sym (refused-log false _ _ c.if-state-ne-BLOCK_SIZE.false c.if-log-ne-LOG_SIZE.true)

pub returns-clause-told : goal.returns-clause-told
returns-clause-told c =
    sym (blocks-untested false _ _ c.if-state-ne-BLOCK_SIZE.false c.if-log-ne-LOG_SIZE.false refl)
