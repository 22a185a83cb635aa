-- `board_hart_calls::signal::all_signals` meets its contract: the lowest bits are there. Assumes nothing.
use Prim.Native.Nat.{ℕ}
use mathlib.Core.Path.{sym, ap₂, ◌∙◌}
use mathlib.Core.Bool.{Bool}
use Rattle.words.specs.Bits.{put_bit}
use Rattle.board_block.specs.Block.{board_of}
use Rattle.board_call_laws.proofs.HartCallEffects.{signals-none, signals-next}
use Rattle.board_hart_calls.proofs.signal.all_signals.Goals as goal

pub loop-file-init : goal.loop-file-init
loop-file-init c = sym (signals-none _ _)

pub loop-file-preserved : goal.loop-file-preserved
loop-file-preserved c =
    let at-loop = c.loop-file in
    let args = c.args in
    c.put_bit-word.ensures
    ∙ ap₂ (λ (w : ℕ) (s : Bool). put_bit w at-loop.file s) at-loop.invariant c.signal_at.ensures
    ∙ signals-next (board_of args.state.now) args.hart at-loop.file
