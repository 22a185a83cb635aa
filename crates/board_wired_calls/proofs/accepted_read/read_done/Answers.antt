-- `board_wired_calls::accepted_read::read_done` meets its contract: the files stay. Assumes nothing.
use Prim.Native.Nat.{ℕ}
use mathlib.Core.Path.{◌≡◌, ap, ◌∙◌}
use mathlib.Core.List.{List}
use lib.ListN.{take}
use borrow.Author.Rules.{rules}
use Rattle.sizes.specs.Sizes.{wired_size}
use Rattle.wired_state.specs.Wires.{Wired}
use Rattle.wired_registers.specs.Wired.{read_in}
use Rattle.wired.specs.Controller.{read_call}
use Rattle.board_block.specs.Block.{with_wired, board_of}
use Rattle.board_block.proofs.BlockLaws.{wired-part, wired-lent, wired-back}
use Rattle.board_wired_calls.proofs.AcceptedLaws.{part_sound}
use Rattle.board_wired_calls.proofs.accepted_read.read_done.Goals as goal

pub read-requires : goal.read-requires
read-requires c =
    let l = c.args.state.now in
    let cut = c.split_at_mut-wired.ensures in
    let lent : c.unwrap.result.now ≡ take wired_size c.split_at_mut-wired.result.1.now = search rules in (
      c.requires.0,
      rw (wired-lent l _ _ c.told-state cut.front cut.back lent)
          (part_sound l c.told-state c.requires.1),
    )

pub returns : goal.returns
returns c =
    let args = c.args in
    let l = args.state.now in
    let cut = c.split_at_mut-wired.ensures in
    let lent : c.unwrap.result.now ≡ take wired_size c.split_at_mut-wired.result.1.now = search rules in
    let read = rw (wired-lent l _ _ c.told-state cut.front cut.back lent) at c.read.ensures in (
      read.0 ∙ ap (λ (w : Wired). read_in w args.child args.word) (wired-part l c.told-state),
      wired-back l _ _ c.told-state cut.front cut.back c.read.new.w (search rules)
          ∙ ap (with_wired (board_of l))
          (read.1 ∙ ap (λ (w : Wired). (read_call w args.child args.word).wired)
          (wired-part l c.told-state)),
    )
