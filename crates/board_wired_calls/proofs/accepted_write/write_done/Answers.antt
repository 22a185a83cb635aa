-- `board_wired_calls::accepted_write::write_done` meets its contract: a write, then the messages. Assumes
-- nothing.
use Prim.Native.Nat.{ℕ}
use mathlib.Core.Path.{◌≡◌, ap, ◌∙◌}
use mathlib.Core.List.{List}
use lib.ListN.{take, drop}
use borrow.Author.Rules.{rules}
use Rattle.sizes.specs.Sizes.{files_size, wired_size}
use Rattle.wired_state.specs.Wires.{Wired, wired_of}
use Rattle.wired.specs.Controller.{write_call}
use Rattle.wired_laws.proofs.OutEffects.{write-exists}
use Rattle.board_block.proofs.BlockLaws.{wired-part, wired-lent, wired-back}
use Rattle.board_wired_calls.proofs.AcceptedLaws.{part_sound, write-within, left-named, done-left}
use Rattle.board_wired_calls.proofs.AcceptedLaws.{left-of}
use Rattle.board_wired_calls.proofs.accepted_write.write_done.Goals as goal

pub write-n-requires : goal.write-n-requires
write-n-requires c =
    let l = c.args.state.now in
    let cut = c.split_at_mut-wired.ensures in
    let lent : c.unwrap.result.now ≡ take wired_size c.split_at_mut-wired.result.1.now = search rules in (
      c.requires.0,
      rw (wired-lent l _ _ c.told-state cut.front cut.back lent)
          (part_sound l c.told-state c.requires.1),
    )

pub delivered-requires : goal.delivered-requires
delivered-requires c =
    let args = c.args in
    let l = args.state.now in
    let cut = c.split_at_mut-wired.ensures in
    let lent : c.unwrap.result.now ≡ take wired_size c.split_at_mut-wired.result.1.now = search rules in
    let left = rw (wired-lent l _ _ c.told-state cut.front cut.back lent) at c.write-n.ensures in (
      write-within l c.told-state c.requires.1 _ args.child args.word c.requires.0 args.value left.2,
      left-named _ _ args.log.now _ _ left
          (write-exists (wired_of (take wired_size (drop files_size l))) args.child args.word args.value),
    )

pub returns : goal.returns
returns c =
    let args = c.args in
    let l = args.state.now in
    let cut = c.split_at_mut-wired.ensures in
    let lent : c.unwrap.result.now ≡ take wired_size c.split_at_mut-wired.result.1.now = search rules in
    let left = rw (wired-lent l _ _ c.told-state cut.front cut.back lent) at c.write-n.ensures in
    let back = wired-back l _ _ c.told-state cut.front cut.back c.write-n.new.w (search rules) in (
      write-within l c.told-state c.requires.1 _ args.child args.word c.requires.0 args.value left.2,
      left-of (ap (λ (w : Wired). write_call w args.child args.word args.value)
          (wired-part l c.told-state)) l _ args.log.now _ _
          (done-left l _ c.write-n.new.w args.log.now _ _ back _ left _ _ c.delivered.ensures.0
          c.delivered.ensures.1),
    )
