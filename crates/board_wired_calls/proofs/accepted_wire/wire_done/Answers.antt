-- `board_wired_calls::accepted_wire::wire_done` meets its contract: a wire, then the messages. Assumes
-- nothing.
use Prim.Native.Nat.{ℕ}
use mathlib.Core.Path.{◌≡◌, ap, ◌∙◌}
use mathlib.Core.List.{List}
use lib.ListN.{take, drop}
use borrow.Author.Rules.{rules}
use Rattle.sizes.specs.Sizes.{files_size, wired_size}
use Rattle.wired_state.specs.Wires.{Wired, wired_of}
use Rattle.wired.specs.Controller.{wire_call}
use Rattle.wired_laws.proofs.OutEffects.{wire-exists}
use Rattle.board_block.proofs.BlockLaws.{wired-part, wired-lent, wired-back}
use Rattle.board_wired_calls.proofs.AcceptedLaws.{part_sound, wire-within, left-named, done-left}
use Rattle.board_wired_calls.proofs.AcceptedLaws.{left-of}
use Rattle.board_wired_calls.proofs.accepted_wire.wire_done.Goals as goal

pub set_wire-n-requires : goal.set_wire-n-requires
set_wire-n-requires c =
    let l = c.args.state.now in
    let cut = c.split_at_mut-wired.ensures in
    let lent : c.unwrap.result.now ≡ take wired_size c.split_at_mut-wired.result.1.now = search rules in (
      c.requires.0,
      c.requires.1,
      rw (wired-lent l _ _ c.told-state cut.front cut.back lent)
          (part_sound l c.told-state c.requires.2),
    )

pub delivered-requires : goal.delivered-requires
delivered-requires c =
    let args = c.args in
    let l = args.state.now in
    let cut = c.split_at_mut-wired.ensures in
    let lent : c.unwrap.result.now ≡ take wired_size c.split_at_mut-wired.result.1.now = search rules in
    let left = rw (wired-lent l _ _ c.told-state cut.front cut.back lent) at c.set_wire-n.ensures in (
      wire-within l c.told-state c.requires.2 _ args.i c.requires.0 c.requires.1 args.level left.2,
      left-named _ _ args.log.now _ _ left
          (wire-exists (wired_of (take wired_size (drop files_size l))) args.i args.level),
    )

pub returns : goal.returns
returns c =
    let args = c.args in
    let l = args.state.now in
    let cut = c.split_at_mut-wired.ensures in
    let lent : c.unwrap.result.now ≡ take wired_size c.split_at_mut-wired.result.1.now = search rules in
    let left = rw (wired-lent l _ _ c.told-state cut.front cut.back lent) at c.set_wire-n.ensures in
    let back = wired-back l _ _ c.told-state cut.front cut.back c.set_wire-n.new.w (search rules) in (
      wire-within l c.told-state c.requires.2 _ args.i c.requires.0 c.requires.1 args.level left.2,
      left-of (ap (λ (w : Wired). wire_call w args.i args.level)
          (wired-part l c.told-state)) l _ args.log.now _ _
          (done-left l _ c.set_wire-n.new.w args.log.now _ _ back _ left _ _ c.delivered.ensures.0
          c.delivered.ensures.1),
    )
