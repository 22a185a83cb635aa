-- `board_move_calls::targets::retarget` meets its contract: the files stay. Assumes nothing.
use Prim.Native.Nat.{ℕ, ◌<◌}
use mathlib.Core.Path.{◌≡◌, sym, ap, subst, ◌∙◌}
use mathlib.Core.Bool.{true}
use mathlib.Core.List.{List}
use lib.ListN.{take}
use borrow.Author.Rules.{rules}
use Rattle.sizes.specs.Sizes.{wired_size}
use Rattle.domain.specs.Domain.{domaincfg_of}
use Rattle.wired_state.specs.Wires.{Wired, wired_of, domain_in}
use Rattle.board_block.specs.Block.{with_wired, board_of}
use Rattle.board_block.proofs.BlockLaws.{wired-part, wired-lent, wired-back}
use Rattle.board_call.specs.Move.{retargeted_in}
use Rattle.board_move_laws.proofs.MoveCallEffects.{child-domaincfg}
use Rattle.board_move_calls.proofs.targets.retarget.Goals as goal

pub rewrite-requires : goal.rewrite-requires
rewrite-requires c =
    let l = c.args.state.now in
    let long = c.told-state in
    let cut = c.split_at_mut-wired.ensures in
    let lent : c.unwrap.result.now ≡ take wired_size c.split_at_mut-wired.result.1.now = search rules in
    let part = ap wired_of (wired-lent l _ _ long cut.front cut.back lent) ∙ wired-part l long in (
      subst (λ (w : Wired). domaincfg_of (domain_in w true) < 0x80000000) (sym part)
          (child-domaincfg l long c.requires.0),
      c.requires.1,
      c.requires.2,
    )

pub returns : goal.returns
returns c =
    let args = c.args in
    let l = args.state.now in
    let long = c.told-state in
    let cut = c.split_at_mut-wired.ensures in
    let lent : c.unwrap.result.now ≡ take wired_size c.split_at_mut-wired.result.1.now = search rules in
    let part = ap wired_of (wired-lent l _ _ long cut.front cut.back lent) ∙ wired-part l long in
    wired-back l _ _ long cut.front cut.back c.rewrite.new.w (search rules)
    ∙ ap (with_wired (board_of l))
    (c.rewrite.ensures
    ∙ ap (λ (w : Wired). retargeted_in args.old_file.hart args.old_file.file
    args.new_file.hart args.new_file.file w args.source) part)
