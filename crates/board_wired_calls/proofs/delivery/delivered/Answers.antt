-- `board_wired_calls::delivery::delivered` meets its contract: the wired controller stays. Assumes nothing.
use Prim.Native.Nat.{ℕ}
use mathlib.Core.Path.{◌≡◌, refl, ap, ◌∙◌}
use mathlib.Core.List.{List}
use lib.ListN.{take}
use borrow.Author.Rules.{rules}
use Rattle.sizes.specs.Sizes.{files_size}
use Rattle.files.specs.Files.{files_of, all_reached}
use Rattle.board_block.specs.Block.{with_files, board_of}
use Rattle.board_block.proofs.BlockLaws.{files-lent, files-part, files-back}
use Rattle.board_wired_calls.proofs.delivery.delivered.Goals as goal

pub returns : goal.returns
returns c =
    let args = c.args in
    let l = args.state.now in
    let cut = c.split_at_mut-files.ensures in
    let lent : c.unwrap.result.now ≡ take files_size c.split_at_mut-files.result.0.now = search rules in
    let sent = take args.count args.log.now in (
      files-back l _ _ c.told-state cut.front cut.back c.deliver.new.files (search rules)
          ∙ ap (with_files (board_of l))
          (c.deliver.ensures
          ∙ ap (λ (x : List ℕ). all_reached (files_of x) sent)
          (files-lent l _ _ c.told-state cut.front cut.back lent)
          ∙ (λ j. all_reached (files-part l c.told-state j) sent)),
      refl,
    )
