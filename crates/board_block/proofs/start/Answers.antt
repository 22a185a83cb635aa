-- `board_block::start` meets its contract: every word 0, then the files. Assumes nothing.
use Prim.Native.Nat.{ℕ}
use mathlib.Core.Path.{◌≡◌, sym, ap, ◌∙◌}
use mathlib.Core.List.{List}
use lib.ListN.{length, take, replicate}
use borrow.Author.Rules.{rules}
use Rattle.board_block.specs.Start.{start_board}
use Rattle.board_block.proofs.BlockLaws.{board-path, wired-part, files-back}
use Rattle.board_block.proofs.StartLaws.{start-wired}
use Rattle.sizes.specs.Sizes.{files_size, block_size}
use Rattle.board_block.proofs.start.Goals as goal

pub start_files-requires : goal.start_files-requires
start_files-requires c =
    let lent : c.unwrap.result.now ≡ take files_size c.split_at_mut-files.result.0.now = search rules in
    let zeros : c.fill.new.self ≡ replicate block_size 0 =
    c.fill.ensures.after (λ y q. q) ∙ ap (λ (n : ℕ). replicate n 0) c.told-state in
    lent ∙ ap (take files_size) (c.split_at_mut-files.ensures.front ∙ ap (take files_size) zeros)

pub returns : goal.returns
unfolding start_board
returns c =
    let l = c.fill.new.self in
    let zeros : l ≡ replicate block_size 0 =
    c.fill.ensures.after (λ y q. q) ∙ ap (λ (n : ℕ). replicate n 0) c.told-state in
    let long = ap length zeros in
    files-back l _ _ long c.split_at_mut-files.ensures.front c.split_at_mut-files.ensures.back
    c.start_files.new.files (search rules)
    ∙ board-path c.start_files.ensures (sym (wired-part l long) ∙ start-wired l zeros)
