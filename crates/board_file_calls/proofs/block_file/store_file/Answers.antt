-- `board_file_calls::block_file::store_file` meets its contract: the other part of the block stays. Assumes
-- nothing.
use Prim.Native.Nat.{ℕ, ◌+◌, ◌*◌}
use mathlib.Core.Path.{◌≡◌, ap, ◌∙◌}
use mathlib.Core.List.{List}
use lib.ListN.{take}
use native.Mathlib.Omega.{arith}
use borrow.Author.Rules.{rules}
use Rattle.sizes.specs.Sizes.{files_size}
use Rattle.files.specs.Files.{files_of, with_file}
use Rattle.board_block.proofs.BlockLaws.{files-lent}
use Rattle.board_call_laws.proofs.FileCallEffects.{number_lt, file-stored}
use Rattle.board_file_calls.proofs.block_file.store_file.Goals as goal

pub overflow_mul-hart : goal.overflow_mul-hart
overflow_mul-hart c = omega (arith, number_lt _ _ c.requires)

pub overflow_add-hart : goal.overflow_add-hart
overflow_add-hart c = omega (arith, number_lt _ _ c.requires)

pub store-requires : goal.store-requires
store-requires c = omega (arith, number_lt _ _ c.requires)

pub returns : goal.returns
returns c =
    let args = c.args in
    let l = args.state.now in
    let cut = c.split_at_mut-files.ensures in
    let lent : c.unwrap.result.now ≡ take files_size c.split_at_mut-files.result.0.now = search rules in
    file-stored l c.told-state args.hart args.file args.f _ _ c.store.new.files cut.front cut.back
    (search rules)
    (c.store.ensures
    ∙ ap (λ (x : List ℕ). with_file (files_of x) (5 * args.hart + args.file) args.f)
    (files-lent l _ _ c.told-state cut.front cut.back lent))
