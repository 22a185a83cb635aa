-- `board_file_calls::block_file::load_file` meets its contract: the files stand first in the block. Assumes
-- nothing.
use Prim.Native.Nat.{ℕ, ◌+◌, ◌*◌}
use mathlib.Core.Path.{◌≡◌, ap, ◌∙◌}
use mathlib.Core.List.{List}
use lib.ListN.{take}
use native.Mathlib.Omega.{arith}
use borrow.Author.Rules.{rules}
use Rattle.sizes.specs.Sizes.{files_size}
use Rattle.files.specs.Files.{files_of, the_file}
use Rattle.board_call_laws.proofs.FileCallEffects.{number_lt, file-loaded}
use Rattle.board_file_calls.proofs.block_file.load_file.Goals as goal

pub overflow_mul-hart : goal.overflow_mul-hart
overflow_mul-hart c = omega (arith, number_lt _ _ c.requires)

pub overflow_add-hart : goal.overflow_add-hart
overflow_add-hart c = omega (arith, number_lt _ _ c.requires)

pub load-requires : goal.load-requires
load-requires c = omega (arith, number_lt _ _ c.requires)

pub returns : goal.returns
returns c =
    let args = c.args in
    let lent : c.unwrap.result.now ≡ take files_size args.state.now = search rules in
    file-loaded args.state.now c.told-state args.hart args.file _
    (c.load.ensures ∙ ap (λ (x : List ℕ). the_file (files_of x) (5 * args.hart + args.file)) lent)
