-- `file_search::lowest_shared` meets its contract: the identities from where the search stands on still have
-- the lowest. Assumes nothing.
use Prim.Native.Nat.{◌+◌, ◌*◌}
use mathlib.Core.Path.{sym, ◌∙◌}
use native.Mathlib.Omega.{arith}
use Rattle.file_search.proofs.SearchLaws.{shared_start, shared-hit, shared-miss}
use Rattle.file_search.proofs.SearchLaws.{shared-end}
use Rattle.file_search.proofs.lowest_shared.Goals as goal

pub loop-at-init : goal.loop-at-init
loop-at-init c = (omega arith, shared_start _ _)

pub returns-then-k-lt32 : goal.returns-then-k-lt32
returns-then-k-lt32 c =
    let left = c.loop-at in
    let found = c.first_bit-k.ensures in
    let hit = left.invariant.1
    ∙ shared-hit _ _ left.at left.from (omega arith) (omega arith) (omega arith) in
    omega arith

pub loop-at-preserved : goal.loop-at-preserved
loop-at-preserved c =
    let left = c.loop-at in
    let found = c.first_bit-k.ensures in (
      omega arith,
      left.invariant.1
          ∙ shared-miss _ _ left.at left.from (omega arith) (omega arith) (omega arith),
    )

pub returns : goal.returns
returns c =
    let left = c.loop-at in
    sym (left.invariant.1 ∙ shared-end _ _ (32 * left.at + left.from) (omega arith))
