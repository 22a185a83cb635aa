-- `file_search::first_bit` meets its contract: what is left of the word has its bits from k on, and no bit
-- before them is 1. Assumes nothing.
use Prim.Native.Nat.{◌-◌}
use mathlib.Core.Path.{sym, ◌∙◌}
use native.Mathlib.Omega.{arith}
use Rattle.file_search.proofs.SearchLaws.{first_bit-hit-to, first_bit-miss-to, first_bit-none, rest-bit}
use Rattle.file_search.proofs.SearchLaws.{rest-next, rest_lt}
use Rattle.file_search.proofs.first_bit.Goals as goal

pub returns-then-has_bit : goal.returns-then-has_bit
returns-then-has_bit c =
    let left = c.loop-rest in
    let low = rest_lt _ _ _ left.invariant.1 (omega arith) c.loop-rest-test.true in
    let hit = sym (c.has_bit.ensures ∙ rest-bit _ _ _ left.invariant.1) ∙ c.if-has_bit.true in
    sym (left.invariant.2 ∙ first_bit-hit-to _ left.k 32 low hit)

pub loop-rest-preserved : goal.loop-rest-preserved
loop-rest-preserved c =
    let left = c.loop-rest in
    let low = rest_lt _ _ _ left.invariant.1 (omega arith) c.loop-rest-test.true in
    let miss = sym (c.has_bit.ensures ∙ rest-bit _ _ _ left.invariant.1) ∙ c.if-has_bit.false in
    (omega arith, rest-next _ _ _ left.invariant.1, left.invariant.2 ∙ first_bit-miss-to _ left.k 32 low miss)

pub returns : goal.returns
returns c =
    let left = c.loop-rest in
    let none = first_bit-none _ left.k (32 - left.k) (sym left.invariant.1 ∙ omega arith) in
    sym (left.invariant.2 ∙ none ∙ omega arith)
