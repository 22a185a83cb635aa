-- What the loop of this function keeps, and its measure. Assumes nothing.
use Prim.Native.Nat.{◌-◌, ◌/◌, ◌^◌, ◌≤◌}
use mathlib.Core.Path.{◌≡◌}
use Rattle.file_search.specs.Search.{first_bit}
use Rattle.file_search.proofs.first_bit.Given as goal

abbrev pub invariant-loop-rest : goal.invariant-loop-rest
invariant-loop-rest l =
    (l.k ≤ 32) × (l.rest ≡ l.word / 2 ^ l.k) ×
    (first_bit l.word l.from (32 - l.from) ≡ first_bit l.word l.k (32 - l.k))

abbrev pub decreases-loop-rest : goal.decreases-loop-rest
decreases-loop-rest l = 32 - l.k
