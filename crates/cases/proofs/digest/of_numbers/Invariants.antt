-- What the loop of this function keeps. Assumes nothing.
use mathlib.Core.Path.{◌≡◌}
use Prim.Native.Nat.{◌≤◌}
use lib.ListN.{length, drop}
use Rattle.cases.specs.Digest.{digest_of, halves}
use Rattle.cases.proofs.digest.of_numbers.Given as goal

abbrev pub invariant-loop-n : goal.invariant-loop-n
invariant-loop-n l =
    (l.n-index ≤ length l.numbers)
    × (digest_of l.d (halves (drop l.n-index l.numbers)) ≡ digest_of l.digest (halves l.numbers))
