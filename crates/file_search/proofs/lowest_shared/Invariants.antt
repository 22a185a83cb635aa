-- What the loop of this function keeps. Assumes nothing.
use Prim.Native.Nat.{◌+◌, ◌*◌, ◌<◌}
use mathlib.Core.Path.{◌≡◌}
use Rattle.file_search.specs.Search.{lowest_shared}
use Rattle.file_search.proofs.SearchLaws.{shared_from}
use Rattle.file_search.proofs.lowest_shared.Given as goal

abbrev pub invariant-loop-at : goal.invariant-loop-at
invariant-loop-at l =
    (l.from < 32) ×
    (lowest_shared l.pending l.enable ≡ shared_from l.pending l.enable (32 * l.at + l.from))
