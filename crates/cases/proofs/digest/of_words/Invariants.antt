-- What the loop of this function keeps. Assumes nothing.
use mathlib.Core.Path.{◌≡◌}
use Prim.Native.Nat.{◌≤◌}
use lib.ListN.{length, drop}
use Rattle.cases.specs.Digest.{digest_of}
use Rattle.cases.proofs.digest.of_words.Given as goal

abbrev pub invariant-loop-word : goal.invariant-loop-word
invariant-loop-word l =
    (l.word-index ≤ length l.words) × (digest_of l.d (drop l.word-index l.words) ≡ digest_of l.digest l.words)
