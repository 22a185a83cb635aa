-- At each turn the words before this one are put. Assumes nothing.
use Prim.Native.Nat.{◌+◌, ◌*◌, ◌≤◌}
use mathlib.Core.Path.{◌≡◌}
use mathlib.Core.List.{◌++◌}
use lib.ListN.{length, take}
use Rattle.record_answer.specs.Shown.{fields_shown, field_room}
use Rattle.record_answer.proofs.put_words.Given as goal

abbrev pub invariant-loop-word : goal.invariant-loop-word
invariant-loop-word l =
    (length l.out ≡ length l.initial.out) × (l.end ≤ l.at + l.word-index * field_room)
    × (take l.end l.out ≡ take l.at l.initial.out ++ fields_shown (take l.word-index l.words))
