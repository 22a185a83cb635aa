-- What the loop of this function keeps: the messages so far have reached their files. Assumes nothing.
use mathlib.Core.Path.{◌≡◌}
use lib.ListN.{take}
use Rattle.files.specs.Files.{files_of, all_reached}
use Rattle.files.proofs.messages.deliver.Given as goal

abbrev pub invariant-loop-k : goal.invariant-loop-k
invariant-loop-k l = files_of l.files ≡ all_reached (files_of l.initial.files) (take l.k l.log)
