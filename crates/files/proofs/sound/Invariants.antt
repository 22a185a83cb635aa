-- What the loop of this function keeps: the files of the harts so far. Assumes nothing.
use Prim.Native.Nat.{◌*◌}
use mathlib.Core.Path.{◌≡◌}
use Rattle.words.specs.Every.{every}
use Rattle.files.specs.Files.{files_of, sound_at}
use Rattle.sizes.specs.Sizes.{hart_files}
use Rattle.files.proofs.sound.Given as goal

abbrev pub invariant-loop-hart : goal.invariant-loop-hart
invariant-loop-hart l = l.sound ≡ every (sound_at (files_of l.files)) 0 (hart_files * l.hart)
