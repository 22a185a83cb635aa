-- `files::sound` meets its contract: the files of one hart after those of another. Assumes nothing.
use Prim.Native.Nat.{ℕ}
use mathlib.Core.Path.{sym, ap, ap₂, ◌∙◌}
use mathlib.Core.Bool.{◌&&◌}
use native.Mathlib.Omega.{arith}
use Rattle.words.specs.Every.{every}
use Rattle.words.proofs.EveryLaws.{every-none, every-parts}
use Rattle.sizes.specs.Sizes.{hart_files}
use Rattle.files.specs.Files.{files_of, sound_at, files_sound}
use Rattle.files.proofs.sound.Goals as goal

pub loop-hart-init : goal.loop-hart-init
loop-hart-init c = sym (every-none (sound_at (files_of c.args.files.now)) 0)

pub loop-hart-preserved : goal.loop-hart-preserved
loop-hart-preserved c =
    let p = sound_at (files_of c.args.files.now) in
    ap₂ ◌&&◌ c.loop-hart.invariant
    (c.hart_sound-sound.ensures ∙ ap (λ (i : ℕ). every p i hart_files) (omega arith))
    ∙ sym (every-parts p 0 _ hart_files) ∙ ap (every p 0) (omega arith)

pub returns : goal.returns
unfolding files_sound
returns c = c.loop-hart.invariant ∙ ap (every _ 0) (omega arith)
