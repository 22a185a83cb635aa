-- `board_block::sound` meets its contract: the wired controller, and the files. Assumes nothing.
use Prim.Native.Nat.{ℕ, ◌-◌}
use mathlib.Core.Path.{◌≡◌, refl, sym, ap, ◌∙◌}
use mathlib.Core.Bool.{Bool, true, false, and-true, and-false}
use mathlib.Core.List.{List}
use lib.ListN.{length, take, drop}
use lib.Seq.{take-take}
use borrow.Author.Rules.{rules}
use Rattle.std.proofs.lemmas.Option.{MatchOption-at_some}
use Rattle.sizes.specs.Sizes.{files_size, wired_size, block_size}
use Rattle.wired_state.specs.Wires.{wired_of}
use Rattle.files.specs.Files.{files_of, files_sound}
use Rattle.wired_rules.specs.Rules.{wired_sound}
use Rattle.board_block.specs.Block.{board_of}
use Rattle.board_block.proofs.BlockLaws.{files-part, wired-last, wired-part, board-sound-read}
use Rattle.board_block.proofs.sound.Goals as goal

wired-tested : (l : List ℕ) → length l ≡ block_size → (part : List ℕ)
    → part ≡ drop (length l - wired_size) l → (b : Bool) → b ≡ wired_sound (wired_of part)
    → b ≡ wired_sound (board_of l).wired
wired-tested l long part at b said =
    said ∙ ap (λ (x : List ℕ). wired_sound (wired_of x)) (at ∙ wired-last l long)
    ∙ ap wired_sound (wired-part l long)

pub returns-then-sound : goal.returns-then-sound
returns-then-sound c =
    let l = c.args.state.now in
    -- `take-take` serves a part of the block that begins at word 0
    let first = MatchOption-at_some _ _ _ c.unwrap.ensures c.first_chunk.ensures.cases in
    let files : c.unwrap.result.now ≡ take files_size l = search (rules, first.same, take-take) in
    let wired : c.unwrap-wired.result.now ≡ drop (length l - wired_size) l = search rules in
    sym (and-true c.sound-then-sound.result)
    ∙ board-sound-read (board_of l) c.sound-then-sound.result true
    (c.sound-then-sound.ensures ∙ ap (λ (x : List ℕ). files_sound (files_of x)) files
    ∙ ap files_sound (files-part l c.told-state))
    (wired-tested l c.told-state _ wired true (sym c.if-sound.true ∙ c.sound.ensures))

pub returns-else-sound : goal.returns-else-sound
returns-else-sound c =
    let l = c.args.state.now in
    let wired : c.unwrap-wired.result.now ≡ drop (length l - wired_size) l = search rules in
    c.if-sound.false ∙ sym (and-false (files_sound (board_of l).files))
    ∙ board-sound-read (board_of l) (files_sound (board_of l).files) false refl
    (wired-tested l c.told-state _ wired false (sym c.if-sound.false ∙ c.sound.ensures))
