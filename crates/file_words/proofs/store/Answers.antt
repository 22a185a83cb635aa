-- `file_words::store` meets its contract: the parts in their order. Assumes nothing.
use Prim.Native.Nat.{ℕ, ◌+◌}
use mathlib.Core.Path.{ap, ◌∙◌}
use mathlib.Core.List.{List}
use lib.Seq.{sets}
use Rattle.file_words.proofs.StoredLaws.{file-written}
use borrow.Author.Rules.{rules}
use Rattle.sizes.specs.Sizes.{enable_place}
use Rattle.file_words.proofs.store.Goals as goal

pub returns : goal.returns
returns c =
    let f = c.args.f in
    let at = c.args.at in
    c.put_eight-2.ensures
    ∙ ap (λ (l : List ℕ). sets l (at + enable_place) f.enable) c.put_eight.ensures
    ∙ file-written c.args.block.now at f (search rules)
