-- `domain_inputs::input_word` meets its contract: each set with the wires that it is for; the first word
-- without source 0. Assumes nothing.
use Prim.Native.Nat.{ℕ}
use mathlib.Core.Path.{ap, ap₂, ◌∙◌}
use native.Mathlib.Omega.{arith}
use Rattle.words.specs.Bits.{without_bit, union}
use Rattle.words.specs.Parts.{low}
use Rattle.domain_inputs.proofs.GatheringLaws.{first_word, later-word}
use Rattle.domain_inputs.proofs.input_word.Goals as goal

pub returns-then-k-eq0 : goal.returns-then-k-eq0
returns-then-k-eq0 c =
    let args = c.args in
    c.without_bit.ensures
    ∙ ap (λ (w : ℕ). without_bit w 0)
    (c.low32-word.ensures
    ∙ ap low (c.union64.ensures
    ∙ ap₂ union c.common64.ensures c.without64.ensures))
    ∙ first_word _ args.wires args.k _ c.gather-x.ensures c.if-k-eq0.true

pub returns : goal.returns
returns c =
    let args = c.args in
    let later = c.if-k-eq0.false in
    c.low32-word.ensures
    ∙ ap low (c.union64.ensures
    ∙ ap₂ union c.common64.ensures c.without64.ensures)
    ∙ later-word _ args.wires args.k _ c.gather-x.ensures (omega arith)
