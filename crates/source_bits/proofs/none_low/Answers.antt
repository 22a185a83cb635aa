-- `source_bits::none_low` meets its contract. Assumes nothing.
use Prim.Native.Nat.{ℕ}
use mathlib.Core.Path.{ap, ◌∙◌}
use lib.Dec.{eqb}
use Rattle.words.specs.Bits.{union}
use Rattle.words_masks.specs.Masks.{common}
use Rattle.source_bits.proofs.ZeroLaws.{word_low}
use Rattle.source_bits.proofs.none_low.Goals as goal

pub returns : goal.returns
returns c =
    let a = c.args in
    ap (λ (x : ℕ). eqb x 0)
    (c.common64-2.ensures ∙ ap (common a.pending) (c.union64.ensures
    ∙ (λ k. union (c.without64.ensures k) (c.common64.ensures k))))
    ∙ word_low a.straight a.inverted a.wires a.pending c.ranges.pending.fits
