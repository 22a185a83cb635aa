-- `source_bits::none_missing` meets its contract. Assumes nothing.
use Prim.Native.Nat.{ℕ}
use mathlib.Core.Path.{ap, ◌∙◌}
use mathlib.Core.Bool.{◌||◌}
use lib.Dec.{eqb}
use Rattle.words.specs.Bits.{union, without}
use Rattle.source_bits.proofs.ZeroLaws.{word-missing}
use Rattle.source_bits.proofs.none_missing.Goals as goal

pub returns : goal.returns
returns c =
    let a = c.args in
    ap (λ (x : ℕ). a.messages || eqb x 0)
    (c.without64-2.ensures ∙ ap (λ (x : ℕ). without x a.pending) (c.union64.ensures
    ∙ (λ k. union (c.common64.ensures k) (c.without64.ensures k))))
    ∙ word-missing a.straight a.inverted a.wires a.pending a.messages
    c.ranges.straight.fits c.ranges.inverted.fits
