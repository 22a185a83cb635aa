-- `source_bits::none_unused` meets its contract. Assumes nothing.
use Prim.Native.Nat.{ℕ}
use mathlib.Core.Path.{ap, ◌∙◌}
use lib.Dec.{eqb}
use Rattle.words.specs.Bits.{without}
use Rattle.source_bits.proofs.ZeroLaws.{word-unused}
use Rattle.source_bits.proofs.none_unused.Goals as goal

pub returns : goal.returns
returns c =
    let a = c.args in
    ap (λ (x : ℕ). eqb x 0)
    (c.without64.ensures ∙ ap (λ (x : ℕ). without x a.active) c.union64.ensures)
    ∙ word-unused a.pending a.enable c.ranges.pending.fits a.active
    c.ranges.enable.fits
