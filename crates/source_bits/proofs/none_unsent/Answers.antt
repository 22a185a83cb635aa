-- `source_bits::none_unsent` meets its contract. Assumes nothing.
use Prim.Native.Nat.{ℕ}
use mathlib.Core.Path.{ap, ◌∙◌}
use mathlib.Core.Bool.{not, ◌||◌}
use lib.Dec.{eqb}
use Rattle.source_bits.proofs.ZeroLaws.{word-unsent}
use Rattle.source_bits.proofs.none_unsent.Goals as goal

pub returns : goal.returns
returns c =
    let a = c.args in
    ap (λ (x : ℕ). not a.sends || eqb x 0) c.common64.ensures
    ∙ word-unsent a.pending a.enable c.ranges.pending.fits a.sends
