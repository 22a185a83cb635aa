-- `words::has_bit` meets its contract: a mask of one bit is a remainder by 2. Assumes nothing.
use mathlib.Core.Path.{ap}
use Prim.Native.Nat.{ℕ, ◌/◌, ◌^◌}
use lib.Bits.{and_mask}
use lib.Dec.{eqb}
use Rattle.words.specs.Bits.{has_bit, bit_of}
use Rattle.words.proofs.bits.has_bit.Goals as goal

pub returns : goal.returns
unfolding has_bit bit_of
returns c = ap (λ (x : ℕ). eqb x 1) (and_mask (c.args.w / 2 ^ c.args.k) 1)
