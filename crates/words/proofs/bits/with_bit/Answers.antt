-- `words::with_bit` meets its contract: `1 << k` is 2 ^ k. Assumes nothing.
use Rattle.words.proofs.BitsLaws.{with_bit-shl}
use Rattle.words.proofs.bits.with_bit.Goals as goal

pub returns : goal.returns
returns c = with_bit-shl 32 c.args.w c.args.k c.requires
