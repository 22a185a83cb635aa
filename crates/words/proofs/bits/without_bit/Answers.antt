-- `words::without_bit` meets its contract: `1 << k` is 2 ^ k, and `& !` takes its bit away. Assumes nothing.
use Rattle.words.proofs.BitsLaws.{without_bit-shl}
use Rattle.words.proofs.bits.without_bit.Goals as goal

pub returns : goal.returns
returns c = without_bit-shl 32 c.args.w c.args.k c.ranges.w.fits c.requires
