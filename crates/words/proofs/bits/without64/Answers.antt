-- `words::without64` meets its contract: `& !` takes bits away. Assumes nothing.
use Rattle.words.proofs.BitsLaws.{without-and}
use Rattle.words.proofs.bits.without64.Goals as goal

pub returns : goal.returns
returns c = without-and 64 c.args.w c.args.v c.ranges.w.fits c.ranges.v.fits
