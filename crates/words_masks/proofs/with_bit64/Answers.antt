-- `words_masks::with_bit64` meets its contract: `1 << k` is 2 ^ k. Assumes nothing.
use Rattle.words.proofs.BitsLaws.{with_bit-shl}
use Rattle.words_masks.proofs.with_bit64.Goals as goal

pub returns : goal.returns
returns c = with_bit-shl 64 c.args.w c.args.k c.requires
