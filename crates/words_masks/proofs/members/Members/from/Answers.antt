-- `words_masks::members::Members::from` meets its contract: the set from one bit on. Assumes nothing.
use Rattle.words.specs.Bits.{has_bit}
use Rattle.words_masks.proofs.MembersLaws.{listed-ext, raised-bit}
use Rattle.words_masks.proofs.members.Members.from.Goals as goal

pub returns : goal.returns
returns c =
    listed-ext _ (has_bit c.args.set) c.args.first _ (λ j l h. raised-bit c.args.set c.args.first j l)
