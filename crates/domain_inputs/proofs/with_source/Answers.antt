-- `domain_inputs::with_source` meets its contract: bit b of both sets is put. Assumes nothing.
use Rattle.domain_inputs.proofs.GatheringLaws.{rectified-more}
use Rattle.domain_inputs.proofs.with_source.Goals as goal

pub returns : goal.returns
returns c =
    rectified-more _ c.args.k c.args.b c.requires.2 c.load-s.ensures
    c.rectified.ensures c.put_bit.ensures
    c.rectified-2.ensures c.put_bit-2.ensures
