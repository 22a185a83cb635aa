-- `domain::slot::store` meets its contract: each part to its words. Assumes nothing.
use Rattle.domain.proofs.SlotLaws.{slot-stored}
use Rattle.domain.proofs.slot.store.Goals as goal

pub returns : goal.returns
returns c =
    slot-stored c.args.part.now c.args.i c.requires c.args.s _ _
    c.put_bit-pending.ensures c.put_bit-enabled.ensures
