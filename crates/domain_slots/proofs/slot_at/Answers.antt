-- `domain_slots::slot_at` meets its contract: what was gathered so far, and source i. Assumes nothing.
use Rattle.domain_slots.proofs.SlotsLaws.{so_far_more, slotted-read}
use Rattle.domain_slots.proofs.slot_at.Goals as goal

pub returns : goal.returns
returns c =
    so_far_more _ _ c.args.i c.args.g c.slot.result c.requires.0 c.requires.3
    (slotted-read _ _ c.args.i c.args.g c.slot.result c.requires.0 c.requires.2
    c.load-s.ensures c.slot.ensures)
