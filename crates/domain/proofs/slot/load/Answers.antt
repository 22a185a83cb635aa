-- `domain::slot::load` meets its contract: each part from its words. Assumes nothing.
use mathlib.Core.Path.{◌∙◌}
use Rattle.domain.proofs.SlotLaws.{slot_read, bit-pending, bit-enabled}
use Rattle.domain.proofs.slot.load.Goals as goal

pub returns : goal.returns
returns c =
    let l = c.args.part.now in
    let i = c.args.i in
    let h = c.requires in
    slot_read l i h _ _ (c.has_bit-pending.ensures ∙ bit-pending l i h)
    (c.has_bit-enabled.ensures ∙ bit-enabled l i h)
