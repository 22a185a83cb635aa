-- `domain::slot::put_pending` meets its contract: a bit of the pending words. Assumes nothing.
use mathlib.Core.Path.{refl, ap, ◌∙◌}
use Rattle.domain.specs.Domain.{domain_of}
use Rattle.domain.proofs.SlotLaws.{pending-stored}
use Rattle.domain.proofs.slot.put_pending.Goals as goal

pub returns : goal.returns
returns c =
    ap domain_of c.put_member.ensures
    ∙ pending-stored c.args.part.now c.args.i c.requires _ c.args.pending refl
