-- `domain::slot::put_enabled` meets its contract: a bit of the enable words. Assumes nothing.
use mathlib.Core.Path.{refl, ap, ◌∙◌}
use Rattle.domain.specs.Domain.{domain_of}
use Rattle.domain.proofs.SlotLaws.{enabled-stored}
use Rattle.domain.proofs.slot.put_enabled.Goals as goal

pub returns : goal.returns
returns c =
    ap domain_of c.put_member.ensures
    ∙ enabled-stored c.args.part.now c.args.i c.requires _ c.args.enabled refl
