-- `domain_writes::change::switch_source` meets its contract: an inactive source stays, and of an active one a
-- bit is stored. Assumes nothing.
use mathlib.Core.Path.{ap, sym, ◌∙◌}
use Rattle.source_mode.specs.Mode.{is_active}
use Rattle.source.specs.declared.Source.{Source}
use Rattle.source.proofs.PendingLaws.{switched-active, switched-inactive}
use Rattle.domain.specs.Domain.{domain_of}
use Rattle.domain.specs.Slot.{with_source}
use Rattle.domain_laws.proofs.SlotEffects.{with_source-back, with_source-enabled}
use Rattle.domain_writes.proofs.change.switch_source.Goals as goal

pub returns-then-active : goal.returns-then-active
returns-then-active c =
    let d = domain_of c.args.part.now in
    let active = ap (λ (s : Source). is_active s.mode) (sym c.load-s.ensures)
    ∙ sym c.active.ensures ∙ c.if-active.true in
    c.put_enabled.ensures ∙ with_source-enabled d c.args.i c.args.on
    ∙ ap (with_source d c.args.i) (sym (switched-active _ c.args.on active))

pub returns-else-active : goal.returns-else-active
returns-else-active c =
    let d = domain_of c.args.part.now in
    let inactive = ap (λ (s : Source). is_active s.mode) (sym c.load-s.ensures)
    ∙ sym c.active.ensures ∙ c.if-active.false in
    sym
    (ap (with_source d c.args.i) (switched-inactive _ c.args.on inactive)
    ∙ with_source-back d c.args.i)
