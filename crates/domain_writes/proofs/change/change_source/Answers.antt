-- `domain_writes::change::change_source` meets its contract: family by family. Assumes nothing.
use mathlib.Core.Path.{◌∙◌}
use Rattle.domain.specs.Domain.{domain_of}
use Rattle.domain_writes.proofs.WritesLaws.{pend-at, clear_at, enable-at, disable-at}
use Rattle.domain_writes.proofs.change.change_source.Goals as goal

pub returns-in-Pend : goal.returns-in-Pend
returns-in-Pend c =
    let args = c.args in
    c.put_pending.ensures
    ∙ pend-at (domain_of args.part.now) args.wires args.i args.change
    c.in-Pend.is
    c.pended-t.result (c.pended-t.ensures ∙ cc)

pub returns-in-Clear : goal.returns-in-Clear
returns-in-Clear c =
    let args = c.args in
    c.put_pending-in-Clear.ensures
    ∙ clear_at (domain_of args.part.now) args.wires args.i args.change
    c.in-Clear.is
    c.cleared-t.result (c.cleared-t.ensures ∙ cc)

pub returns-in-Enable : goal.returns-in-Enable
returns-in-Enable c =
    let args = c.args in
    c.switch_source.ensures
    ∙ enable-at _ args.wires args.i args.change c.in-Enable.is

pub returns-in-Disable : goal.returns-in-Disable
returns-in-Disable c =
    let args = c.args in
    c.switch_source-in-Disable.ensures
    ∙ disable-at _ args.wires args.i args.change c.in-Disable.is
