-- `domain_domaincfg::redeliver_source` meets its contract: what is stored is what of the source changes.
-- Assumes nothing.
use mathlib.Core.Path.{ap, sym, ◌∙◌}
use Rattle.source_mode.specs.Mode.{is_active, is_level}
use Rattle.source_target.specs.Target.{start_target}
use Rattle.source.specs.declared.Source.{Source}
use Rattle.domain.specs.Domain.{domain_of}
use Rattle.domain_domaincfg.proofs.DomaincfgLaws.{source-inactive, source-level, source-other}
use Rattle.domain_domaincfg.proofs.redeliver_source.Goals as goal

pub returns-then-not-active : goal.returns-then-not-active
returns-then-not-active c =
    let args = c.args in
    let active = ap (λ (s : Source). is_active s.mode) (sym c.load-s.ensures)
    ∙ sym c.active.ensures ∙ c.if-not-active.true in
    source-inactive (domain_of args.part.now) args.wires args.i active

pub returns-then-level : goal.returns-then-level
returns-then-level c =
    let args = c.args in
    let read = sym c.load-s.ensures in
    let active = ap (λ (s : Source). is_active s.mode) read
    ∙ sym c.active.ensures ∙ c.if-not-active.false in
    let level = ap (λ (s : Source). is_level s.mode) read ∙ sym c.level.ensures
    ∙ c.if-level.true in
    source-level (domain_of args.part.now) args.wires args.i active level
    c.redelivered-t.result (c.redelivered-t.ensures ∙ cc) _ _
    c.put_target.ensures c.put_pending.ensures

pub returns : goal.returns
returns c =
    let args = c.args in
    let read = sym c.load-s.ensures in
    let active = ap (λ (s : Source). is_active s.mode) read
    ∙ sym c.active.ensures ∙ c.if-not-active.false in
    let level = ap (λ (s : Source). is_level s.mode) read ∙ sym c.level.ensures
    ∙ c.if-level.false in
    c.put_target-2.ensures
    ∙ source-other (domain_of args.part.now) args.wires args.i active level _
    (c.start_target.ensures ∙ ap start_target c.requires.1)
