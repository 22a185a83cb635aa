-- `domain_slots::occupy` meets its contract: the mode is Level1, Level0 or another. Assumes nothing.
use mathlib.Core.Path.{sym, ◌∙◌}
use native.Mathlib.Omega.{arith}
use Rattle.source_laws.proofs.PartsEffects.{straight-on, straight-off, inverted-on, inverted-off}
use Rattle.domain_slots.proofs.SlotsLaws.{slotted-occupied}
use Rattle.domain_slots.proofs.occupy.Goals as goal

pub returns-in-6 : goal.returns-in-6
returns-in-6 c =
    let w = c.args.mode in
    let g = c.args.g in
    slotted-occupied _ _ w _ _ g c.requires.0 _ _ c.target_fault.ensures
    c.mode_fault.ensures c.with_bit64.ensures
    (c.with_bit64-in-6.ensures ∙ sym (straight-on w _ g.straight c.in-6.is))
    (sym (inverted-off w _ g.inverted (λ e. omega arith)))

pub returns-in-7 : goal.returns-in-7
returns-in-7 c =
    let w = c.args.mode in
    let g = c.args.g in
    slotted-occupied _ _ w _ _ g c.requires.0 _ _ c.target_fault.ensures
    c.mode_fault.ensures c.with_bit64.ensures
    (sym (straight-off w _ g.straight (λ e. omega arith)))
    (c.with_bit64-in-7.ensures ∙ sym (inverted-on w _ g.inverted c.in-7.is))

pub returns-in_default : goal.returns-in_default
returns-in_default c =
    let w = c.args.mode in
    let g = c.args.g in
    slotted-occupied _ _ w _ _ g c.requires.0 _ _ c.target_fault.ensures
    c.mode_fault.ensures c.with_bit64.ensures
    (sym (straight-off w _ g.straight (λ e. omega arith)))
    (sym (inverted-off w _ g.inverted (λ e. omega arith)))
