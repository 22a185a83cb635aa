-- `domain_slots::slot` meets its contract: its sourcecfg word is 0, delegates, or is occupied. Assumes
-- nothing.
use mathlib.Core.Path.{sym, ◌∙◌}
use native.Mathlib.Omega.{arith}
use Rattle.source_laws.proofs.PartsEffects.{none-occupied, none-held, held-occupied, else-occupied}
use Rattle.source_laws.proofs.PartsEffects.{held-read, held_word}
use Rattle.domain_slots.proofs.SlotsLaws.{chosen_on, chosen-off, slotted-empty}
use borrow.Author.Rules.{rules}
use Rattle.domain_slots.proofs.slot.Goals as goal

pub returns-then-mode-eq0 : goal.returns-then-mode-eq0
returns-then-mode-eq0 c =
    let w = c.args.mode in
    let child = c.args.child in
    slotted-empty child _ w _ _ c.args.g (none-occupied child w c.if-mode-eq0.true)
    (λ e. omega arith) (λ e. omega arith)
    (sym (chosen-off _ _ _ (none-held child w c.if-mode-eq0.true)))

pub returns-then-child-mode : goal.returns-then-child-mode
returns-then-child-mode c =
    let w = c.args.mode in
    let child = c.args.child in
    let held = held-read child w c.if-child-mode.true in
    slotted-empty child _ w _ _ c.args.g (held-occupied child w held)
    (λ e. omega (arith, held_word child w held)) (λ e. omega (arith, held_word child w held))
    (c.with_bit64.ensures ∙ sym (chosen_on _ _ _ held))

pub occupy-requires : goal.occupy-requires
occupy-requires c =
    (else-occupied _ _ c.if-mode-eq0.false (held-read _ _ c.if-child-mode.false), search rules)
