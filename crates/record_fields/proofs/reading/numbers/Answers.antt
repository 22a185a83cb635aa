-- `record_fields::reading::numbers` meets its contract: at each turn the numbers so far are those of the
-- fields before `at`. Assumes nothing.
use mathlib.Core.Path.{sym, ap, ◌∙◌}
use native.Mathlib.Omega.{arith}
use Rattle.record_fields.proofs.NumbersLaws.{text_at, numbers-start, numbers_more}
use Rattle.record_fields.proofs.NumbersLaws.{numbers-many, numbers-bad, numbers-end}
use Rattle.record_fields.proofs.FieldsLaws.{next-found, text-found}
use Rattle.record_numbers.specs.Decimal.{number_in}
use Rattle.record_numbers.proofs.NumberLaws.{value-number, value_same, no_number}
use Rattle.record_fields.proofs.reading.numbers.Goals as goal

pub loop-at-init : goal.loop-at-init
loop-at-init c = rw c.new-fields.ensures (numbers-start c.args.line.now c.args.end c.requires.0 c.requires.1)

pub returns-in_err-decimal : goal.returns-in_err-decimal
returns-in_err-decimal c =
    let l = c.args.line.now in
    let k = c.loop-at.at in
    let text = text-found l k c.find-n.result c.find-n.ensures.place in
    let none = sym (ap number_in text) ∙ sym c.decimal.ensures ∙ c.in_err-decimal.was in
    rw c.from_residual.ensures
    (numbers-bad l c.loop-at.fields k c.loop-at.invariant c.loop-at-test.true (no_number (text_at l k) none))

pub returns-in_err-add : goal.returns-in_err-add
returns-in_err-add c =
    rw c.from_residual-in_err-add.ensures
    (numbers-many _ c.loop-at.fields c.loop-at.at c.loop-at.invariant c.loop-at-test.true
    c.in_err-add.ensures.full)

pub loop-at-preserved : goal.loop-at-preserved
loop-at-preserved c =
    let l = c.args.line.now in
    let k = c.loop-at.at in
    let text = text-found l k c.find-n.result c.find-n.ensures.place in
    let value = sym (ap number_in text) ∙ sym c.decimal.ensures ∙ c.in_ok-decimal.was in
    let left = c.loop-at in
    let next = next-found l k c.find-n.result c.find-n.ensures.place in
    rw (c.in_ok-add.ensures.added, next)
    (numbers_more l left.fields k left.invariant c.loop-at-test.true _ c.in_ok-add.ensures.full
    (omega (arith, next, c.find-n.ensures.within, c.loop-at-test.true))
    (value-number (text_at l k) _ value) (value_same (text_at l k) _ value))

pub returns : goal.returns
returns c = numbers-end c.args.line.now c.loop-at.fields c.loop-at.at c.loop-at.invariant c.loop-at-test.false
