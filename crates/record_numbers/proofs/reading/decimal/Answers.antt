-- `record_numbers::reading::decimal` meets its contract: the field reads as the value so far reads with the
-- bytes that are left. Assumes nothing.
use mathlib.Core.Path.{sym, ◌∙◌}
use native.Mathlib.Omega.{arith}
use borrow.Author.Rules.{rules}
use Rattle.record_numbers.proofs.ReadingLaws.{from-none, from_start, from-other, from-beyond, from-digit}
use Rattle.record_numbers.proofs.ReadingLaws.{from_end}
use Rattle.record_numbers.proofs.reading.decimal.Goals as goal

pub returns-then-is_empty : goal.returns-then-is_empty
returns-then-is_empty c = from-none c.args.field.now (search rules)

pub loop-byte-init : goal.loop-byte-init
loop-byte-init c = (omega arith, from_start _ (search rules))

pub returns-then-byte-lt48 : goal.returns-then-byte-lt48
returns-then-byte-lt48 c =
    sym (c.loop-byte.invariant.1 ∙ from-other _ _ _ c.loop-byte-test.true (search rules))

pub returns-in_err-checked_mul : goal.returns-in_err-checked_mul
returns-in_err-checked_mul c =
    rw c.from_residual.ensures
    (sym (c.loop-byte.invariant.1 ∙ from-beyond _ _ _ c.loop-byte-test.true (search rules)))

pub returns-in_err-value : goal.returns-in_err-value
returns-in_err-value c =
    rw c.from_residual-in_err-value.ensures
    (sym (c.loop-byte.invariant.1 ∙ from-beyond _ _ _ c.loop-byte-test.true (search rules)))

pub loop-byte-preserved : goal.loop-byte-preserved
loop-byte-preserved c = (
  search rules,
  c.loop-byte.invariant.1
      ∙ from-digit _ _ _ c.loop-byte-test.true (omega arith) (omega arith) ∙ search rules,
)

pub returns : goal.returns
returns c = sym (c.loop-byte.invariant.1 ∙ from_end _ _ _ c.loop-byte-test.false c.loop-byte.invariant.0)
