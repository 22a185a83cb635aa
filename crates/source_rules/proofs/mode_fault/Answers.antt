-- `source_rules::mode_fault` meets its contract: a legal mode, a reserved one, or a larger number. Assumes
-- nothing.
use native.Mathlib.Omega.{arith}
use mathlib.Core.Path.{sym}
use Rattle.source_rules.proofs.RangeLaws.{mode-large, mode-reserved, mode-legal}
use Rattle.source_rules.proofs.mode_fault.Goals as goal

pub returns-in-0 : goal.returns-in-0
returns-in-0 c = sym (mode-legal _ (omega arith) (λ e. omega arith) (λ e. omega arith))

pub returns-in-0-2 : goal.returns-in-0-2
returns-in-0-2 c = sym (mode-legal _ (omega arith) (λ e. omega arith) (λ e. omega arith))

pub returns-in_default : goal.returns-in_default
returns-in_default c = sym (mode-reserved _ (omega arith) (omega arith))

pub returns-in_default-2 : goal.returns-in_default-2
returns-in_default-2 c = sym (mode-large _ (omega arith))
