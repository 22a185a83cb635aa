-- Laws of specs/Answer.antt, on what `?` finds of a test's answer. No contract cites this file. Assumes
-- nothing.
use Prim.Native.Nat.{ℕ}
use mathlib.Core.Path.{◌≡◌, sym, ap, ◌∙◌}
use mathlib.Core.Logic.{◌≢◌}
use native.Mathlib.Omega.{arith}
use Rattle.std.proofs.Common.{Result, Ok, Err}
use Rattle.board_call.specs.declared.Refusal.{Refusal}
use Rattle.board_call.specs.declared.Refusal.TheVariants.{StateLength, LogLength, BrokenRule}
use Rattle.board_call.specs.declared.Refusal.TheVariants.{NoSuch, BadAddress, IllegalSelect}
use Rattle.board_call.specs.Answer.{refusal_number, Refuses}

-- the number of the refusal e
abbrev pub told_number : Refusal → ℕ
told_number e = refusal_number {A = Unit} (Err e)

pub refused-case : (e : Refusal) → told_number e ≢ 0
refused-case StateLength z = omega arith
refused-case LogLength z = omega arith
refused-case BrokenRule z = omega arith
refused-case NoSuch z = omega arith
refused-case BadAddress z = omega arith
refused-case IllegalSelect z = omega arith

module _ (r : Result Unit Refusal) (n : ℕ) (said : Refuses r n) where
  -- no test failed
  pub passed-case : {u : Unit} → r ≡ Ok u → n ≡ 0
  passed-case e = sym said ∙ ap refusal_number e

  -- the first that failed
  pub failed-case : {e : Refusal} → r ≡ Err e → told_number e ≡ n
  failed-case q = sym (ap refusal_number q) ∙ said
