-- What an exported function answers to C: the numbers of the paper, not an enum. 01, "Calls and their
-- refusals". Assumes nothing.
--   Numbers r a          r has the refusal, the value and the count of the answer a
--   Told o r l g s       a function that answers r and leaves the block l, the log g and the saved numbers s
--                        does as o says
--   Tells c l g r l' g'  the same of one that is lent no saved numbers: any saved numbers stay as they are
use Rattle.std.specs.Prelude.{◌≡◌, List, ℕ}
use Rattle.board_call.specs.Answer.{Answer, refusal_number, answer_value, answer_count}
use Rattle.board_call.specs.declared.Call.{Call}
use Rattle.board_call.specs.Outcome.{Outcome, outcome}
use Rattle.monitor_answer.specs.declared.VskAnswer.{VskAnswer}

pub record Numbers (r : VskAnswer) (a : Answer) : Type 0 where
  pub refusal : r.refusal ≡ refusal_number a
  pub value : r.value ≡ answer_value a
  pub count : r.count ≡ answer_count a

-- [01 X1 X3]
pub record Told (o : Outcome) (r : VskAnswer) (l g s : List ℕ) : Type 0 where
  pub refusal : r.refusal ≡ o.number
  pub value : r.value ≡ o.value
  pub count : r.count ≡ o.count
  pub block : l ≡ o.block
  pub log : g ≡ o.log
  pub saved : s ≡ o.saved

-- [01 B16 C17 X4]
abbrev pub Tells : Call → List ℕ → List ℕ → VskAnswer → List ℕ → List ℕ → Type 0
Tells c l g r l' g' = (s : List ℕ) → Told (outcome c l g s) r l' g' s
