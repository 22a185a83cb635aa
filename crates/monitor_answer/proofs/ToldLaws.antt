-- What C is told of a call that gives an outcome; and that this settles all that it is answered and left:
-- what one outcome allows is equal. Assumes nothing.
use Prim.Native.Nat.{ℕ}
use mathlib.Core.Path.{◌≡◌, sym, ◌∙◌}
use mathlib.Core.List.{List}
use Rattle.board_call.specs.Answer.{Answer}
use Rattle.board_call.specs.Outcome.{Outcome, Gives}
use Rattle.monitor_answer.specs.declared.VskAnswer.{VskAnswer}
use Rattle.monitor_answer.specs.Told.{Numbers, Told}

-- the numbers of an answer, where the answer is the outcome's
pub told_of : {o : Outcome} {r : VskAnswer} {a : Answer} {l g s : List ℕ} → Numbers r a → Gives o a l g s
    → Told o r l g s
told_of n e =
    record {
      refusal = n.refusal ∙ e.number;
      value = n.value ∙ e.value;
      count = n.count ∙ e.count;
      block = e.block;
      log = e.log;
      saved = e.saved;
    }

answer-path : {r r' : VskAnswer} → r.value ≡ r'.value → r.count ≡ r'.count → r.refusal ≡ r'.refusal
    → r ≡ r'
answer-path v c n i = record { value = v i; count = c i; refusal = n i }

pub told-one : (o : Outcome) (r r' : VskAnswer) (l l' g g' s s' : List ℕ) → Told o r l g s
    → Told o r' l' g' s' → (r ≡ r') × (l ≡ l') × (g ≡ g') × (s ≡ s')
told-one o r r' l l' g g' s s' t u = (
  answer-path (t.value ∙ sym u.value) (t.count ∙ sym u.count) (t.refusal ∙ sym u.refusal),
  t.block ∙ sym u.block,
  t.log ∙ sym u.log,
  t.saved ∙ sym u.saved,
)
