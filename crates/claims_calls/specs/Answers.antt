-- Claim-177, on the numbers of an answer: which number each case has, and that a contract takes each number
-- from its own place of the outcome. 01, "Calls and their refusals", "Each place and its form".
-- Premises: none. No axioms.
use Rattle.std.specs.Prelude.{ℕ, ◌≡◌, List, Err}
use Rattle.board_call.specs.declared.Refusal.TheVariants.{StateLength, LogLength, BrokenRule, NoSuch}
use Rattle.board_call.specs.declared.Refusal.TheVariants.{BadAddress, IllegalSelect}
use Rattle.board_call.specs.Answer.{Answer, done_with, refusal_number, answer_value, answer_count}
use Rattle.board_call.specs.declared.Call.{Call}
use Rattle.board_call.specs.Outcome.{Outcome, outcome, Gives, Does}
use Rattle.monitor_answer.specs.declared.VskAnswer.{VskAnswer}
use Rattle.monitor_answer.specs.Told.{Told, Tells}

-- r is the refusal n of the paper's table, with 0 and 0
abbrev pub RefusedAs : Answer → ℕ → Type 0
RefusedAs r n = (refusal_number r ≡ n) × (answer_value r ≡ 0) × (answer_count r ≡ 0)

-- the number of each case of an answer: done is 0 with its value and count, and the refusals are 1 for the
-- state block's length, 2 for the log's, 3 for a broken state rule, 4 for what is not there, 5 for an
-- address, 6 for a select number, each with 0 and 0; and what a contract lets a call answer and leave is,
-- place by place, what its outcome has
-- [01 C8 P16 P17 X1]
unfoldable pub Claim-177 : Type 0
Claim-177 =
    ((v n : ℕ)
    → let r = done_with v n in
    (refusal_number r ≡ 0) × (answer_value r ≡ v) × (answer_count r ≡ n))
    × RefusedAs (Err StateLength) 1 × RefusedAs (Err LogLength) 2 × RefusedAs (Err BrokenRule) 3
    × RefusedAs (Err NoSuch) 4 × RefusedAs (Err BadAddress) 5 × RefusedAs (Err IllegalSelect) 6
    × ((o : Outcome) (r : Answer) (l g s : List ℕ) → Gives o r l g s
    → (refusal_number r ≡ o.number) × (answer_value r ≡ o.value) × (answer_count r ≡ o.count)
    × (l ≡ o.block) × (g ≡ o.log) × (s ≡ o.saved))
    × ((o : Outcome) (r : VskAnswer) (l g s : List ℕ) → Told o r l g s
    → (r.refusal ≡ o.number) × (r.value ≡ o.value) × (r.count ≡ o.count)
    × (l ≡ o.block) × (g ≡ o.log) × (s ≡ o.saved))
    × ((c : Call) (l g l' g' s : List ℕ) (r : Answer) → Does c l g r l' g'
    → let o = outcome c l g s in
    (refusal_number r ≡ o.number) × (answer_value r ≡ o.value) × (answer_count r ≡ o.count)
    × (l' ≡ o.block) × (g' ≡ o.log) × (s ≡ o.saved))
    × ((c : Call) (l g l' g' s : List ℕ) (r : VskAnswer) → Tells c l g r l' g'
    → let o = outcome c l g s in
    (r.refusal ≡ o.number) × (r.value ≡ o.value) × (r.count ≡ o.count)
    × (l' ≡ o.block) × (g' ≡ o.log) × (s ≡ o.saved))
