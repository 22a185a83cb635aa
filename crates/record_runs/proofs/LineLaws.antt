-- A line that cannot be read, and one that says a call, from what the code leaves. Assumes nothing.
use Prim.Native.Nat.{ℕ}
use mathlib.Core.Path.{◌≡◌}
use mathlib.Core.List.{List, [], ◌∷◌}
use lib.ListN.{take}
use Rattle.record_answer.specs.Shown.{line_shown}
use Rattle.monitor_answer.specs.declared.VskAnswer.{VskAnswer}
use Rattle.monitor_answer.specs.Told.{Numbers}
use Rattle.board_call.specs.Answer.{Answer}
use Rattle.board_call.specs.declared.Call.{Call}
use Rattle.board_call.specs.Outcome.{outcome, Gives}
use Rattle.board_runs.specs.Runs.{Lent, after}
use Rattle.record_runs.specs.Replay.{lent_of, passed_on, answer_to}
use Rattle.std.specs.Prelude.{Option, Some, None}

module _ (s : Option Call) (n : ℕ) (x : Lent) (e : s ≡ None) where
  pub unread-lent : x ≡ passed_on s x
  unread-lent = rw e

  pub unread-answer : line_shown (n ∷ []) ≡ answer_to n s x
  unread-answer = rw e

module _ (s : Option Call) (n : ℕ) (c : Call) (e : s ≡ Some c) (l g t l' g' t' : List ℕ) (r : Answer)
    (gives : Gives (outcome c l g t) r l' g' t') where
  pub made-lent : lent_of l' g' t' ≡ passed_on s (lent_of l g t)
  unfolding after
  made-lent = rw (e, gives.block, gives.log, gives.saved)

  pub made-answer : (a : VskAnswer) → Numbers a r →
      line_shown (n ∷ a.refusal ∷ a.value ∷ a.count ∷ take a.count g') ≡ answer_to n s (lent_of l g t)
  made-answer a told =
      rw (e, told.refusal, told.value, told.count, gives.number, gives.value, gives.count, gives.log)
