-- The paper's numbers for what a call answers. 01, "Calls and their refusals". Assumes nothing.
--   Answer             what a call answers: done, with its value and count, or the refusal
--   done_with v n      done, with the value v and n messages
--   refusal_number r   the refusal, 0 if it is done
--   answer_value r     the value, 0 if it is refused
--   answer_count r     the number of messages, 0 if it is refused
--   Refuses r n        the test that answers r refuses with n; with the number 0 no test fails
use Rattle.std.specs.Prelude.{ℕ, ◌≡◌, Result, Ok, Err}
use Rattle.board_call.specs.declared.Done.{Done}
use Rattle.board_call.specs.declared.Refusal.{Refusal}
use Rattle.board_call.specs.declared.Refusal.TheVariants.{StateLength, LogLength, BrokenRule}
use Rattle.board_call.specs.declared.Refusal.TheVariants.{NoSuch, BadAddress, IllegalSelect}

abbrev pub Answer : Type 0
Answer = Result Done Refusal

abbrev pub done_with : ℕ → ℕ → Answer
done_with v n = Ok (record { value = v; count = n })

-- [01 C8 P16]
abbrev pub refusal_number : {A : Type 0} → Result A Refusal → ℕ
refusal_number (Ok d) = 0
refusal_number (Err StateLength) = 1
refusal_number (Err LogLength) = 2
refusal_number (Err BrokenRule) = 3
refusal_number (Err NoSuch) = 4
refusal_number (Err BadAddress) = 5
refusal_number (Err IllegalSelect) = 6

abbrev pub answer_value : Answer → ℕ
answer_value (Ok d) = d.value
answer_value (Err e) = 0

abbrev pub answer_count : Answer → ℕ
answer_count (Ok d) = d.count
answer_count (Err e) = 0

abbrev pub Refuses : Result Unit Refusal → ℕ → Type 0
Refuses r n = refusal_number r ≡ n
