-- A record that is run, line by line. 02, M-100; docs/RECORD.md. Assumes nothing.
--   said_in bs           what the lines of the bytes bs say, in order: reading, from bytes to lines to calls
--   said_after p bs      what the lines say that end in bs, if p stands before bs
--   call_onto s cs       the calls cs behind the call that the line s says, if it says one
--   calls_in ss          the calls that the lines ss say, in order: a line that cannot be read says none
--   numbers_shown n o    the bytes that tell the outcome o of line n: its numbers, and the messages
--   answer_to n s x      the bytes that line n is answered by, if it says s and is lent x: the numbers of the
--                        answer with the messages; of a line that cannot be read its number alone
--   passed_on s x        what is lent to the next line
--   answers_from n ss x  the bytes that the lines ss are answered by, if the first has the number n
--   Held                 where a run is: what is kept of the line that has not ended, how many lines have,
--                        and what is lent to the next
--   lent_of l g s        the block l, the log g and a move's numbers s, lent together
--   gone_on bs h         where the run h is with the bytes bs more
--   printed_by bs h      what it has then printed
use Rattle.std.specs.Prelude.{ℕ, suc, ◌+◌, List, [], ◌∷◌, ◌++◌, map, length, take}
use Rattle.record_lines.specs.Parted.{ended_by, rest_by}
use Rattle.record_lines.specs.Lines.{line_feed, kept, lines_of}
use Rattle.record_call.specs.Table.{line_of}
use Rattle.record_answer.specs.Shown.{line_shown}
use Rattle.board_call.specs.declared.Call.{Call}
use Rattle.board_call.specs.Outcome.{Outcome}
use Rattle.board_runs.specs.Runs.{Lent, outcome_on, after, ran}
use Rattle.std.specs.Prelude.{Option, Some, None}

-- [02 M100.2]
unfoldable pub said_in : List ℕ → List (Option Call)
said_in bs = map line_of (lines_of bs)

unfoldable pub said_after : List ℕ → List ℕ → List (Option Call)
said_after p bs = map line_of (ended_by line_feed p bs)

-- ---- a line

abbrev pub call_onto : Option Call → List Call → List Call
call_onto (Some c) cs = c ∷ cs
call_onto None cs = cs

-- [02 M100.6]
unfoldable pub calls_in : List (Option Call) → List Call
calls_in [] = []
calls_in (s ∷ ss) = call_onto s (calls_in ss)

-- [02 M100.5]
abbrev pub numbers_shown : ℕ → Outcome → List ℕ
numbers_shown n o = line_shown (n ∷ o.number ∷ o.value ∷ o.count ∷ take o.count o.log)

abbrev pub answer_to : ℕ → Option Call → Lent → List ℕ
answer_to n (Some c) x = numbers_shown n (outcome_on c x)
answer_to n None x = line_shown (n ∷ [])

-- [02 M100.4]
abbrev pub passed_on : Option Call → Lent → Lent
passed_on (Some c) x = after c x
passed_on None x = x

-- [02 M100.2]
unfoldable pub answers_from : ℕ → List (Option Call) → Lent → List ℕ
answers_from n [] x = []
answers_from n (s ∷ ss) x = answer_to n s x ++ answers_from (suc n) ss (passed_on s x)

-- ---- a run, by pieces

pub record Held : Type 0 where
  pub line : List ℕ
  pub number : ℕ
  pub lent : Lent

abbrev pub lent_of : List ℕ → List ℕ → List ℕ → Lent
lent_of l g s = record { block = l; log = g; saved = s }

unfoldable pub gone_on : List ℕ → Held → Held
gone_on bs h =
    let ss = said_after h.line bs in
    record {
      line = kept (rest_by line_feed h.line bs);
      number = h.number + length ss;
      lent = ran (calls_in ss) h.lent;
    }

unfoldable pub printed_by : List ℕ → Held → List ℕ
printed_by bs h = answers_from (suc h.number) (said_after h.line bs) h.lent
