-- Claims 197 to 201, on a record that is run: what it leaves, what is printed, which refusals there can
-- be, and what the functions give that do it. 02, M-100; docs/RECORD.md.
--   line_by_line ss x    what the lines ss leave of x, one after the other: a line that cannot be read
--                        leaves all
--   told s x             the numbers that a line is answered by, behind its own number
--   fields_told n ss x   the fields of the answers to the lines ss, if the first has the number n
-- Premises: of claims 200 and 201 what the contract ensures, `X.Learnt`. No axioms.
use Rattle.std.specs.Prelude.{ℕ, suc, ◌+◌, ◌-◌, ◌^◌, ◌≤◌, ◌<◌, ◌≡◌, ◌⊎◌, ◌↔◌, List, [], ◌∷◌, ◌++◌, map}
use Rattle.std.specs.Prelude.{length, take, replicate}
use Rattle.std.proofs.Math.Seq.{slice}
use contract.Lifetimes.{Lfts}
use Rattle.std.specs.Borrow.{Bor, MutBor}
use Rattle.sizes.specs.Sizes.{block_size, log_size}
use Rattle.record_numbers.specs.Decimal.{text_of}
use Rattle.record_lines.specs.Lines.{line_room, lines_of}
use Rattle.record_fields.specs.Fields.{fields_of}
use Rattle.record_call.specs.Table.{line_of}
use Rattle.record_runs.specs.Replay.{said_in, calls_in, answers_from, passed_on, Held, gone_on, printed_by}
use Rattle.board_runs.specs.Ready.{at_reset}
use Rattle.board_call.specs.declared.Call.{Call}
use Rattle.board_call.specs.declared.Call.TheVariants.{Reset}
use Rattle.board_runs.specs.Runs.{Lent, outcome_on, after, ran}
use Rattle.record_replay.specs.declared.pieces.Run.{Run}
use Rattle.record_replay.specs.Pieces.{held_at, Went}
use Rattle.record_answer.specs.Shown.{answer_room}
use Rattle.record_call.proofs.read.Reads as read
use Rattle.record_replay.proofs.some.Reads as some
use Rattle.std.specs.Prelude.{Option, Some, None}

abbrev pub line_by_line : List (List ℕ) → Lent → Lent
line_by_line [] x = x
line_by_line (l ∷ ls) x = line_by_line ls (passed_on (line_of l) x)

-- the block, the log and the saved numbers after the last line are those of the plain calls in order,
-- from reset: a call does with them what it does anywhere, and a line that cannot be read leaves all three
-- [02 M100.4 M100.6 M100.7]
unfoldable pub Claim-197 : Type 0
Claim-197 =
    ((bs : List ℕ) → line_by_line (lines_of bs) at_reset ≡ ran (calls_in (said_in bs)) at_reset)
    × ((c : Call) (x : Lent) → passed_on (Some c) x ≡ after c x)
    × ((x : Lent) → passed_on None x ≡ x)
    × ((ss ts : List (Option Call)) (c : Call) → calls_in (ss ++ (Some c ∷ ts)) ≡ calls_in ss ++
    (c ∷ calls_in ts))
    × ((ss ts : List (Option Call)) → calls_in (ss ++ (None ∷ ts)) ≡ calls_in (ss ++ ts))
    × ((x : Lent) → length x.block ≡ block_size → x.log ≡ replicate log_size 0 → x.saved ≡ replicate 10 0
    → after Reset x ≡ at_reset)

-- ---- what is printed

abbrev pub told : Option Call → Lent → List ℕ
told (Some c) x =
    let o = outcome_on c x in o.number ∷ o.value ∷ o.count ∷ take o.count o.log
told None x = []

abbrev pub fields_told : ℕ → List (Option Call) → Lent → List (List (List ℕ))
fields_told n [] x = []
fields_told n (s ∷ ss) x = map text_of (n ∷ told s x) ∷ fields_told (suc n) ss (passed_on s x)

-- one line is printed for each line: its fields are the number of the line, from 1 on, then refusal,
-- value, count and each logged message; of a line that cannot be read the number alone
-- [02 M100.2 M100.4 M100.5]
unfoldable pub Claim-198 : Type 0
Claim-198 =
    ((bs : List ℕ) → map fields_of (lines_of (answers_from 1 (said_in bs) at_reset)) ≡ fields_told 1
    (said_in bs) at_reset)
    × ((bs : List ℕ) → length (lines_of (answers_from 1 (said_in bs) at_reset)) ≡ length (lines_of bs))

-- ---- refusals

-- a call of a replay is done, or refused for its numbers: refusals 1, 2 and 3 never occur
unfoldable pub Claim-199 : Type 0
Claim-199 =
    (bs : List ℕ) (ss ts : List (Option Call)) (c : Call) → said_in bs ≡ ss ++ (Some c ∷ ts)
    → let number = (outcome_on c (ran (calls_in ss) at_reset)).number in
    (number ≡ 0) ⊎ ((number ≡ 4) ⊎ ((number ≡ 5) ⊎ (number ≡ 6)))

-- ---- what the functions give

-- the function that reads a line gives what the line says
unfoldable pub Claim-200 : Type 0
Claim-200 =
    (l : Lfts 1) (b b' : Bor (List ℕ)) (r : Option Call) → read.Learnt l (b, tt) r (b', tt)
    → r ≡ line_of b.now

-- the function that runs a piece asks for 1,408 bytes for an answer; it is lent a log of 63 words, and holds
-- at most 201 bytes of a line. It goes on by the bytes that it takes, one at least if there is one: block,
-- log, saved numbers, the line so far and the number of lines are those of the run, and the answers are what
-- it prints
unfoldable pub Claim-201 : Type 0
Claim-201 =
    ((l : Lfts 6) (b b' g g' s s' n n' : MutBor (List ℕ)) (c c' : Bor (List ℕ)) (o o' : MutBor (List ℕ))
    (f r : Run)
    → (1408 ≤ length o.now → f.at ≤ length c.now → f.number + (length c.now - f.at) < 2 ^ 64
    → some.Asked l (b, (g, (s, (n, (c, (o, (f, tt))))))))
    × (some.Learnt l (b, (g, (s, (n, (c, (o, (f, tt))))))) r (b', (g', (s', (n', (c', (o', (f, tt)))))))
    → Went c.now f.at (held_at b.now g.now s.now n.now f.number) []
    r.at (held_at b'.now g'.now s'.now n'.now r.number) (take r.used o'.now)
    × (f.at < length c.now → f.at < r.at) × (length n'.now ≤ 201)))
    × ((xs : List ℕ) (i e : ℕ) (h h' : Held) (a d : List ℕ) → Went xs i h a e h' d
    ↔ ((i ≤ e) × (e ≤ length xs) × (h' ≡ gone_on (slice i e xs) h) × (d ≡ a ++ printed_by (slice i e xs) h)))
    × (log_size ≡ 63) × (line_room ≡ 201) × (answer_room ≡ 1408)
