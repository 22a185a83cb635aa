-- Claims 195 and 196, on the lines of a record, and on bytes that come in pieces. 02, M-100; docs/RECORD.md.
--   NoFeed l           no byte of l is an LF
--   AllNoFeed ls       of none of the lines ls
--   with_ends ls       the lines ls, each with an LF behind it
--   Parted ls bs       bs are the lines ls, each with its end; but the last may have none, if it has a byte
--   together ps        the pieces ps, one after the other
--   begun              a run that has read nothing
--   after_pieces ps h  where the run h is after the pieces ps; printed_in ps h: what it has printed then
--   finished h         what is lent after the last line, which has no end; last_printed h: what that prints
-- Premises: none. No axioms.
use Rattle.std.specs.Prelude.{ℕ, suc, ◌+◌, ◌≤◌, ◌<◌, ◌≡◌, ◌↔◌, ◌⊎◌, ◌≢◌, List, [], ◌∷◌, ◌++◌, map, length}
use Rattle.std.specs.Prelude.{get_or}
use Rattle.record_lines.specs.Lines.{lines_of, last_of}
use Rattle.record_call.specs.Table.{line_of}
use Rattle.record_runs.specs.Replay.{said_in, calls_in, answers_from, Held, gone_on, printed_by}
use Rattle.board_runs.specs.Runs.{Lent, ran}
use Rattle.board_runs.specs.Ready.{at_reset}

abbrev pub NoFeed : List ℕ → Type 0
NoFeed l = (i : ℕ) → i < length l → get_or l i 0 ≢ 10

abbrev pub AllNoFeed : List (List ℕ) → Type 0
AllNoFeed [] = Unit {0}
AllNoFeed (l ∷ ls) = NoFeed l × AllNoFeed ls

abbrev pub with_ends : List (List ℕ) → List ℕ
with_ends [] = []
with_ends (l ∷ ls) = l ++ (10 ∷ with_ends ls)

-- the last line has its end, or it has none and a byte at least
abbrev pub Parted : List (List ℕ) → List ℕ → Type 0
Parted ls bs =
    (bs ≡ with_ends ls)
    ⊎ ((ks : List (List ℕ)) × (l : List ℕ) × (ls ≡ ks ++ (l ∷ [])) × (1 ≤ length l) ×
    (bs ≡ with_ends ks ++ l))

-- the lines of a record are what its LFs part, and only those: each has its end, but the last may lack it
-- unless it is empty; a line may be empty
-- [02 M100.3]
unfoldable pub Claim-195 : Type 0
Claim-195 = (ls : List (List ℕ)) (bs : List ℕ) → (lines_of bs ≡ ls) ↔ (AllNoFeed ls × Parted ls bs)

-- ---- pieces

abbrev pub together : List (List ℕ) → List ℕ
together [] = []
together (p ∷ ps) = p ++ together ps

abbrev pub begun : Held
begun = record { line = []; number = 0; lent = at_reset }

abbrev pub after_pieces : List (List ℕ) → Held → Held
after_pieces [] h = h
after_pieces (p ∷ ps) h = after_pieces ps (gone_on p h)

abbrev pub printed_in : List (List ℕ) → Held → List ℕ
printed_in [] h = []
printed_in (p ∷ ps) h = printed_by p h ++ printed_in ps (gone_on p h)

abbrev pub finished : Held → Lent
finished h = ran (calls_in (map line_of (last_of h.line))) h.lent

abbrev pub last_printed : Held → List ℕ
last_printed h = answers_from (suc h.number) (map line_of (last_of h.line)) h.lent

-- bytes that come in any pieces do what the whole record does: the same answers under the same numbers of
-- lines, and the same block, log and saved numbers at the end
-- [02 M100.2]
unfoldable pub Claim-196 : Type 0
Claim-196 =
    (ps : List (List ℕ))
    → (printed_in ps begun ++ last_printed (after_pieces ps begun)
    ≡ answers_from 1 (said_in (together ps)) at_reset)
    × (finished (after_pieces ps begun) ≡ ran (calls_in (said_in (together ps))) at_reset)
    × ((after_pieces ps begun).number + length (last_of (after_pieces ps begun).line)
    ≡ length (lines_of (together ps)))
