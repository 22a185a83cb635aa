-- What the calls of a shift bring: logs of 63 words; and to each access of a move the saved numbers that the
-- last access gave. 01, "Calls and their refusals", "The move, with its premises". Assumes nothing.
--   is_access c       c is an access of a move: no other call looks at saved numbers
--   saved_by s ms l   what the accesses among ms, made in turn from the block l on, leave of the saved
--                     numbers s
--   HandedOn s ms l   each access among ms brings the numbers that the last one gave, and the first one s
--   LogsLong ms       each of the calls ms brings a log of 63 words
--   Makes cs ms       ms are the calls cs, in order, with logs of 63 words and any saved numbers
use Rattle.std.specs.Prelude.{ℕ, ◌≡◌, Bool, true, false, cond, List, [], ◌∷◌, map, length}
use Rattle.sizes.specs.Sizes.{log_size}
use Rattle.board_call.specs.declared.Call.{Call}
use Rattle.board_call.specs.Calls.{WiredPart, Nothing, ByWire, ByRead, ByWrite, ByAccess, Everything, row_of}
use Rattle.board_runs.specs.Runs.{Made, made_on}

abbrev pub by_access : WiredPart → Bool
by_access Nothing = false
by_access (ByWire i) = false
by_access (ByRead c r) = false
by_access (ByWrite c r v) = false
by_access (ByAccess h f n) = true
by_access Everything = false

unfoldable pub is_access : Call → Bool
is_access c = by_access (row_of c).wired

-- what one call leaves of the saved numbers that are handed on
abbrev pub saved_after : List ℕ → Made → List ℕ → List ℕ
saved_after s m l = cond (is_access m.call) (made_on m l).saved s

unfoldable pub saved_by : List ℕ → List Made → List ℕ → List ℕ
saved_by s [] l = s
saved_by s (m ∷ ms) l = saved_by (saved_after s m l) ms (made_on m l).block

-- [01 V14]
unfoldable pub HandedOn : List ℕ → List Made → List ℕ → Type 0
HandedOn s [] l = Unit {0}
HandedOn s (m ∷ ms) l =
    (is_access m.call ≡ true → m.saved ≡ s) × HandedOn (saved_after s m l) ms (made_on m l).block

unfoldable pub LogsLong : List Made → Type 0
LogsLong [] = Unit {0}
LogsLong (m ∷ ms) = (length m.log ≡ log_size) × LogsLong ms

pub record Makes (cs : List Call) (ms : List Made) : Type 0 where
  pub calls : map (λ m. m.call) ms ≡ cs
  pub logs : LogsLong ms
