-- A run by pieces of bytes. 02, M-100. Assumes nothing.
--   held_at l g s line n   where a run is, from what the code holds: what is lent, what is held of a line,
--                          and how many lines have ended
--   Went xs f h a e h' b   from place f of xs to place e the run went on from h to h', and the answers from a
--                          to b
use Rattle.std.specs.Prelude.{ℕ, ◌≤◌, ◌≡◌, List, ◌++◌, length}
use Rattle.std.proofs.Math.Seq.{slice}
use Rattle.record_runs.specs.Replay.{Held, lent_of, gone_on, printed_by}

abbrev pub held_at : List ℕ → List ℕ → List ℕ → List ℕ → ℕ → Held
held_at l g s line number = record { line = line; number = number; lent = lent_of l g s }

pub record Went (xs : List ℕ) (f : ℕ) (h : Held) (a : List ℕ) (e : ℕ) (h' : Held) (b : List ℕ) : Type 0 where
  pub start : f ≤ e
  pub end : e ≤ length xs
  pub held : h' ≡ gone_on (slice f e xs) h
  pub printed : b ≡ a ++ printed_by (slice f e xs) h
