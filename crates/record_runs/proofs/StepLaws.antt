-- A line of a piece: bytes that end no line, and bytes that end one. Assumes nothing.
use Prim.Native.Nat.{ℕ, suc, ◌+◌, ◌≤◌}
use mathlib.Core.Path.{◌≡◌, refl, sym, ap, ◌∙◌}
use mathlib.Core.List.{List, [], ◌∷◌, ◌++◌, append-nil, map}
use native.Mathlib.Omega.{arith}
use native.Mathlib.Nat.{add-zero}
use native.Mathlib.Numerals.{add-one}
use lib.ListN.{length, length-map}
use Rattle.record_lines.specs.Parted.{ended_by, rest_by}
use Rattle.record_lines.specs.Lines.{line_feed, kept}
use Rattle.record_lines.proofs.PartedLaws.{rest-append, ended-end, rest_end, ended-le}
use Rattle.record_lines.proofs.LinesLaws.{kept-none}
use Rattle.record_call.specs.Table.{line_of}
use Rattle.board_runs.specs.Runs.{Lent, ran}
use Rattle.record_runs.specs.Replay.{Held, said_after, calls_in, answers_from, answer_to, passed_on}
use Rattle.record_runs.specs.Replay.{gone_on, printed_by}
use Rattle.record_runs.proofs.SaidLaws.{said-append, kept-says, ran_line}
use Rattle.record_runs.proofs.RunLaws.{held_same}
use Rattle.std.specs.Prelude.{Option}
use Rattle.board_call.specs.declared.Call.{Call}

module _ (p : List ℕ) (n : ℕ) (x : Lent) where
  abbrev held : Held
  held = record { line = p; number = n; lent = x }

  -- bytes in which no line ends
  module _ (bs : List ℕ) (none : ended_by line_feed p bs ≡ []) where
    said-none : said_after p bs ≡ []
    unfolding said_after
    said-none = ap (map line_of) none

    pub gone-open : gone_on bs held ≡ record { line = kept (rest_by line_feed p bs); number = n; lent = x }
    unfolding gone_on calls_in ran
    gone-open =
        held_same refl (ap (λ (ss : List (Option Call)). n + length ss) said-none ∙ add-zero n)
        (ap (λ (ss : List (Option Call)). ran (calls_in ss) x) said-none)

    pub printed-open : printed_by bs held ≡ []
    unfolding printed_by answers_from
    printed-open = ap (λ (ss : List (Option Call)). answers_from (suc n) ss x) said-none

    -- and then the end of the line, of which q was kept
    module _ (q : List ℕ) (line : q ≡ kept (rest_by line_feed p bs)) where
      said-one : said_after p (bs ++ (line_feed ∷ [])) ≡ line_of q ∷ []
      unfolding said_after
      said-one =
          said-append bs (line_feed ∷ []) p
          ∙ ap (λ (ss : List (Option Call)). ss ++ said_after (rest_by line_feed p bs) (line_feed ∷ []))
          said-none
          ∙ ap (map line_of) (ended-end line_feed (rest_by line_feed p bs) line_feed refl)
          ∙ ap (λ (s : Option Call). s ∷ []) (sym (ap line_of line ∙ kept-says (rest_by line_feed p bs)))

      pub gone-ended : gone_on (bs ++ (line_feed ∷ [])) held
          ≡ record { line = []; number = n + 1; lent = passed_on (line_of q) x }
      unfolding gone_on calls_in ran
      gone-ended =
          held_same
          (ap kept (rest-append line_feed bs (line_feed ∷ []) p
          ∙ rest_end line_feed (rest_by line_feed p bs) line_feed refl)
          ∙ kept-none)
          (ap (λ (ss : List (Option Call)). n + length ss) said-one)
          (ap (λ (ss : List (Option Call)). ran (calls_in ss) x) said-one ∙ ran_line (line_of q) [] x)

      pub printed_ended : printed_by (bs ++ (line_feed ∷ [])) held ≡ answer_to (n + 1) (line_of q) x
      unfolding printed_by answers_from
      printed_ended =
          ap (λ (ss : List (Option Call)). answers_from (suc n) ss x) said-one
          ∙ append-nil (answer_to (suc n) (line_of q) x)
          ∙ ap (λ (m : ℕ). answer_to m (line_of q) x) (sym (add-one n))

-- there are no more lines than bytes
pub number-le : (bs : List ℕ) (h : Held) → (gone_on bs h).number ≤ h.number + length bs
unfolding gone_on said_after
number-le bs h =
    omega (arith, length-map (ended_by line_feed h.line bs) line_of, ended-le line_feed bs h.line)
