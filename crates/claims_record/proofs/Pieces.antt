-- Claim 196, by the laws of a run by pieces. No axioms.
use Prim.Native.Nat.{ℕ, suc, ◌+◌}
use mathlib.Core.Path.{◌≡◌, refl, sym, ap, ap₂, ◌∙◌}
use mathlib.Core.List.{List, [], ◌∷◌, ◌++◌, map, map-append}
use native.Mathlib.Omega.{arith}
use lib.ListN.{length, length-append, length-map}
use Rattle.record_lines.specs.Parted.{ended_by, rest_by}
use Rattle.record_lines.specs.Lines.{line_feed, kept, lines_of, last_of}
use Rattle.record_lines.proofs.LinesLaws.{kept-kept, kept-none}
use Rattle.record_call.specs.Table.{line_of}
use Rattle.record_runs.specs.Replay.{said_in, said_after, calls_in, answers_from, Held, gone_on, printed_by}
use Rattle.record_runs.proofs.SaidLaws.{kept-says, calls-append, answers-append}
use Rattle.record_runs.proofs.RunLaws.{gone-both, printed-both, gone-none, printed-none}
use Rattle.board_runs.specs.Runs.{ran}
use Rattle.board_runs.specs.Ready.{at_reset}
use Rattle.board_runs.proofs.RunsEffects.{ran_append}
use Rattle.claims_record.specs.Lines.{together, begun, after_pieces, printed_in, finished}
use Rattle.claims_record.specs.Lines.{last_printed, Claim-196}
use Rattle.std.specs.Prelude.{Option}
use Rattle.board_call.specs.declared.Call.{Call}

gone-kept : (bs : List ℕ) (h : Held) → kept (gone_on bs h).line ≡ (gone_on bs h).line
unfolding gone_on
gone-kept bs h = kept-kept (rest_by line_feed h.line bs)

after-pieces : (ps : List (List ℕ)) (h : Held) → kept h.line ≡ h.line →
    after_pieces ps h ≡ gone_on (together ps) h
after-pieces [] h whole = sym (gone-none h whole)
after-pieces (p ∷ ps) h whole =
    after-pieces ps (gone_on p h) (gone-kept p h) ∙ sym (gone-both p (together ps) h)

printed-pieces : (ps : List (List ℕ)) (h : Held) → printed_in ps h ≡ printed_by (together ps) h
printed-pieces [] h = sym (printed-none h)
printed-pieces (p ∷ ps) h =
    ap (λ (bs : List ℕ). printed_by p h ++ bs) (printed-pieces ps (gone_on p h))
    ∙ sym (printed-both p (together ps) h)

-- ---- the last line

-- what is kept of it says what it says, and is there if it is
last-kept : (l : List ℕ) → map line_of (last_of (kept l)) ≡ map line_of (last_of l)
unfolding last_of kept
last-kept [] = refl
last-kept (x ∷ xs) = ap (λ (s : Option Call). s ∷ []) (kept-says (x ∷ xs))

module _ (bs : List ℕ) where
  abbrev rest : List ℕ
  rest = rest_by line_feed [] bs

  abbrev early : List (Option Call)
  early = said_after [] bs

  abbrev late : List (Option Call)
  late = map line_of (last_of rest)

  said-parts : said_in bs ≡ early ++ late
  unfolding said_in said_after lines_of
  said-parts = map-append line_of (ended_by line_feed [] bs) (last_of rest)

  all_left : finished (gone_on bs begun) ≡ ran (calls_in (said_in bs)) at_reset
  unfolding gone_on
  all_left =
      ap (λ (ss : List (Option Call)). ran (calls_in ss) (ran (calls_in early) at_reset)) (last-kept rest)
      ∙ sym (ap (λ (ss : List (Option Call)). ran (calls_in ss) at_reset) said-parts
      ∙ ap (λ cs. ran cs at_reset) (calls-append early late)
      ∙ ran_append (calls_in early) (calls_in late) at_reset)

  all-printed : printed_by bs begun ++ last_printed (gone_on bs begun) ≡ answers_from 1 (said_in bs) at_reset
  unfolding gone_on printed_by
  all-printed =
      let from : suc (0 + length early) ≡ 1 + length early = omega arith in
      ap₂ (λ (ss : List (Option Call)) (n : ℕ). answers_from 1 early at_reset ++ answers_from n ss (ran
      (calls_in early) at_reset))
      (last-kept rest) from
      ∙ sym (ap (λ (ss : List (Option Call)). answers_from 1 ss at_reset) said-parts
      ∙ answers-append early late 1 at_reset)

  all_lines : (gone_on bs begun).number + length (last_of (gone_on bs begun).line) ≡ length (lines_of bs)
  unfolding gone_on said_after lines_of
  all_lines =
      let last = sym (length-map (last_of (kept rest)) line_of) ∙ ap length (last-kept rest)
      ∙ length-map (last_of rest) line_of in
      omega (
        arith,
        last,
        length-map (ended_by line_feed [] bs) line_of,
        length-append (ended_by line_feed [] bs) (last_of rest),
      )

pub claim-196 : Claim-196
unfolding Claim-196
claim-196 ps =
    let all : List ℕ = together ps in
    let at : after_pieces ps begun ≡ gone_on all begun = after-pieces ps begun kept-none in (
      ap₂ (λ (bs : List ℕ) (h : Held). bs ++ last_printed h) (printed-pieces ps begun) at ∙ all-printed all,
      ap finished at ∙ all_left all,
      ap (λ (h : Held). h.number + length (last_of h.line)) at ∙ all_lines all,
    )
