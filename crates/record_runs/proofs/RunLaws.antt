-- A run by pieces: two pieces do what both together do. Assumes nothing.
use Prim.Native.Nat.{ℕ, suc, ◌+◌}
use mathlib.Core.Path.{◌≡◌, refl, sym, ap, ◌∙◌}
use mathlib.Core.Logic.{◌≢◌}
use mathlib.Core.List.{List, [], ◌∷◌, ◌++◌, map, append-nil}
use native.Mathlib.Omega.{arith}
use native.Mathlib.Nat.{suc-add, add-zero}
use lib.ListN.{length, length-append}
use Rattle.record_lines.specs.Parted.{ended_by, rest_by}
use Rattle.record_lines.specs.Lines.{line_feed, kept, last_of}
use Rattle.record_lines.proofs.PartedLaws.{rest-append}
use Rattle.record_lines.proofs.LinesLaws.{kept-kept}
use Rattle.record_call.specs.Table.{line_of}
use Rattle.board_runs.specs.Runs.{Lent, ran}
use Rattle.board_runs.proofs.RunsEffects.{ran_append}
use Rattle.record_runs.specs.Replay.{Held, said_after, calls_in, answers_from, answer_to, passed_on, gone_on}
use Rattle.record_runs.specs.Replay.{printed_by}
use Rattle.record_runs.proofs.SaidLaws.{said-append, said_same, rest-same, calls-append, ran_line}
use Rattle.record_runs.proofs.SaidLaws.{answers-append}
use Rattle.std.specs.Prelude.{Option}
use Rattle.board_call.specs.declared.Call.{Call}

pub held_same : {l l' : List ℕ} {n n' : ℕ} {x x' : Lent} → l ≡ l' → n ≡ n' → x ≡ x' →
    ◌≡◌ {A = Held} record { line = l; number = n; lent = x } record { line = l'; number = n'; lent = x' }
held_same e f g = rw (e, f, g)

module _ (xs ys : List ℕ) (h : Held) where
  abbrev first : List (Option Call)
  first = said_after h.line xs

  abbrev second : List (Option Call)
  second = said_after (gone_on xs h).line ys

  -- what the second piece says is what it says behind all of the line
  said-both : said_after h.line (xs ++ ys) ≡ first ++ second
  unfolding gone_on
  said-both =
      said-append xs ys h.line
      ∙ ap (λ (ss : List (Option Call)). first ++ ss)
      (said_same ys (rest_by line_feed h.line xs) (kept (rest_by line_feed h.line xs)) (sym (kept-kept _)))

  line-both : kept (rest_by line_feed h.line (xs ++ ys)) ≡ (gone_on ys (gone_on xs h)).line
  unfolding gone_on
  line-both =
      ap kept (rest-append line_feed xs ys h.line)
      ∙ rest-same ys (rest_by line_feed h.line xs) (kept (rest_by line_feed h.line xs)) (sym (kept-kept _))

  number-both : h.number + length (said_after h.line (xs ++ ys)) ≡ (gone_on ys (gone_on xs h)).number
  unfolding gone_on
  number-both = omega (arith, ap length said-both, length-append first second)

  lent_both : ran (calls_in (said_after h.line (xs ++ ys))) h.lent ≡ (gone_on ys (gone_on xs h)).lent
  unfolding gone_on
  lent_both =
      ap (λ (ss : List (Option Call)). ran (calls_in ss) h.lent) said-both
      ∙ ap (λ cs. ran cs h.lent) (calls-append first second)
      ∙ ran_append (calls_in first) (calls_in second) h.lent

  pub gone-both : gone_on (xs ++ ys) h ≡ gone_on ys (gone_on xs h)
  unfolding gone_on
  gone-both = held_same line-both number-both lent_both

  pub printed-both : printed_by (xs ++ ys) h ≡ printed_by xs h ++ printed_by ys (gone_on xs h)
  unfolding printed_by gone_on
  printed-both =
      let x : Lent = h.lent in
      ap (λ (ss : List (Option Call)). answers_from (suc h.number) ss x) said-both
      ∙ answers-append first second (suc h.number) x
      ∙ ap (λ (n : ℕ). answers_from (suc h.number) first x ++ answers_from n second (ran (calls_in first) x))
      (suc-add h.number (length first))

-- no bytes
pub gone-none : (h : Held) → kept h.line ≡ h.line → gone_on [] h ≡ h
unfolding gone_on said_after ended_by rest_by calls_in ran
gone-none h whole = held_same whole (add-zero h.number) refl

pub printed-none : (h : Held) → printed_by [] h ≡ []
unfolding printed_by said_after ended_by answers_from
printed-none h = refl

-- ---- the last line, which has no end

pub last_none : (l : List ℕ) (x : Lent) → length l ≡ 0 → x ≡ ran (calls_in (map line_of (last_of l))) x
unfolding last_of calls_in ran
last_none [] x e = refl
last_none (b ∷ bs) x e = absurd (omega (arith, e))

pub last_some : (l : List ℕ) (x : Lent) → length l ≢ 0 →
    passed_on (line_of l) x ≡ ran (calls_in (map line_of (last_of l))) x
unfolding last_of calls_in ran
last_some [] x n = absurd (n refl)
last_some (b ∷ bs) x n = sym (ran_line (line_of (b ∷ bs)) [] x)

-- what it is answered by, and how many it is
pub answered_none : (l : List ℕ) (n : ℕ) (x : Lent) → length l ≡ 0 →
    [] ≡ answers_from n (map line_of (last_of l)) x
unfolding last_of answers_from
answered_none [] n x e = refl
answered_none (b ∷ bs) n x e = absurd (omega (arith, e))

pub answered_some : (l : List ℕ) (n : ℕ) (x : Lent) → length l ≢ 0 →
    answer_to n (line_of l) x ≡ answers_from n (map line_of (last_of l)) x
unfolding last_of answers_from
answered_some [] n x some = absurd (some refl)
answered_some (b ∷ bs) n x some = sym (append-nil (answer_to n (line_of (b ∷ bs)) x))

pub counted_none : (l : List ℕ) → length l ≡ 0 → length (last_of l) ≡ 0
unfolding last_of
counted_none [] e = refl
counted_none (b ∷ bs) e = absurd (omega (arith, e))

pub counted_some : (l : List ℕ) → length l ≢ 0 → length (last_of l) ≡ 1
unfolding last_of
counted_some [] some = absurd (some refl)
counted_some (b ∷ bs) some = refl
