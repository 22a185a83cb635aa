-- Claims 197 to 200. No axioms.
use Prim.Native.Nat.{ℕ, suc}
use mathlib.Core.Path.{◌≡◌, refl, sym, ap, ◌∙◌}
use mathlib.Core.List.{List, [], ◌∷◌, ◌++◌, map, append_assoc}
use native.Mathlib.Omega.{arith}
use lib.ListN.{length, length-map}
use mathlib.Core.Bool.{true}
use Rattle.record_numbers.specs.Decimal.{all_digits, text_of}
use Rattle.record_numbers.proofs.TextLaws.{text-digits, digit-member}
use Rattle.record_lines.specs.Parted.{ended_by, rest_by}
use Rattle.record_lines.specs.Lines.{line_feed, lines_of, last_of}
use Rattle.record_fields.specs.Fields.{tab, fields_of}
use Rattle.record_call.specs.Table.{line_of}
use Rattle.record_answer.specs.Shown.{fields_shown, line_shown}
use Rattle.record_answer.proofs.ShownLaws.{line-fields}
use Rattle.record_runs.specs.Replay.{said_in, calls_in, answers_from, answer_to, passed_on}
use Rattle.record_runs.proofs.SaidLaws.{calls-append, ran_line}
use Rattle.board_call.specs.declared.Call.{Call}
use Rattle.board_runs.specs.Runs.{Lent, ran}
use Rattle.board_runs.specs.Ready.{at_reset}
use Rattle.board_runs.proofs.StartEffects.{after-reset}
use Rattle.claims_record.specs.Replay.{line_by_line, told, fields_told, Claim-197, Claim-198}
use Rattle.claims_record.specs.Replay.{Claim-200, Claim-201}
use Rattle.claims_record.specs.Written.{behind_tabs}
use Rattle.claims_record.proofs.Written.{fields-2}
use Rattle.claims_record.proofs.PartsLaws.{Lacks, AllLack, lacks-none, lacks-cons, lacks-append}
use Rattle.claims_record.proofs.PartsLaws.{ended-part, rest_part}
use Rattle.std.specs.Prelude.{Option, Some, None}

-- ---- what is left

line-by-line : (ls : List (List ℕ)) (x : Lent) → line_by_line ls x ≡ ran (calls_in (map line_of ls)) x
unfolding calls_in ran
line-by-line [] x = refl
line-by-line (l ∷ ls) x =
    line-by-line ls (passed_on (line_of l) x) ∙ sym (ran_line (line_of l) (map line_of ls) x)

pub claim-197 : Claim-197
unfolding Claim-197 said_in calls_in
claim-197 = (
  (λ bs. line-by-line (lines_of bs) at_reset),
  (λ c x. refl),
  (λ x. refl),
  (λ ss ts c. calls-append ss (Some c ∷ ts)),
  (λ ss ts. calls-append ss (None ∷ ts) ∙ sym (calls-append ss ts)),
  after-reset,
)

-- ---- what is printed

answer-line : (n : ℕ) (s : Option Call) (x : Lent) → answer_to n s x ≡ line_shown (n ∷ told s x)
answer-line n (Some c) x = refl
answer-line n None x = refl

-- no number has an end of line in it
text-lacks : (n : ℕ) → Lacks line_feed (text_of n)
text-lacks n i h e = absurd (omega (arith, digit-member (text_of n) (text-digits n) i h, e))

fields-lack : (ns : List ℕ) → Lacks line_feed (fields_shown ns)
unfolding fields_shown
fields-lack [] = lacks-none line_feed
fields-lack (n ∷ ns) =
    lacks-cons line_feed tab (text_of n ++ fields_shown ns) (λ e. absurd (omega (arith, e)))
    (lacks-append line_feed (text_of n) (fields_shown ns) (text-lacks n) (fields-lack ns))

-- the fields of an answer are the texts of its numbers
digits-lack : (t : List ℕ) → all_digits t ≡ true → Lacks tab t
digits-lack t d i h e = absurd (omega (arith, digit-member t d i h, e))

shown-tabs : (ns : List ℕ) → fields_shown ns ≡ behind_tabs (map text_of ns)
unfolding fields_shown
shown-tabs [] = refl
shown-tabs (n ∷ ns) = ap (λ (bs : List ℕ). tab ∷ (text_of n ++ bs)) (shown-tabs ns)

texts-lack : (ns : List ℕ) → AllLack tab (map text_of ns)
texts-lack [] = tt
texts-lack (n ∷ ns) = (digits-lack (text_of n) (text-digits n), texts-lack ns)

shown-fields : (n : ℕ) (ns : List ℕ) → fields_of (text_of n ++ fields_shown ns) ≡ map text_of (n ∷ ns)
shown-fields n ns =
    ap (λ (bs : List ℕ). fields_of (text_of n ++ bs)) (shown-tabs ns)
    ∙ fields-2 (text_of n) (map text_of ns) (digits-lack (text_of n) (text-digits n)) (texts-lack ns)

-- a line and its end, and what stands behind it
lines-first : (l bs : List ℕ) → Lacks line_feed l → lines_of (l ++ (line_feed ∷ bs)) ≡ l ∷ lines_of bs
unfolding lines_of
lines-first l bs n = rw (ended-part line_feed l bs [] n, rest_part line_feed l bs [] n)

module _ (n : ℕ) (ns : List ℕ) where
  abbrev body : List ℕ
  body = text_of n ++ fields_shown ns

  body-lacks : Lacks line_feed body
  body-lacks = lacks-append line_feed (text_of n) (fields_shown ns) (text-lacks n) (fields-lack ns)

  line-body : (bs : List ℕ) → line_shown (n ∷ ns) ++ bs ≡ body ++ (line_feed ∷ bs)
  line-body bs =
      ap (λ (l : List ℕ). l ++ bs)
      (line-fields n ns ∙ sym (append_assoc (text_of n) (fields_shown ns) (line_feed ∷ [])))
      ∙ append_assoc body (line_feed ∷ []) bs

  line-told : (bs : List ℕ) →
      map fields_of (lines_of (line_shown (n ∷ ns) ++ bs)) ≡ map text_of (n ∷ ns) ∷ map fields_of
      (lines_of bs)
  line-told bs =
      ap (λ (ls : List ℕ). map fields_of (lines_of ls)) (line-body bs)
      ∙ ap (map fields_of) (lines-first body bs body-lacks)
      ∙ ap (λ (fs : List (List ℕ)). fs ∷ map fields_of (lines_of bs)) (shown-fields n ns)

answers-told : (ss : List (Option Call)) (n : ℕ) (x : Lent) →
    map fields_of (lines_of (answers_from n ss x)) ≡ fields_told n ss x
unfolding answers_from lines_of ended_by rest_by last_of
answers-told [] n x = refl
answers-told (s ∷ ss) n x =
    ap (λ (l : List ℕ). map fields_of (lines_of (l ++ answers_from (suc n) ss (passed_on s x))))
    (answer-line n s x)
    ∙ line-told n (told s x) (answers_from (suc n) ss (passed_on s x))
    ∙ ap (λ (fs : List (List (List ℕ))). map text_of (n ∷ told s x) ∷ fs) (answers-told ss (suc n)
    (passed_on s x))

told-length : (ss : List (Option Call)) (n : ℕ) (x : Lent) → length (fields_told n ss x) ≡ length ss
told-length [] n x = refl
told-length (s ∷ ss) n x = ap suc (told-length ss (suc n) (passed_on s x))

pub claim-198 : Claim-198
unfolding Claim-198 said_in
claim-198 = (
  (λ bs. answers-told (map line_of (lines_of bs)) 1 at_reset),
  (λ bs. sym (length-map (lines_of (answers_from 1 (map line_of (lines_of bs)) at_reset)) fields_of)
      ∙ ap length (answers-told (map line_of (lines_of bs)) 1 at_reset)
      ∙ told-length (map line_of (lines_of bs)) 1 at_reset
      ∙ length-map (lines_of bs) line_of),
)

pub claim-200 : Claim-200
unfolding Claim-200
claim-200 l b b' r given = given

pub claim-201 : Claim-201
unfolding Claim-201
claim-201 = (
  (λ l b b' g g' s s' n n' c c' o o' f r. (
    (λ out at number. (out, at, number)),
    (λ given. (given.0, given.1.1, given.1.0.0)),
  )),
  (λ xs i e h h' a d. (
    (λ w. (w.start, w.end, w.held, w.printed)),
    (λ p. record { start = p.0; end = p.1; held = p.2; printed = p.3 }),
  )),
  refl,
  refl,
  refl,
)
