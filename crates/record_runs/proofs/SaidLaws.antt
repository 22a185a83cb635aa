-- What lines say: what is kept of a line says what the line says, and lines in two parts. Assumes nothing.
use Prim.Native.Nat.{ℕ, suc, ◌+◌, ◌<◌}
use mathlib.Core.Path.{◌≡◌, refl, sym, ap, ap₂, ◌∙◌}
use mathlib.Core.Bool.{Bool, true, false, cond}
use mathlib.Core.List.{List, [], ◌∷◌, ◌++◌, map, append_assoc, map-append}
use native.Mathlib.Omega.{arith}
use native.Mathlib.Nat.{add-zero, add-suc, suc-add}
use native.Mathlib.Decide.{dec_lt}
use lib.Dec.{eqb}
use lib.ListN.{length}
use Rattle.record_lines.specs.Parted.{ended_by, rest_by}
use Rattle.record_lines.specs.Lines.{line_feed, line_size, kept}
use Rattle.record_lines.proofs.PartedLaws.{ended-append}
use Rattle.record_lines.proofs.LinesLaws.{kept_more, kept-short, kept-long}
use Rattle.record_call.specs.Table.{line_of}
use Rattle.record_call.proofs.TableLaws.{long-line}
use Rattle.board_call.specs.declared.Call.{Call}
use Rattle.board_runs.specs.Runs.{Lent, ran}
use Rattle.record_runs.specs.Replay.{said_after, calls_in, answers_from, answer_to, passed_on}
use Rattle.std.specs.Prelude.{Option, Some, None}

pub kept-says : (l : List ℕ) → line_of (kept l) ≡ line_of l
kept-says l = at (dec_lt line_size (length l))
  where
    at : Dec (line_size < length l) → line_of (kept l) ≡ line_of l
    at (yes lt) = sym (long-line (kept l) (kept-long l lt)) ∙ long-line l lt
    at (no ge) = ap line_of (kept-short l (omega (arith, ge)))

-- ---- lines that begin with bytes of which the same is kept

same-says : (p q : List ℕ) → kept p ≡ kept q → line_of p ≡ line_of q
same-says p q e = sym (kept-says p) ∙ ap line_of e ∙ kept-says q

same_more : (p q r : List ℕ) → kept p ≡ kept q → kept (p ++ r) ≡ kept (q ++ r)
same_more p q r e =
    sym (kept_more p r) ∙ ap (λ (s : List ℕ). kept (s ++ r)) e ∙ kept_more q r

pub said_same : (xs p q : List ℕ) → kept p ≡ kept q → said_after p xs ≡ said_after q xs
unfolding said_after ended_by
said_same [] p q e = refl
said_same (x ∷ xs) p q e =
    at (eqb x line_feed) (said_same xs (p ++ (x ∷ [])) (q ++ (x ∷ [])) (same_more p q (x ∷ []) e))
  where
    at : (t : Bool) →
        map line_of (ended_by line_feed (p ++ (x ∷ [])) xs)
        ≡ map line_of (ended_by line_feed (q ++ (x ∷ [])) xs) →
        map line_of (cond t (p ∷ ended_by line_feed [] xs) (ended_by line_feed (p ++ (x ∷ [])) xs))
        ≡ map line_of (cond t (q ∷ ended_by line_feed [] xs) (ended_by line_feed (q ++ (x ∷ [])) xs))
    at true more = ap (λ (s : Option Call). s ∷ map line_of (ended_by line_feed [] xs)) (same-says p q e)
    at false more = more

pub rest-same : (xs p q : List ℕ) → kept p ≡ kept q →
    kept (rest_by line_feed p xs) ≡ kept (rest_by line_feed q xs)
unfolding rest_by
rest-same [] p q e = e
rest-same (x ∷ xs) p q e =
    at (eqb x line_feed) (rest-same xs (p ++ (x ∷ [])) (q ++ (x ∷ [])) (same_more p q (x ∷ []) e))
  where
    at : (t : Bool) →
        kept (rest_by line_feed (p ++ (x ∷ [])) xs) ≡ kept (rest_by line_feed (q ++ (x ∷ [])) xs) →
        kept (cond t (rest_by line_feed [] xs) (rest_by line_feed (p ++ (x ∷ [])) xs))
        ≡ kept (cond t (rest_by line_feed [] xs) (rest_by line_feed (q ++ (x ∷ [])) xs))
    at true more = refl
    at false more = more

-- ---- bytes, and lines, in two parts

pub said-append : (xs ys p : List ℕ) →
    said_after p (xs ++ ys) ≡ said_after p xs ++ said_after (rest_by line_feed p xs) ys
unfolding said_after
said-append xs ys p =
    ap (map line_of) (ended-append line_feed xs ys p)
    ∙ map-append line_of (ended_by line_feed p xs) (ended_by line_feed (rest_by line_feed p xs) ys)

pub calls-append : (ss ts : List (Option Call)) → calls_in (ss ++ ts) ≡ calls_in ss ++ calls_in ts
unfolding calls_in
calls-append [] ts = refl
calls-append (Some c ∷ ss) ts = ap (λ (cs : List Call). c ∷ cs) (calls-append ss ts)
calls-append (None ∷ ss) ts = calls-append ss ts

-- what the first line leaves is what its call leaves, if it says one
pub ran_line : (s : Option Call) (ss : List (Option Call)) (x : Lent) →
    ran (calls_in (s ∷ ss)) x ≡ ran (calls_in ss) (passed_on s x)
unfolding calls_in ran
ran_line (Some c) ss x = refl
ran_line None ss x = refl

pub answers-append : (ss ts : List (Option Call)) (n : ℕ) (x : Lent) →
    answers_from n (ss ++ ts) x ≡ answers_from n ss x ++ answers_from (n + length ss) ts (ran (calls_in ss) x)
unfolding answers_from calls_in ran
answers-append [] ts n x = ap (λ (m : ℕ). answers_from m ts (ran (calls_in []) x)) (sym (add-zero n))
answers-append (s ∷ ss) ts n x =
    ap (λ (bs : List ℕ). answer_to n s x ++ bs)
    (answers-append ss ts (suc n) (passed_on s x)
    ∙ ap₂ (λ (m : ℕ) (y : Lent). answers_from (suc n) ss (passed_on s x) ++ answers_from m ts y)
    (suc-add n (length ss) ∙ sym (add-suc n (length ss))) (sym (ran_line s ss x)))
    ∙ sym (append_assoc (answer_to n s x) (answers_from (suc n) ss (passed_on s x)) _)
