-- The table of calls: bytes that are the same, the rows with so many numbers, and what the code finds of a
-- line. Assumes nothing.
use Prim.Native.Nat.{ℕ, ◌≤◌, ◌<◌, ◌^◌}
use mathlib.Core.Path.{◌≡◌, refl, sym, ap, ap₂, subst, ◌∙◌}
use mathlib.Core.Bool.{Bool, true, false, cond, ◌&&◌, false≢true, and-true}
use mathlib.Core.List.{List, [], ◌∷◌}
use native.Mathlib.Omega.{arith}
use native.Mathlib.Decide.{dec_lt}
use borrow.Author.Tests.{eqb-true, eq-eqb, ne_eqb, leb-true, le-leb, lt-leb}
use lib.Dec.{eqb, leb, ltb}
use lib.ListN.{length}
use Rattle.words.proofs.TestsLaws.{and_first, and_second, and_both, same_truth, tested}
use Rattle.record_lines.specs.Lines.{line_size}
use Rattle.record_fields.specs.Fields.{name_of, texts_of, are_numbers, numbers_of, numbers_in}
use Rattle.record_fields.specs.Fields.{most_numbers}
use Rattle.record_fields.proofs.CountLaws.{length-numbers, in-few, in-bad, in-many}
use Rattle.board_call.specs.declared.Call.TheVariants as calls
use Rattle.board_call.specs.declared.Call.{Call}
use Rattle.std.specs.Prelude.{Option, Some, None}
use Rattle.std.proofs.lemmas.Option.{none-some, same_Some}
use Rattle.record_call.specs.Table.{NameRow, table, same_bytes, word_at_end, call_in, line_of}
use Rattle.record_call.specs.Table.{first, second, third, fourth, fifth}
use Rattle.record_call.specs.Table.{reset_row, signals_row, wire_row, domain_read_row, top_row, claim_row}
use Rattle.record_call.specs.Table.{page_read_row, domain_write_row, page_write_row, register_row, move_row}

pub same-bytes-1 : (xs ys : List ℕ) → same_bytes xs ys ≡ true → xs ≡ ys
unfolding same_bytes
same-bytes-1 [] [] e = refl
same-bytes-1 [] (y ∷ ys) e = absurd (false≢true e)
same-bytes-1 (x ∷ xs) [] e = absurd (false≢true e)
same-bytes-1 (x ∷ xs) (y ∷ ys) e =
    ap₂ (λ (z : ℕ) (zs : List ℕ). z ∷ zs) (eqb-true x y (and_first (eqb x y) (same_bytes xs ys) e))
    (same-bytes-1 xs ys (and_second (eqb x y) (same_bytes xs ys) e))

pub same-bytes-2 : (xs : List ℕ) → same_bytes xs xs ≡ true
unfolding same_bytes
same-bytes-2 [] = refl
same-bytes-2 (x ∷ xs) = and_both (eqb x x) (same_bytes xs xs) (eq-eqb x x refl) (same-bytes-2 xs)

-- ---- no row has more numbers

abbrev few_in : List NameRow → Bool
few_in [] = true
few_in (r ∷ rs) = leb r.count most_numbers && few_in rs

many-in : (rs : List NameRow) (name ns : List ℕ) → few_in rs ≡ true → most_numbers < length ns →
    call_in rs name ns ≡ None
unfolding call_in
many-in [] name ns few many = refl
many-in (r ∷ rs) name ns few many =
    let le = leb-true r.count most_numbers (and_first (leb r.count most_numbers) (few_in rs) few) in
    let other = ne_eqb (length ns) r.count (λ e. absurd (omega (arith, le, many, e))) in
    let named : Bool = same_bytes name r.name && word_at_end r.word ns in
    ap (λ (t : Bool). cond (t && named) (Some (r.make ns)) (call_in rs name ns)) other
    ∙ many-in rs name ns (and_second (leb r.count most_numbers) (few_in rs) few) many

pub many-unreadable : (name ns : List ℕ) → most_numbers < length ns → call_in table name ns ≡ None
unfolding table
many-unreadable name ns many = many-in table name ns refl many

-- ---- the tests of the code

pub same-found : (b : Bool) (xs ys : List ℕ) → (b ≡ true → xs ≡ ys) × (xs ≡ ys → b ≡ true) →
    b ≡ same_bytes xs ys
same-found b xs ys (to, from) =
    same_truth b (same_bytes xs ys)
    (λ e. subst (λ zs. same_bytes xs zs ≡ true) (to e) (same-bytes-2 xs))
    (λ e. from (same-bytes-1 xs ys e))

pub and-not : (t u : Bool) → u ≡ false → (t && u) ≡ false
and-not true u e = e
and-not false u e = refl

pub not-and : (t u : Bool) → t ≡ false → (t && u) ≡ false
not-and t u e = rw e

-- ---- the rows that have so many numbers

module _ (name : List ℕ) where
  abbrev named : NameRow → Bool
  named r = same_bytes name r.name

  abbrev Says : List ℕ → Option Call → Type 0
  Says ns r = call_in table name ns ≡ r

  pub none_in : (ns : List ℕ) → length ns < 1 → Says ns (cond (named reset_row) (Some calls.Reset) None)
  unfolding call_in table
  none_in [] l = rw (and-true (named reset_row))
  none_in (a ∷ ns) l = absurd (omega arith)

  pub one_in : (ns : List ℕ) → 1 ≤ length ns → length ns < 2 →
      Says ns (cond (named signals_row) (Some (calls.Signals (first ns))) None)
  unfolding call_in table
  one_in [] h l = absurd (omega arith)
  one_in (a ∷ []) h l = rw (and-true (named signals_row))
  one_in (a ∷ b ∷ ns) h l = absurd (omega arith)

  pub two_in : (ns : List ℕ) → 2 ≤ length ns → length ns < 3 →
      Says ns (cond (named wire_row) (Some (calls.Wire (first ns) (second ns)))
      (cond (named domain_read_row) (Some (calls.DomainRead (first ns) (second ns)))
      (cond (named top_row) (Some (calls.Top (first ns) (second ns)))
      (cond (named claim_row) (Some (calls.Claim (first ns) (second ns))) None))))
  unfolding call_in table
  two_in [] h l = absurd (omega arith)
  two_in (a ∷ []) h l = absurd (omega arith)
  two_in (a ∷ b ∷ []) h l =
      rw (
        and-true (named wire_row),
        and-true (named domain_read_row),
        and-true (named top_row),
        and-true (named claim_row),
      )
  two_in (a ∷ b ∷ c ∷ ns) h l = absurd (omega arith)

  pub three-in : (ns : List ℕ) → 3 ≤ length ns → length ns < 4 →
      Says ns (cond (named page_read_row) (Some (calls.PageRead (first ns) (second ns) (third ns)))
      (cond (named domain_write_row && ltb (third ns) (2 ^ 32))
      (Some (calls.DomainWrite (first ns) (second ns) (third ns))) None))
  unfolding call_in table
  three-in [] h l = absurd (omega arith)
  three-in (a ∷ []) h l = absurd (omega arith)
  three-in (a ∷ b ∷ []) h l = absurd (omega arith)
  three-in (a ∷ b ∷ c ∷ []) h l = rw (and-true (named page_read_row))
  three-in (a ∷ b ∷ c ∷ d ∷ ns) h l = absurd (omega arith)

  pub four-in : (ns : List ℕ) → 4 ≤ length ns → length ns < 5 →
      Says ns (cond (named page_write_row && ltb (fourth ns) (2 ^ 32))
      (Some (calls.PageWrite (first ns) (second ns) (third ns) (fourth ns))) None)
  unfolding call_in table
  four-in [] h l = absurd (omega arith)
  four-in (a ∷ []) h l = absurd (omega arith)
  four-in (a ∷ b ∷ []) h l = absurd (omega arith)
  four-in (a ∷ b ∷ c ∷ []) h l = absurd (omega arith)
  four-in (a ∷ b ∷ c ∷ d ∷ []) h l = refl
  four-in (a ∷ b ∷ c ∷ d ∷ e ∷ ns) h l = absurd (omega arith)

  pub five-in : (ns : List ℕ) → 5 ≤ length ns → length ns < 6 →
      Says ns (cond (named register_row)
      (Some (calls.Register (first ns) (second ns) (third ns) (fourth ns) (fifth ns)))
      (cond (named move_row)
      (Some (calls.Move (first ns) (second ns) (third ns) (fourth ns) (fifth ns))) None))
  unfolding call_in table
  five-in [] h l = absurd (omega arith)
  five-in (a ∷ []) h l = absurd (omega arith)
  five-in (a ∷ b ∷ []) h l = absurd (omega arith)
  five-in (a ∷ b ∷ c ∷ []) h l = absurd (omega arith)
  five-in (a ∷ b ∷ c ∷ d ∷ []) h l = absurd (omega arith)
  five-in (a ∷ b ∷ c ∷ d ∷ e ∷ []) h l = rw (and-true (named register_row), and-true (named move_row))
  five-in (a ∷ b ∷ c ∷ d ∷ e ∷ f ∷ ns) h l = absurd (omega arith)

-- ---- a line

pub long-line : (l : List ℕ) → line_size < length l → None ≡ line_of l
unfolding line_of
long-line l h = rw (not-and _ (are_numbers (texts_of l)) (lt-leb (length l) line_size h))

module _ (l : List ℕ) where
  abbrev texts : List (List ℕ)
  texts = texts_of l

  line-bad : are_numbers texts ≡ false → line_of l ≡ None
  unfolding line_of
  line-bad e = rw (and-not (leb (length l) line_size) (are_numbers texts) e)

  -- a field that is no number, or too many of them
  pub line-none : length l ≤ line_size → None ≡ numbers_in texts → None ≡ line_of l
  unfolding line_of
  line-none short e =
      tested (are_numbers texts) (λ t. good t (dec_lt most_numbers (length texts))) (λ f. sym (line-bad f))
    where
      good : are_numbers texts ≡ true → Dec (most_numbers < length texts) → None ≡ line_of l
      good t (yes lt) =
          let many =
          many-unreadable (name_of l) (numbers_of texts) (omega (arith, lt, length-numbers texts)) in
          rw (le-leb (length l) line_size short, t, many)
      good t (no ge) = absurd (none-some _ (e ∙ in-few texts t (omega (arith, ge))))

  pub line-some : (ns : List ℕ) → length l ≤ line_size → Some ns ≡ numbers_in texts →
      call_in table (name_of l) ns ≡ line_of l
  unfolding line_of
  line-some ns short e =
      tested (are_numbers texts) (λ t. good t (dec_lt most_numbers (length texts)))
      (λ f. absurd (none-some ns (sym (e ∙ in-bad texts f))))
    where
      good : are_numbers texts ≡ true → Dec (most_numbers < length texts) →
          call_in table (name_of l) ns ≡ line_of l
      good t (yes lt) = absurd (none-some ns (sym (e ∙ in-many texts lt)))
      good t (no ge) =
          let same = same_Some ns (numbers_of texts) (e ∙ in-few texts t (omega (arith, ge))) in
          rw (le-leb (length l) line_size short, t, same)
