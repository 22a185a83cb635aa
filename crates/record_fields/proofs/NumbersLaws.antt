-- The numbers of a line, read one after the other. Assumes nothing.
use Prim.Native.Nat.{ℕ, suc, ◌+◌, ◌≤◌, ◌<◌}
use mathlib.Core.Path.{◌≡◌, sym, ap, ◌∙◌}
use mathlib.Core.Bool.{Bool, true, false, cond, ◌&&◌}
use mathlib.Core.List.{List, [], ◌∷◌, ◌++◌, map, append-nil}
use native.Mathlib.Omega.{arith}
use borrow.Author.Tests.{le-ltb}
use lib.ListN.{length, take, drop, length-append}
use lib.Seq.{append_snoc}
use Rattle.std.specs.Prelude.{Some, None}
use Rattle.record_lines.specs.Bytes.{index_of}
use Rattle.record_numbers.specs.Decimal.{is_number, value_of}
use Rattle.record_fields.specs.Fields.{tab, fields_of, texts_of, are_numbers, numbers_of, numbers_in}
use Rattle.record_fields.specs.Fields.{most_numbers}
use Rattle.record_fields.proofs.FieldsLaws.{texts_after, texts-first, texts-next}
use Rattle.record_fields.proofs.CountLaws.{in-few, in-bad, in-many}

-- ns are the numbers of the fields of l up to place k
pub record NumbersTo (l ns : List ℕ) (k : ℕ) : Type 0 where
  pub place : k ≤ length l
  pub few : length ns ≤ most_numbers
  pub are : are_numbers (texts_of l) ≡ are_numbers (texts_after l k)
  pub many : length (texts_of l) ≡ length ns + length (texts_after l k)
  pub read : numbers_of (texts_of l) ≡ ns ++ numbers_of (texts_after l k)

pub numbers-start : (l : List ℕ) (k : ℕ) → k ≡ index_of tab l → k ≤ length l → NumbersTo l [] k
numbers-start l k e le =
    let same : texts_of l ≡ texts_after l k = texts-first l ∙ ap (texts_after l) (sym e) in
    record {
      place = le;
      few = omega arith;
      are = ap are_numbers same;
      many = omega (arith, ap length same);
      read = ap numbers_of same;
    }

-- the field behind the byte at place k of l
abbrev pub text_at : List ℕ → ℕ → List ℕ
text_at l k = let xs = drop (suc k) l in take (index_of tab xs) xs

module _ (l ns : List ℕ) (k : ℕ) (so_far : NumbersTo l ns k) where
  -- at the end of the line
  module _ (end : length l ≤ k) where
    none : texts_after l k ≡ []
    none = ap (λ (t : Bool). cond t (fields_of (drop (suc k) l)) []) (le-ltb k (length l) end)

    are_all : are_numbers (texts_of l) ≡ true
    unfolding are_numbers
    are_all = so_far.are ∙ ap are_numbers none

    numbers_all : numbers_of (texts_of l) ≡ ns
    unfolding numbers_of
    numbers_all =
        so_far.read ∙ ap (λ (ts : List (List ℕ)). ns ++ map value_of ts) none ∙ append-nil ns

    pub numbers-end : Some ns ≡ numbers_in (texts_of l)
    numbers-end =
        let few : length (texts_of l) ≤ most_numbers =
        omega (arith, so_far.many, ap length none, so_far.few) in
        ap Some (sym numbers_all) ∙ sym (in-few (texts_of l) are_all few)

  -- at a tab
  module _ (more : k < length l) where
    abbrev next : ℕ
    next = suc k + index_of tab (drop (suc k) l)

    one_more : texts_after l k ≡ text_at l k ∷ texts_after l next
    one_more = texts-next l k more

    -- too many numbers
    pub numbers-many : most_numbers ≤ length ns → None ≡ numbers_in (texts_of l)
    numbers-many le = sym (in-many (texts_of l) (omega (arith, so_far.many, ap length one_more, le)))

    -- the fields are numbers if the next one is and those behind it are
    are-next : (t : Bool) → is_number (text_at l k) ≡ t →
        are_numbers (texts_of l) ≡ (t && are_numbers (texts_after l next))
    unfolding are_numbers
    are-next t e =
        so_far.are ∙ ap are_numbers one_more ∙ ap (λ (u : Bool). u && are_numbers (texts_after l next)) e

    -- a field that is no number
    pub numbers-bad : is_number (text_at l k) ≡ false → None ≡ numbers_in (texts_of l)
    numbers-bad e = sym (in-bad (texts_of l) (are-next false e))

    -- a number more
    pub numbers_more : (v : ℕ) → length ns < most_numbers → next ≤ length l → is_number (text_at l k) ≡ true →
        v ≡ value_of (text_at l k) → NumbersTo l (ns ++ v ∷ []) next
    unfolding numbers_of
    numbers_more v lt le e same =
        let others : List ℕ = map value_of (texts_after l next) in
        record {
          place = le;
          few = omega (arith, length-append ns (v ∷ []), lt);
          are = are-next true e;
          many = omega (arith, so_far.many, ap length one_more, length-append ns (v ∷ []));
          read = so_far.read ∙ ap (λ (ts : List (List ℕ)). ns ++ map value_of ts) one_more
              ∙ ap (λ (w : ℕ). ns ++ w ∷ others) (sym same) ∙ sym (append_snoc ns v others);
        }
