-- A byte that is sought: the place that the library finds is where it stands first. No contract cites this
-- file. Assumes nothing.
use Prim.Native.Nat.{ℕ, ◌+◌}
use mathlib.Core.Path.{◌≡◌, refl, sym, ap, ◌∙◌}
use mathlib.Core.Bool.{Bool, true, false, cond}
use mathlib.Core.List.{List}
use native.Mathlib.Omega.{arith}
use borrow.Author.Tests.{ltb-false}
use lib.Dec.{eqb, ltb}
use lib.ListN.{length}
use Rattle.std.specs.List.{position_or_len}
use Rattle.std.specs.Option.{unwrap_or}
use Rattle.std.specs.Prelude.{Option, Some, None}
use Rattle.std.proofs.lemmas.List.Recursion.{is_position_or_len}
use Rattle.words.proofs.TestsLaws.{tested}
use Rattle.record_lines.specs.Bytes.{index_of, index_after}
use Rattle.record_lines.proofs.LinesLaws.{first-le}

module _ (b : ℕ) where
  abbrev is_byte : ℕ → Bool
  is_byte x = eqb x b

  after-cond : (t : Bool) (k : ℕ) → index_after t k ≡ cond t 0 (1 + k)
  unfolding index_after
  after-cond true k = refl
  after-cond false k = omega arith

  index-position : (l : List ℕ) → index_of b l ≡ position_or_len is_byte l
  unfolding index_of
  index-position l =
      is_position_or_len (index_of b) is_byte refl (λ x xs. after-cond (eqb x b) (index_of b xs)) l

  pub found_at : (l : List ℕ) (r : Option ℕ) →
      r ≡ cond (ltb (position_or_len is_byte l) (length l)) (Some (position_or_len is_byte l)) None →
      unwrap_or r (length l) ≡ index_of b l
  found_at l r e =
      tested (ltb (position_or_len is_byte l) (length l)) (λ t. rw (e, t) (sym (index-position l)))
      (λ f. rw (e, f) (omega (arith, ltb-false _ _ f, index-position l, first-le b l)))

  pub found_in : (l : List ℕ) (r : Option ℕ) (i : ℕ) →
      r ≡ cond (ltb (position_or_len is_byte l) (length l)) (Some (position_or_len is_byte l)) None →
      r ≡ Some i → i ≡ index_of b l
  found_in l r i e is = ap (λ (o : Option ℕ). unwrap_or o (length l)) (sym is) ∙ found_at l r e

  pub found_nowhere : (l : List ℕ) (r : Option ℕ) →
      r ≡ cond (ltb (position_or_len is_byte l) (length l)) (Some (position_or_len is_byte l)) None →
      r ≡ None → length l ≡ index_of b l
  found_nowhere l r e is = ap (λ (o : Option ℕ). unwrap_or o (length l)) (sym is) ∙ found_at l r e
