-- What is kept of a line that grows, and a cut at the first end of a line. Assumes nothing.
use Prim.Native.Nat.{ℕ, suc, ◌+◌, ◌-◌, ◌≤◌, ◌<◌, min}
use mathlib.Core.Path.{◌≡◌, refl, sym, ap, ◌∙◌}
use mathlib.Core.Bool.{Bool, true, false}
use mathlib.Core.List.{List, [], ◌∷◌, ◌++◌, append-nil, append_assoc}
use native.Mathlib.Omega.{arith}
use native.Mathlib.Decide.{dec_lt}
use lib.Dec.{eqb}
use lib.ListN.{length, get_or, take, drop, length-take, length-drop, length-append}
use lib.Seq.{slice, take_all, take-append-le, take-append-add, take-take, length-take-le}
use lib.Seq.{take-add, drop_at, get_or-drop}
use borrow.Author.Tests.{eqb-true}
use Rattle.record_lines.specs.Bytes.{index_of, index_after}
use Rattle.record_lines.specs.Parted.{ended_by, rest_by}
use Rattle.record_lines.specs.Lines.{line_feed, line_size, line_room, kept, CutAt}

-- a line is kept as what is kept of it is, with the same bytes behind it
pub kept_more : (p q : List ℕ) → kept (kept p ++ q) ≡ kept (p ++ q)
unfolding kept
kept_more p q = at (dec_lt (length p) line_room)
  where
    at : Dec (length p < line_room) → take line_room (take line_room p ++ q) ≡ take line_room (p ++ q)
    at (yes lt) = ap (λ (r : List ℕ). take line_room (r ++ q)) (take_all line_room p (omega (arith, lt)))
    at (no n) =
        take-append-le line_room (take line_room p) q (simp length-take (omega (arith, n)))
        ∙ take-take line_room line_room p (omega arith)
        ∙ sym (take-append-le line_room p q (omega (arith, n)))

-- a line that can be read is kept whole, and of one that is too long enough is kept to tell
pub kept-short : (p : List ℕ) → length p ≤ line_size → kept p ≡ p
unfolding kept
kept-short p h = take_all line_room p (omega (arith, h))

pub kept-long : (p : List ℕ) → line_size < length p → line_size < length (kept p)
unfolding kept
kept-long p h = simp length-take (omega (arith, h))

pub kept-few : (p : List ℕ) → length p ≤ line_room → kept p ≡ p
unfolding kept
kept-few p h = take_all line_room p h

pub kept-none : kept [] ≡ []
unfolding kept
kept-none = refl

pub kept-kept : (p : List ℕ) → kept (kept p) ≡ kept p
unfolding kept
kept-kept p = take-take line_room line_room p (omega arith)

-- ---- up to the first byte b

module _ (b : ℕ) where
  pub first-le : (xs : List ℕ) → index_of b xs ≤ length xs
  unfolding index_of index_after
  first-le [] = omega arith
  first-le (x ∷ xs) = at (eqb x b) (first-le xs)
    where
      at : (t : Bool) → index_of b xs ≤ length xs → index_after t (index_of b xs) ≤ suc (length xs)
      at true h = omega arith
      at false h = omega (arith, h)

  -- there is none before it
  pub first_ended : (xs p : List ℕ) → ended_by b p (take (index_of b xs) xs) ≡ []
  unfolding ended_by index_of index_after
  first_ended [] p = refl
  first_ended (x ∷ xs) p = at (eqb x b) refl (first_ended xs (p ++ (x ∷ [])))
    where
      at : (t : Bool) → eqb x b ≡ t → ended_by b (p ++ (x ∷ [])) (take (index_of b xs) xs) ≡ [] →
          ended_by b p (take (index_after t (index_of b xs)) (x ∷ xs)) ≡ []
      at true e more = refl
      at false e more = rw e more

  pub first_rest : (xs p : List ℕ) → rest_by b p (take (index_of b xs) xs) ≡ p ++ take (index_of b xs) xs
  unfolding rest_by index_of index_after
  first_rest [] p = sym (append-nil p)
  first_rest (x ∷ xs) p = at (eqb x b) refl (first_rest xs (p ++ (x ∷ [])))
    where
      at : (t : Bool) → eqb x b ≡ t →
          rest_by b (p ++ (x ∷ [])) (take (index_of b xs) xs) ≡ (p ++ (x ∷ [])) ++ take (index_of b xs) xs →
          rest_by b p (take (index_after t (index_of b xs)) (x ∷ xs))
          ≡ p ++ take (index_after t (index_of b xs)) (x ∷ xs)
      at true e more = sym (append-nil p)
      at false e more = rw e (more ∙ append_assoc p (x ∷ []) (take (index_of b xs) xs))

  -- and there it is, if there is one
  pub first-there : (xs : List ℕ) → index_of b xs < length xs → get_or xs (index_of b xs) 0 ≡ b
  unfolding index_of index_after
  first-there [] h = absurd (omega (arith, h))
  first-there (x ∷ xs) h = at (eqb x b) refl h (first-there xs)
    where
      at : (t : Bool) → eqb x b ≡ t → index_after t (index_of b xs) < suc (length xs) →
          (index_of b xs < length xs → get_or xs (index_of b xs) 0 ≡ b) →
          get_or (x ∷ xs) (index_after t (index_of b xs)) 0 ≡ b
      at true e h more = eqb-true x b e
      at false e h more = more (omega (arith, h))

-- ---- a cut

-- the first of the first bytes
take_min : (a k : ℕ) (r : List ℕ) → take a (take k r) ≡ take (min k a) r
take_min a k r = at (dec_lt a k)
  where
    at : Dec (a < k) → take a (take k r) ≡ take (min k a) r
    at (yes lt) =
        let least : min k a ≡ a = omega (arith, lt) in
        take-take a k r (omega (arith, lt)) ∙ ap (λ (n : ℕ). take n r) (sym least)
    at (no ge) =
        let least : min k a ≡ k = omega (arith, ge) in
        take_all a (take k r) (simp length-take (omega (arith, ge))) ∙ ap (λ (n : ℕ). take n r) (sym least)

module _ (xs : List ℕ) (f much : ℕ) (le : f ≤ length xs) (found : much ≡ index_of line_feed (drop f xs)) where
  abbrev rest : List ℕ
  rest = drop f xs

  much-le : f + much ≤ length xs
  much-le = omega (arith, found, first-le line_feed rest, length-drop f xs, le)

  -- the bytes up to the end of the line
  first-slice : slice f (f + much) xs ≡ take much rest
  first-slice =
      ap (drop f) (take-add f much xs) ∙ drop_at (take f xs) (take much rest) f (length-take-le f xs le)

  pub cut-stops : f + much < length xs → get_or xs (f + much) 0 ≡ line_feed
  cut-stops h =
      sym (get_or-drop f xs much 0)
      ∙ ap (λ (n : ℕ). get_or rest n 0) found
      ∙ first-there line_feed rest (omega (arith, h, found, length-drop f xs))

  module _ (p : List ℕ) (n : ℕ) (few : length p ≤ line_room) (copied : n ≡ min much (line_room - length p))
      (q : List ℕ) (held : q ≡ p ++ take n rest) where
    held-line : q ≡ kept (p ++ take much rest)
    unfolding kept
    held-line =
        let all : line_room ≡ length p + (line_room - length p) = omega (arith, few) in
        held
        ∙ ap (λ (k : ℕ). p ++ take k rest) copied
        ∙ ap (λ (ys : List ℕ). p ++ ys) (sym (take_min (line_room - length p) much rest))
        ∙ sym (take-append-add p (take much rest) (line_room - length p))
        ∙ ap (λ (k : ℕ). take k (p ++ take much rest)) (sym all)

    pub cut_at : CutAt xs f p (f + much) q
    cut_at =
        let first : take much rest ≡ take (index_of line_feed rest) rest =
        ap (λ (k : ℕ). take k rest) found in
        record {
          start = omega arith;
          end = much-le;
          unended = ap (ended_by line_feed p) (first-slice ∙ first) ∙ first_ended line_feed rest p;
          line = held-line
              ∙ ap (λ (ys : List ℕ). kept (p ++ ys)) first
              ∙ ap kept (sym (ap (rest_by line_feed p) (first-slice ∙ first) ∙ first_rest line_feed rest p));
        }

    pub cut-few : length q ≤ line_room
    cut-few = omega (arith, ap length held, length-append p (take n rest), length-take n rest, copied, few)
