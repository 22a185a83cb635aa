-- Bytes that come in two pieces are parted as the whole is. Assumes nothing.
use Prim.Native.Nat.{ℕ, suc, ◌≤◌, ◌<◌}
use mathlib.Core.Path.{◌≡◌, refl, sym, ap, ◌∙◌}
use mathlib.Core.Bool.{Bool, true, false, cond}
use mathlib.Core.List.{List, [], ◌∷◌, ◌++◌}
use native.Mathlib.Omega.{arith}
use lib.Dec.{eqb}
use lib.ListN.{length, get_or, take, drop, take-append-drop}
use lib.Seq.{slice, take-suc, take-take, drop-append-le, length-take-le}
use Rattle.record_lines.specs.Parted.{ended_by, rest_by}

module _ (b : ℕ) where
  ended_at : (p : List ℕ) (x : ℕ) (xs ys : List ℕ) (t : Bool) →
      ((q : List ℕ) → ended_by b q (xs ++ ys) ≡ ended_by b q xs ++ ended_by b (rest_by b q xs) ys) →
      cond t (p ∷ ended_by b [] (xs ++ ys)) (ended_by b (p ++ (x ∷ [])) (xs ++ ys))
      ≡ cond t (p ∷ ended_by b [] xs) (ended_by b (p ++ (x ∷ [])) xs)
      ++ ended_by b (cond t (rest_by b [] xs) (rest_by b (p ++ (x ∷ [])) xs)) ys
  ended_at p x xs ys true more = ap (λ (ps : List (List ℕ)). p ∷ ps) (more [])
  ended_at p x xs ys false more = more (p ++ (x ∷ []))

  pub ended-append : (xs ys p : List ℕ) →
      ended_by b p (xs ++ ys) ≡ ended_by b p xs ++ ended_by b (rest_by b p xs) ys
  unfolding ended_by rest_by
  ended-append [] ys p = refl
  ended-append (x ∷ xs) ys p = ended_at p x xs ys (eqb x b) (ended-append xs ys)

  rest_at : (p : List ℕ) (x : ℕ) (xs ys : List ℕ) (t : Bool) →
      ((q : List ℕ) → rest_by b q (xs ++ ys) ≡ rest_by b (rest_by b q xs) ys) →
      cond t (rest_by b [] (xs ++ ys)) (rest_by b (p ++ (x ∷ [])) (xs ++ ys))
      ≡ rest_by b (cond t (rest_by b [] xs) (rest_by b (p ++ (x ∷ [])) xs)) ys
  rest_at p x xs ys true more = more []
  rest_at p x xs ys false more = more (p ++ (x ∷ []))

  pub rest-append : (xs ys p : List ℕ) → rest_by b p (xs ++ ys) ≡ rest_by b (rest_by b p xs) ys
  unfolding rest_by
  rest-append [] ys p = refl
  rest-append (x ∷ xs) ys p = rest_at p x xs ys (eqb x b) (rest-append xs ys)

  -- one byte, the end of a part
  pub ended-end : (p : List ℕ) (x : ℕ) → eqb x b ≡ true → ended_by b p (x ∷ []) ≡ p ∷ []
  unfolding ended_by
  ended-end p x e = rw e

  pub rest_end : (p : List ℕ) (x : ℕ) → eqb x b ≡ true → rest_by b p (x ∷ []) ≡ []
  unfolding rest_by
  rest_end p x e = rw e

  -- no more parts than bytes
  pub ended-le : (xs p : List ℕ) → length (ended_by b p xs) ≤ length xs
  unfolding ended_by
  ended-le [] p = omega arith
  ended-le (x ∷ xs) p = at (eqb x b) (ended-le xs [], ended-le xs (p ++ (x ∷ [])))
    where
      at : (t : Bool) →
          (length (ended_by b [] xs) ≤ length xs) × (length (ended_by b (p ++ (x ∷ [])) xs) ≤ length xs) →
          length (cond t (p ∷ ended_by b [] xs) (ended_by b (p ++ (x ∷ [])) xs)) ≤ suc (length xs)
      at true h = omega (arith, h.0)
      at false h = omega (arith, h.1)

-- a stretch with one byte more
pub slice-more : (xs : List ℕ) (f e : ℕ) → f ≤ e → e < length xs →
    slice f (suc e) xs ≡ slice f e xs ++ (get_or xs e 0 ∷ [])
slice-more xs f e le lt =
    ap (drop f) (take-suc xs e 0 lt)
    ∙ drop-append-le f (take e xs) (get_or xs e 0 ∷ [])
    (simp (length-take-le e xs (omega (arith, lt))) (omega (arith, le)))

-- two stretches that meet
pub slice-both : (xs : List ℕ) (f m e : ℕ) → f ≤ m → m ≤ e → e ≤ length xs →
    slice f e xs ≡ slice f m xs ++ slice m e xs
slice-both xs f m e le le' end =
    let all : take m xs ++ slice m e xs ≡ take e xs =
    ap (λ (ys : List ℕ). ys ++ slice m e xs) (sym (take-take m e xs le')) ∙ take-append-drop m (take e xs) in
    ap (drop f) (sym all)
    ∙ drop-append-le f (take m xs) (slice m e xs)
    (simp (length-take-le m xs (omega (arith, le', end))) (omega (arith, le)))
