-- Bytes parted at the first byte b: the part before it, then the parts behind it. No contract cites this
-- file. Assumes nothing.
--   parts_from b p xs   all parts of xs, if p stands before xs
--   parts_after b l k   the parts that stand behind the byte at place k of l: none if there is no such byte
--   parts_first         the part up to the first byte b, and the parts behind it
use Prim.Native.Nat.{ℕ, zero, suc}
use mathlib.Core.Path.{◌≡◌, sym, ap, ◌∙◌}
use mathlib.Core.Bool.{Bool, true, false, cond}
use mathlib.Core.List.{List, [], ◌∷◌, ◌++◌, append-nil, append_assoc}
use lib.Dec.{eqb, ltb, leb-suc-suc, leb-zero}
use lib.ListN.{length, take, drop}
use Rattle.record_lines.specs.Bytes.{index_of, index_after}
use Rattle.record_lines.specs.Parted.{ended_by, rest_by}

abbrev pub parts_from : ℕ → List ℕ → List ℕ → List (List ℕ)
parts_from b p xs = ended_by b p xs ++ (rest_by b p xs ∷ [])

abbrev pub parts_after : ℕ → List ℕ → ℕ → List (List ℕ)
parts_after b l k = cond (ltb k (length l)) (parts_from b [] (drop (suc k) l)) []

module _ (b : ℕ) where
  -- at a byte x, which is the first byte b if t
  first-at : (p : List ℕ) (x : ℕ) (xs : List ℕ) (t : Bool) →
      ((q : List ℕ) → parts_from b q xs ≡ (q ++ take (index_of b xs) xs) ∷ parts_after b xs (index_of b xs)) →
      cond t (p ∷ ended_by b [] xs) (ended_by b (p ++ (x ∷ [])) xs)
      ++ (cond t (rest_by b [] xs) (rest_by b (p ++ (x ∷ [])) xs) ∷ [])
      ≡ (p ++ take (index_after t (index_of b xs)) (x ∷ xs))
      ∷ parts_after b (x ∷ xs) (index_after t (index_of b xs))
  unfolding index_after
  first-at p x xs true more =
      ap (λ (q : List ℕ). q ∷ parts_from b [] xs) (sym (append-nil p))
      ∙ ap (λ (t : Bool). (p ++ []) ∷ cond t (parts_from b [] xs) [])
      (sym (leb-suc-suc zero (length xs) ∙ leb-zero (length xs)))
  first-at p x xs false more =
      let k : ℕ = index_of b xs in
      more (p ++ (x ∷ []))
      ∙ ap (λ (q : List ℕ). q ∷ parts_after b xs k) (append_assoc p (x ∷ []) (take k xs))
      ∙ ap (λ (t : Bool). (p ++ take (suc k) (x ∷ xs)) ∷ cond t (parts_from b [] (drop (suc k) xs)) [])
      (sym (leb-suc-suc (suc k) (length xs)))

  pub parts_first : (xs p : List ℕ) →
      parts_from b p xs ≡ (p ++ take (index_of b xs) xs) ∷ parts_after b xs (index_of b xs)
  unfolding ended_by rest_by index_of
  parts_first [] p = ap (λ (q : List ℕ). q ∷ []) (sym (append-nil p))
  parts_first (x ∷ xs) p = first-at p x xs (eqb x b) (parts_first xs)
