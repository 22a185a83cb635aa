-- A stretch of a list, n elements from a on: what stands in it, its length, and what it is after one element
-- was stored: inside it, before it, behind it. No contract cites this file. Assumes nothing.
use Prim.Native.Nat.{ℕ, ◌+◌, ◌-◌, ◌≤◌, ◌<◌}
use mathlib.Core.Path.{◌≡◌, ap, ◌∙◌}
use mathlib.Core.List.{List}
use native.Mathlib.Omega.{arith}
use lib.ListN.{length, get_or, take, drop, set, length-take, length-drop}
use lib.Seq.{take-set-lt, take-set-le, drop-set-add, drop-set-lt, get_or-take, get_or-drop}

module _ (l : List ℕ) (a n : ℕ) where
  pub segment-in : (i v : ℕ) → i < n → take n (drop a (set l (a + i) v)) ≡ set (take n (drop a l)) i v
  segment-in i v h = ap (take n) (drop-set-add a l i v) ∙ take-set-lt n (drop a l) i v h

  pub segment-before : (p v : ℕ) → p < a → take n (drop a (set l p v)) ≡ take n (drop a l)
  segment-before p v h = ap (take n) (drop-set-lt a l p v h)

  pub segment-after : (p v : ℕ) → a + n ≤ p → take n (drop a (set l p v)) ≡ take n (drop a l)
  segment-after p v h =
      let place : p ≡ a + (p - a) = omega arith in
      ap (λ (q : ℕ). take n (drop a (set l q v))) place ∙ ap (take n) (drop-set-add a l (p - a) v)
      ∙ take-set-le n (drop a l) (p - a) v (omega arith)

  pub segment-at : (i : ℕ) → i < n → get_or (take n (drop a l)) i 0 ≡ get_or l (a + i) 0
  segment-at i h = get_or-take n (drop a l) i 0 h ∙ get_or-drop a l i 0

  pub segment-long : a + n ≤ length l → length (take n (drop a l)) ≡ n
  segment-long h = simp (length-take, length-drop) (omega arith)
