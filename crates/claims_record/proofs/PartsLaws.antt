-- Bytes parted by a byte, in both directions: the parts, put together, are the bytes, no part has the
-- byte, and what is put together of such parts is parted into them. No axioms.
--   Lacks b t      no byte of t is b
--   glued b ls r   the parts ls, each with b behind it, and then r
use Prim.Native.Nat.{ℕ, zero, suc, ◌<◌}
use mathlib.Core.Path.{◌≡◌, refl, sym, ap, ◌∙◌}
use mathlib.Core.Bool.{Bool, true, false, cond}
use mathlib.Core.Logic.{◌≢◌}
use mathlib.Core.List.{List, [], ◌∷◌, ◌++◌, append-nil}
use native.Mathlib.Omega.{arith}
use borrow.Author.Tests.{ne_eqb, eq-eqb, eqb-false, eqb-true}
use lib.Dec.{eqb}
use lib.ListN.{length, get_or}
use lib.Seq.{append_snoc}
use Rattle.record_lines.specs.Parted.{ended_by, rest_by}

module _ (b : ℕ) where
  abbrev pub Lacks : List ℕ → Type 0
  Lacks t = (i : ℕ) → i < length t → get_or t i 0 ≢ b

  abbrev pub AllLack : List (List ℕ) → Type 0
  AllLack [] = Unit {0}
  AllLack (t ∷ ts) = Lacks t × AllLack ts

  pub lacks-none : Lacks []
  lacks-none i h = absurd (omega (arith, h))

  pub lacks-head : (x : ℕ) (t : List ℕ) → Lacks (x ∷ t) → eqb x b ≡ false
  lacks-head x t n = ne_eqb x b (n 0 (omega arith))

  pub lacks-tail : (x : ℕ) (t : List ℕ) → Lacks (x ∷ t) → Lacks t
  lacks-tail x t n i h = n (suc i) (omega (arith, h))

  pub lacks-cons : (x : ℕ) (t : List ℕ) → x ≢ b → Lacks t → Lacks (x ∷ t)
  lacks-cons x t d n zero h = d
  lacks-cons x t d n (suc i) h = n i (omega (arith, h))

  pub lacks-append : (s t : List ℕ) → Lacks s → Lacks t → Lacks (s ++ t)
  lacks-append [] t m n = n
  lacks-append (x ∷ s) t m n =
      lacks-cons x (s ++ t) (m 0 (omega arith)) (lacks-append s t (lacks-tail x s m) n)

  -- ---- parts that are put together

  -- bytes that lack b end nothing
  pub ended-lacks : (t ys p : List ℕ) → Lacks t → ended_by b p (t ++ ys) ≡ ended_by b (p ++ t) ys
  unfolding ended_by
  ended-lacks [] ys p n = ap (λ (q : List ℕ). ended_by b q ys) (sym (append-nil p))
  ended-lacks (x ∷ t) ys p n =
      rw (lacks-head x t n)
      (ended-lacks t ys (p ++ (x ∷ [])) (lacks-tail x t n)
      ∙ ap (λ (q : List ℕ). ended_by b q ys) (append_snoc p x t))

  pub rest-lacks : (t ys p : List ℕ) → Lacks t → rest_by b p (t ++ ys) ≡ rest_by b (p ++ t) ys
  unfolding rest_by
  rest-lacks [] ys p n = ap (λ (q : List ℕ). rest_by b q ys) (sym (append-nil p))
  rest-lacks (x ∷ t) ys p n =
      rw (lacks-head x t n)
      (rest-lacks t ys (p ++ (x ∷ [])) (lacks-tail x t n)
      ∙ ap (λ (q : List ℕ). rest_by b q ys) (append_snoc p x t))

  pub ended-part : (t ys p : List ℕ) → Lacks t → ended_by b p (t ++ (b ∷ ys)) ≡ (p ++ t) ∷ ended_by b [] ys
  unfolding ended_by
  ended-part t ys p n = ended-lacks t (b ∷ ys) p n ∙ rw (eq-eqb b b refl)

  pub rest_part : (t ys p : List ℕ) → Lacks t → rest_by b p (t ++ (b ∷ ys)) ≡ rest_by b [] ys
  unfolding rest_by
  rest_part t ys p n = rest-lacks t (b ∷ ys) p n ∙ rw (eq-eqb b b refl)

  pub ended-only : (t p : List ℕ) → Lacks t → ended_by b p t ≡ []
  unfolding ended_by
  ended-only t p n = ap (ended_by b p) (sym (append-nil t)) ∙ ended-lacks t [] p n

  pub rest-only : (t p : List ℕ) → Lacks t → rest_by b p t ≡ p ++ t
  unfolding rest_by
  rest-only t p n = ap (rest_by b p) (sym (append-nil t)) ∙ rest-lacks t [] p n

  -- ---- bytes that are parted

  abbrev pub glued : List (List ℕ) → List ℕ → List ℕ
  glued [] r = r
  glued (l ∷ ls) r = l ++ (b ∷ glued ls r)

  pub glued-parts : (xs p : List ℕ) → glued (ended_by b p xs) (rest_by b p xs) ≡ p ++ xs
  unfolding ended_by rest_by
  glued-parts [] p = sym (append-nil p)
  glued-parts (x ∷ xs) p = at (eqb x b) refl (glued-parts xs []) (glued-parts xs (p ++ (x ∷ [])))
    where
      at : (t : Bool) → eqb x b ≡ t → glued (ended_by b [] xs) (rest_by b [] xs) ≡ xs →
          glued (ended_by b (p ++ (x ∷ [])) xs) (rest_by b (p ++ (x ∷ [])) xs) ≡ (p ++ (x ∷ [])) ++ xs →
          glued (cond t (p ∷ ended_by b [] xs) (ended_by b (p ++ (x ∷ [])) xs))
          (cond t (rest_by b [] xs) (rest_by b (p ++ (x ∷ [])) xs))
          ≡ p ++ (x ∷ xs)
      at true e all more =
          ap (λ (ys : List ℕ). p ++ (b ∷ ys)) all
          ∙ ap (λ (y : ℕ). p ++ (y ∷ xs)) (sym (eqb-true x b e))
      at false e all more = more ∙ append_snoc p x xs

  pub parts-lack : (xs p : List ℕ) → Lacks p → AllLack (ended_by b p xs) × Lacks (rest_by b p xs)
  unfolding ended_by rest_by
  parts-lack [] p n = (tt, n)
  parts-lack (x ∷ xs) p n =
      at (eqb x b) refl (parts-lack xs [] lacks-none)
      (λ d. parts-lack xs (p ++ (x ∷ [])) (lacks-append p (x ∷ []) n (lacks-cons x [] d lacks-none)))
    where
      at : (t : Bool) → eqb x b ≡ t → AllLack (ended_by b [] xs) × Lacks (rest_by b [] xs) →
          (x ≢ b → AllLack (ended_by b (p ++ (x ∷ [])) xs) × Lacks (rest_by b (p ++ (x ∷ [])) xs)) →
          AllLack (cond t (p ∷ ended_by b [] xs) (ended_by b (p ++ (x ∷ [])) xs))
          × Lacks (cond t (rest_by b [] xs) (rest_by b (p ++ (x ∷ [])) xs))
      at true e all more = ((n, all.0), all.1)
      at false e all more = more (eqb-false x b e)

  -- parts that lack b, put together, are parted again
  pub ended-glued : (ls : List (List ℕ)) (r : List ℕ) → AllLack ls → Lacks r → ended_by b [] (glued ls r) ≡ ls
  ended-glued [] r n m = ended-only r [] m
  ended-glued (l ∷ ls) r n m =
      ended-part l (glued ls r) [] n.0 ∙ ap (λ (ks : List (List ℕ)). l ∷ ks) (ended-glued ls r n.1 m)

  pub rest-glued : (ls : List (List ℕ)) (r : List ℕ) → AllLack ls → Lacks r → rest_by b [] (glued ls r) ≡ r
  rest-glued [] r n m = rest-only r [] m
  rest-glued (l ∷ ls) r n m = rest_part l (glued ls r) [] n.0 ∙ rest-glued ls r n.1 m
