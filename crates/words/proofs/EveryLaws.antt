-- Laws of specs/Every.antt. No contract cites this file. Assumes nothing.
use Prim.Native.Nat.{ℕ, zero, suc, ◌+◌, ◌-◌, ◌≤◌, ◌<◌}
use mathlib.Core.Path.{◌≡◌, refl, sym, ap, ◌∙◌}
use mathlib.Core.Bool.{Bool, true, false, ◌&&◌, and-true}
use native.Mathlib.Nat.{zero-add, add-zero, suc-add}
use native.Mathlib.Decide.{ℕ_discrete}
use native.Mathlib.Numerals.{add-one}
use native.Mathlib.Omega.{arith}
use Rattle.words.proofs.TestsLaws.{same_truth, and_first, and_second, and_both, from_next}
use Rattle.words.specs.Every.{every}

pub and_assoc : (a b c : Bool) → (a && b && c) ≡ (a && (b && c))
and_assoc true b c = refl
and_assoc false b c = refl

module _ (p : ℕ → Bool) where
  -- a pass that has b so far tests i and goes on
  pub every-step : (b : Bool) (i n : ℕ) → i < n
      → (b && p i && every p (i + 1) (n - (i + 1))) ≡ (b && every p i (n - i))
  unfolding every
  every-step b i n h =
      let left : n - i ≡ suc (n - (i + 1)) = omega arith in
      rw (left, add-one) (and_assoc b (p i) (every p (suc i) (n - suc i)))

  -- at the end of its stretch it has b
  pub every-done : (b : Bool) (i n : ℕ) → n ≤ i → (b && every p i (n - i)) ≡ b
  unfolding every
  every-done true i n h = let none : n - i ≡ 0 = omega arith in rw none
  every-done false i n h = refl

  -- what holds of every number holds of each
  pub every-each : (i n : ℕ) → every p i n ≡ true → (j : ℕ) → i ≤ j → j < i + n → p j ≡ true
  unfolding every
  every-each i zero e j l h = absurd (omega arith)
  every-each i (suc n) e j l h =
      from_next (λ k. k < i + suc n → p k ≡ true) i (λ q. and_first (p i) (every p (suc i) n) e)
      (λ k m q. every-each (suc i) n (and_second (p i) (every p (suc i) n) e) k m (omega arith)) j l h

  -- and the other way
  pub every_of : (i n : ℕ) → ((j : ℕ) → i ≤ j → j < i + n → p j ≡ true) → every p i n ≡ true
  unfolding every
  every_of i zero f = refl
  every_of i (suc n) f =
      and_both (p i) (every p (suc i) n) (f i (omega arith) (omega arith))
      (every_of (suc i) n (λ j l h. f j (omega arith) (omega arith)))

  -- a stretch is tested in two parts
  pub every-parts : (i n m : ℕ) → every p i (n + m) ≡ (every p i n && every p (i + n) m)
  unfolding every
  every-parts i zero m = simp (zero-add, add-zero)
  every-parts i (suc n) m =
      simp suc-add (ap (λ (b : Bool). p i && b) (every-parts (suc i) n m
      ∙ (let e : suc i + n ≡ i + suc n = omega arith in ap (λ (k : ℕ). every p (suc i) n && every p k m) e))
      ∙ sym (and_assoc (p i) (every p (suc i) n) (every p (i + suc n) m)))

module _ (p q : ℕ → Bool) where
  pub every-both : (i n : ℕ) → (every p i n && every q i n) ≡ every (λ j. p j && q j) i n
  every-both i n = same_truth (every p i n && every q i n) (every (λ j. p j && q j) i n)
      (λ e. every_of (λ j. p j && q j) i n (λ j l h. and_both (p j) (q j)
      (every-each p i n (and_first (every p i n) (every q i n) e) j l h)
      (every-each q i n (and_second (every p i n) (every q i n) e) j l h)))
      (λ e. and_both (every p i n) (every q i n)
      (every_of p i n (λ j l h. and_first (p j) (q j) (every-each (λ j. p j && q j) i n e j l h)))
      (every_of q i n (λ j l h. and_second (p j) (q j) (every-each (λ j. p j && q j) i n e j l h))))

  pub every-same : (i n : ℕ) → ((j : ℕ) → i ≤ j → j < i + n → p j ≡ q j) → every p i n ≡ every q i n
  every-same i n f = same_truth (every p i n) (every q i n)
      (λ e. every_of q i n (λ j l h. sym (f j l h) ∙ every-each p i n e j l h))
      (λ e. every_of p i n (λ j l h. f j l h ∙ every-each q i n e j l h))

module _ (p : ℕ → Bool) where
  pub every_more : (i n : ℕ) → every p i (n + 1) ≡ (every p i n && p (i + n))
  every_more i n = same_truth (every p i (n + 1)) (every p i n && p (i + n))
      (λ e. and_both (every p i n) (p (i + n))
      (every_of p i n (λ j l h. every-each p i (n + 1) e j l (omega arith)))
      (every-each p i (n + 1) e (i + n) (omega arith) (omega arith)))
      (λ e. every_of p i (n + 1) (λ j l h. at e j l h (ℕ_discrete j (i + n))))
    where
      at : (every p i n && p (i + n)) ≡ true → (j : ℕ) → i ≤ j → j < i + (n + 1) → Dec (j ≡ i + n)
          → p j ≡ true
      at e j l h (yes s) = rw s (and_second (every p i n) (p (i + n)) e)
      at e j l h (no d) = every-each p i n (and_first (every p i n) (p (i + n)) e) j l (omega arith)

  pub every_first : (n : ℕ) → every p 0 (n + 1) ≡ (p 0 && every p 1 n)
  unfolding every
  every_first n = let e : n + 1 ≡ suc n = omega arith in rw e

  pub every-none : (i : ℕ) → every p i 0 ≡ true
  unfolding every
  every-none i = refl

  pub every_one : (i : ℕ) → p i ≡ every p i 1
  unfolding every
  every_one i = sym (and-true (p i))
