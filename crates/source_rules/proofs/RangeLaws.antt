-- When a sourcecfg or target word is in its range, by its fields. No contract cites this file. Assumes
-- nothing.
use Prim.Native.Nat.{ℕ, ◌+◌, ◌*◌, ◌/◌, ◌%◌, ◌^◌, ◌≤◌, ◌<◌}
use mathlib.Core.Path.{◌≡◌, refl, sym, ap, ◌∙◌}
use mathlib.Core.Bool.{Bool, true, false, not, ◌&&◌, ◌||◌, cond, and-true, and-false, false≢true}
use mathlib.Core.Logic.{◌≢◌, ◌⊎◌, inl, inr, ⊎_elim}
use native.Mathlib.Decide.{ℕ_discrete}
use native.Mathlib.Omega.{arith}
use lib.Bits.{bit_and, bit_or, and_high, and_zero_r}
use lib.Dec.{eqb}
use native.Mathlib.Nat.{mod-eq_of_lt, zero-add}
use lib.Pow.{mod-pow-add}
use borrow.Author.Tests.{eq-eqb, ne_eqb, eqb-true, eqb-false}
use Rattle.words.specs.Parts.{field_of, packed}
use Rattle.words.proofs.PartsLaws.{field_of-is, packed-is}
use Rattle.words.proofs.TestsLaws.{tested, same_truth, and_both}
use Rattle.words_masks.proofs.MasksLaws.{or-none}
use Rattle.source_mode.specs.Mode.{kept_mode}
use Rattle.source_mode.proofs.ModeLaws.{kept-lt, kept_reserved, kept-other}
use Rattle.source_target.specs.Target.{hart_of, guest_of, number_of, kept_target}
use Rattle.source_target.proofs.TargetLaws.{hart_of-is, guest_of-is, number_of-is}
use Rattle.source_target.proofs.TargetLaws.{kept-first, kept-priority, kept-child, kept-machine}

-- ---- a mode

module _ (m : ℕ) where
  low : field_of m 0 3 ≡ m % 8
  low = field_of-is m 0 3 ∙ omega arith

  pub mode-large : 7 < m → eqb m (kept_mode m) ≡ false
  mode-large h = ne_eqb m (kept_mode m) (λ e. omega (arith, kept-lt m))

  reserved : (m ≡ 2) ⊎ (m ≡ 3) → eqb m (kept_mode m) ≡ false
  reserved h =
      let field : (field_of m 0 3 ≡ 2) ⊎ (field_of m 0 3 ≡ 3) =
      ⊎_elim (λ e. inl (omega (arith, low))) (λ e. inr (omega (arith, low))) h in
      ne_eqb m (kept_mode m) (λ e. ⊎_elim (λ a. omega (arith, kept_reserved m field))
      (λ a. omega (arith, kept_reserved m field)) h)

  pub mode-reserved : 2 ≤ m → m < 4 → eqb m (kept_mode m) ≡ false
  mode-reserved l h = at (ℕ_discrete m 2)
    where
      at : Dec (m ≡ 2) → eqb m (kept_mode m) ≡ false
      at (yes e) = reserved (inl e)
      at (no n) = reserved (inr (omega (arith, n)))

  pub mode-legal : m ≤ 7 → m ≢ 2 → m ≢ 3 → eqb m (kept_mode m) ≡ true
  mode-legal h a b =
      eq-eqb m (kept_mode m)
      (omega (arith, low, kept-other m (λ e. a (omega (arith, low))) (λ e. b (omega (arith, low)))))

-- ---- a target

-- a number from its fields: e between the number and the guest index d, c between that and the hart b, a
-- above
unfoldable sum : ℕ → ℕ → ℕ → ℕ → ℕ → ℕ → ℕ
sum a b c d e n = a * 2 ^ 20 + (b * 2 ^ 18 + (c * 2 ^ 14 + (d * 2 ^ 12 + (e * 2 ^ 8 + n))))

four-none : (w x y z : ℕ)
    → eqb (bit_or (bit_or w x) (bit_or y z)) 0 ≡ (eqb w 0 && eqb x 0 && (eqb y 0 && eqb z 0))
four-none w x y z =
    or-none (bit_or w x) (bit_or y z) ∙ (λ k. or-none w x k && or-none y z k)

-- four tests that are all true
all-four : (p q r s : Bool) → (p && q && (r && s)) ≡ true
    → (p ≡ true) × (q ≡ true) × (r ≡ true) × (s ≡ true)
all-four true true true true e = (refl, refl, refl, refl)
all-four true true true false e = absurd (false≢true e)
all-four true true false s e = absurd (false≢true e)
all-four true false r s e = absurd (false≢true e)
all-four false q r s e = absurd (false≢true e)

module _ (a b c d e n : ℕ) where
  abbrev A : ℕ
  A = a * 2 ^ 20

  abbrev C : ℕ
  C = c * 2 ^ 14

  abbrev E : ℕ
  E = e * 2 ^ 8

  -- nothing stray, where the guest index may stand (x is 0) and where it is stray too (x is that)
  rest-stray : (x y : ℕ) → x + y ≡ d * 2 ^ 12
      → eqb (bit_or (bit_or A C) (bit_or E x)) 0 ≡ eqb (sum a b c d e n) (b * 2 ^ 18 + (y + n))
  unfolding sum
  rest-stray x y g =
      four-none A C E x
      ∙ same_truth (eqb A 0 && eqb C 0 && (eqb E 0 && eqb x 0)) (eqb (sum a b c d e n) (b * 2 ^ 18 + (y + n)))
      (λ q. let z = all-four (eqb A 0) (eqb C 0) (eqb E 0) (eqb x 0) q in
      eq-eqb (sum a b c d e n) (b * 2 ^ 18 + (y + n))
      (omega (arith, eqb-true A 0 z.0, eqb-true C 0 z.1, eqb-true E 0 z.2, eqb-true x 0 z.3)))
      (λ q. let s = eqb-true (sum a b c d e n) (b * 2 ^ 18 + (y + n)) q in
      and_both (eqb A 0 && eqb C 0) (eqb E 0 && eqb x 0)
      (and_both (eqb A 0) (eqb C 0) (eq-eqb A 0 (omega arith)) (eq-eqb C 0 (omega arith)))
      (and_both (eqb E 0) (eqb x 0) (eq-eqb E 0 (omega arith)) (eq-eqb x 0 (omega arith))))

unfoldable above : ℕ → ℕ
above t = t / 2 ^ 20 % 2 ^ 12

unfoldable between : ℕ → ℕ
between t = t / 2 ^ 14 % 2 ^ 4

unfoldable below : ℕ → ℕ
below t = t / 2 ^ 8 % 2 ^ 4

-- what the code gathers of a target; g is the guest index where it is stray too, and 0 where it is not
abbrev stray : ℕ → ℕ → ℕ
stray t g =
    bit_or (bit_or (bit_and t 4293918720) (bit_and t 245760)) (bit_or (bit_and t 3840) (bit_and t g))

module _ (t : ℕ) (h : t < 2 ^ 32) where
  fields : t ≡ sum (above t) (hart_of t) (between t) (guest_of t) (below t) (number_of t)
  unfolding sum above between below
  fields =
      sym (mod-eq_of_lt h) ∙ mod-pow-add t 12 20
      ∙ ap (λ (x : ℕ). above t * 2 ^ 20 + x) (mod-pow-add t 2 18
      ∙ ap (λ (x : ℕ). t / 2 ^ 18 % 2 ^ 2 * 2 ^ 18 + x) (mod-pow-add t 4 14
      ∙ ap (λ (x : ℕ). between t * 2 ^ 14 + x) (mod-pow-add t 2 12
      ∙ ap (λ (x : ℕ). t / 2 ^ 12 % 2 ^ 2 * 2 ^ 12 + x) (mod-pow-add t 4 8))))
      ∙ (λ k. above t * 2 ^ 20 + (sym (hart_of-is t) k * 2 ^ 18 + (between t * 2 ^ 14
      + (sym (guest_of-is t) k * 2 ^ 12 + (below t * 2 ^ 8 + sym (number_of-is t) k)))))

  -- what the code gathers, as the test of the kept word
  gathers : (g x y : ℕ) → bit_and t g ≡ x → x + y ≡ guest_of t * 2 ^ 12
      → eqb (stray t g) 0 ≡ eqb t (hart_of t * 2 ^ 18 + (y + number_of t))
  unfolding above between below
  gathers g x y e q =
      (λ k. eqb (bit_or (bit_or (and_high t 12 20 k) (and_high t 4 14 k))
      (bit_or (and_high t 4 8 k) (e k))) 0)
      ∙ rest-stray (above t) (hart_of t) (between t) (guest_of t) (below t) (number_of t) x y q
      ∙ ap (λ (z : ℕ). eqb z (hart_of t * 2 ^ 18 + (y + number_of t))) (sym fields)

  stray-machine : eqb (stray t 12288) 0 ≡ eqb t (packed (hart_of t) 18 (number_of t))
  stray-machine =
      gathers 12288 (guest_of t * 2 ^ 12) 0
      (and_high t 2 12 ∙ ap (λ (x : ℕ). x * 2 ^ 12) (sym (guest_of-is t)))
      (omega arith)
      ∙ ap (eqb t) (ap (λ (x : ℕ). hart_of t * 2 ^ 18 + x) (zero-add (number_of t))
      ∙ sym (packed-is (hart_of t) 18 (number_of t)))

  stray-child : eqb (stray t 0) 0 ≡ eqb t (packed (hart_of t) 18 (packed (guest_of t) 12 (number_of t)))
  stray-child =
      gathers 0 0 (guest_of t * 2 ^ 12) (and_zero_r t) (omega arith)
      ∙ ap (eqb t) (ap (λ (x : ℕ). hart_of t * 2 ^ 18 + x) (sym (packed-is (guest_of t) 12 (number_of t)))
      ∙ sym (packed-is (hart_of t) 18 (packed (guest_of t) 12 (number_of t))))

  priority-one : number_of t ≡ 0 → t ≡ packed (hart_of t) 18 1 → ⊥
  priority-one z e = omega (arith, number_of-is t, packed-is (hart_of t) 18 1)

  -- where a domain delivers directly, a priority of 0 is not kept
  direct : (c : Bool)
      → (eqb t (packed (hart_of t) 18 (number_of t)) && not (eqb (number_of t) 0)) ≡ eqb t
      (kept_target c false t)
  direct c =
      tested (eqb (number_of t) 0)
      (λ e. let zero = eqb-true (number_of t) 0 e in
      rw (e, ne_eqb t (kept_target c false t) (λ q. priority-one zero (q ∙ kept-first c false t refl zero)))
      (and-false (eqb t (packed (hart_of t) 18 (number_of t)))))
      (λ f. rw (f, kept-priority c false t refl (eqb-false (number_of t) 0 f))
      (and-true (eqb t (packed (hart_of t) 18 (number_of t)))))

  pub target-legal : (c m : Bool)
      → (eqb (stray t (cond (c && m) 0 12288)) 0 && (m || not (eqb (number_of t) 0)))
      ≡ eqb t (kept_target c m t)
  target-legal true true =
      and-true (eqb (stray t 0) 0) ∙ stray-child ∙ ap (eqb t) (sym (kept-child true true t refl refl))
  target-legal false true =
      and-true (eqb (stray t 12288) 0) ∙ stray-machine
      ∙ ap (eqb t) (sym (kept-machine false true t refl refl))
  target-legal true false = ap (λ (b : Bool). b && not (eqb (number_of t) 0)) stray-machine ∙ direct true
  target-legal false false = ap (λ (b : Bool). b && not (eqb (number_of t) 0)) stray-machine ∙ direct false
