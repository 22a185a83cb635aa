-- The proof of Claim-147: the numbers of a stretch that pass a test, in order. Assumes nothing.
use Prim.Native.Nat.{ℕ, zero, suc, ◌+◌, ◌≤◌, ◌<◌}
use mathlib.Core.Path.{◌≡◌, sym, ap, subst, ◌∙◌}
use mathlib.Core.Bool.{Bool, true, false, ◌&&◌, false≢true}
use mathlib.Core.List.{List, [], ◌∷◌}
use mathlib.Core.Logic.{◌≢◌, ⊎_elim}
use native.Mathlib.Decide.{ℕ_discrete}
use native.Mathlib.Omega.{arith}
use lib.Dec.{eqb}
use lib.ListN.{length, get_or}
use borrow.Author.Tests.{eqb-true, eq-eqb}
use Rattle.words.proofs.TestsLaws.{tested, and_first, and_second, and_both, or_cases, or_left, or_right}
use Rattle.source_mode.specs.Mode.{is_active}
use Rattle.source.specs.declared.Source.{Source}
use Rattle.domain.specs.Slot.{source_at}
use Rattle.domain_sending.specs.Sending.{candidate}
use Rattle.files_laws.specs.Messages.{any_of}
use Rattle.domain_sending_laws.specs.Candidates.{numbers_from, those_with, candidates}
use Rattle.claims_domain.specs.Sending.{Claim-147}

module _ (p : ℕ → Bool) where
  abbrev those : ℕ → ℕ → List ℕ
  those a n = those_with p (numbers_from a n)

  those-hit : (a n : ℕ) → p a ≡ true → those a (suc n) ≡ a ∷ those (suc a) n
  unfolding those_with numbers_from
  those-hit a n t = simp t

  those-miss : (a n : ℕ) → p a ≡ false → those a (suc n) ≡ those (suc a) n
  unfolding those_with numbers_from
  those-miss a n f = simp f

  -- ---- in order

  -- what a list says of its numbers: none is below a, and each is below the next
  pub record Ascends (a : ℕ) (l : List ℕ) : Type 0 where
    pub low : (k : ℕ) → k < length l → a ≤ get_or l k 0
    pub up : (k : ℕ) → suc k < length l → get_or l k 0 < get_or l (suc k) 0

  ascends-cons : (a : ℕ) (l : List ℕ) → Ascends (suc a) l → Ascends a (a ∷ l)
  ascends-cons a l s = record { low = low; up = up }
    where
      low : (k : ℕ) → k < length (a ∷ l) → a ≤ get_or (a ∷ l) k 0
      low zero h = omega arith
      low (suc k) h = omega (arith, s.low k (omega (arith, h)))

      up : (k : ℕ) → suc k < length (a ∷ l) → get_or (a ∷ l) k 0 < get_or (a ∷ l) (suc k) 0
      up zero h = omega (arith, s.low 0 (omega (arith, h)))
      up (suc k) h = s.up k (omega (arith, h))

  ascends-lower : (a : ℕ) (l : List ℕ) → Ascends (suc a) l → Ascends a l
  ascends-lower a l s = record { low = λ k h. omega (arith, s.low k h); up = s.up }

  ascends : (n a : ℕ) → Ascends a (those a n)
  unfolding those_with numbers_from
  ascends zero a = record { low = λ k h. absurd (omega (arith, h)); up = λ k h. absurd (omega (arith, h)) }
  ascends (suc n) a =
      tested (p a) (λ t. subst (Ascends a) (sym (those-hit a n t)) (ascends-cons a _ (ascends n (suc a))))
      (λ f. subst (Ascends a) (sym (those-miss a n f)) (ascends-lower a _ (ascends n (suc a))))

  -- ---- exactly those

  abbrev Among : ℕ → ℕ → ℕ → Type 0
  Among n a i = (a ≤ i) × (i < a + n) × (p i ≡ true)

  -- one number more in front
  module _ (n a i : ℕ) where
    later : Among n (suc a) i → Among (suc n) a i
    later r = (omega (arith, r.0), omega (arith, r.1), r.2)

    on-next : (any_of (eqb i) (those (suc a) n) ≡ true → Among n (suc a) i)
        → any_of (eqb i) (those a (suc n)) ≡ true → Among (suc n) a i
    unfolding any_of
    on-next rest e =
        tested (p a)
        (λ t. ⊎_elim
        (λ q. let same = eqb-true i a q in (omega (arith, same), omega (arith, same), ap p same ∙ t))
        (λ q. later (rest q))
        (or_cases (eqb i a) (any_of (eqb i) (those (suc a) n))
        (sym (ap (any_of (eqb i)) (those-hit a n t)) ∙ e)))
        (λ f. later (rest (sym (ap (any_of (eqb i)) (those-miss a n f)) ∙ e)))

    of-next : (i ≢ a → any_of (eqb i) (those (suc a) n) ≡ true) → p i ≡ true
        → any_of (eqb i) (those a (suc n)) ≡ true
    unfolding any_of
    of-next rest t = at (ℕ_discrete i a)
      where
        at : Dec (i ≡ a) → any_of (eqb i) (those a (suc n)) ≡ true
        at (yes e) = ap (any_of (eqb i)) (those-hit a n (ap p (sym e) ∙ t)) ∙ simp (eq-eqb i a e)
        at (no d) =
            tested (p a) (λ q. ap (any_of (eqb i)) (those-hit a n q) ∙ or_right (eqb i a) _ (rest d))
            (λ q. ap (any_of (eqb i)) (those-miss a n q) ∙ rest d)

  any-on : (n a i : ℕ) → any_of (eqb i) (those a n) ≡ true → Among n a i
  unfolding any_of those_with numbers_from
  any-on zero a i e = absurd (false≢true e)
  any-on (suc n) a i e = on-next n a i (any-on n (suc a) i) e

  any-of : (n a i : ℕ) → a ≤ i → i < a + n → p i ≡ true → any_of (eqb i) (those a n) ≡ true
  any-of zero a i l h t = absurd (omega (arith, l, h))
  any-of (suc n) a i l h t =
      of-next n a i (λ d. any-of n (suc a) i (omega (arith, l, d)) (omega (arith, h)) t) t

module _ (s : Source) where
  parts : candidate s ≡ true → (is_active s.mode ≡ true) × (s.pending ≡ true) × (s.enabled ≡ true)
  unfolding candidate
  parts e =
      let two = and_first (is_active s.mode && s.pending) s.enabled e in (
        and_first (is_active s.mode) s.pending two,
        and_second (is_active s.mode) s.pending two,
        and_second (is_active s.mode && s.pending) s.enabled e,
      )

  whole : is_active s.mode ≡ true → s.pending ≡ true → s.enabled ≡ true → candidate s ≡ true
  unfolding candidate
  whole a b c =
      and_both (is_active s.mode && s.pending) s.enabled
      (and_both (is_active s.mode) s.pending a b) c

-- ---- somewhere in a list

module _ (test : ℕ → Bool) where
  place-on : (ms : List ℕ) → any_of test ms ≡ true
      → (k : ℕ) × (k < length ms) × (test (get_or ms k 0) ≡ true)
  unfolding any_of
  place-on [] e = absurd (false≢true e)
  place-on (m ∷ ms) e =
      ⊎_elim (λ t. (0, omega arith, t))
      (λ t. let r = place-on ms t in (suc r.0, omega (arith, r.1), r.2))
      (or_cases (test m) (any_of test ms) e)

  place_of : (ms : List ℕ) (k : ℕ) → k < length ms → test (get_or ms k 0) ≡ true → any_of test ms ≡ true
  unfolding any_of
  place_of [] k l t = absurd (omega (arith, l))
  place_of (m ∷ ms) zero l t = or_left (test m) (any_of test ms) t
  place_of (m ∷ ms) (suc k) l t =
      or_right (test m) (any_of test ms) (place_of ms k (omega (arith, l)) t)

pub claim-147 : Claim-147
unfolding Claim-147 candidates
claim-147 = (
  (λ d.
      let p : ℕ → Bool = λ i. candidate (source_at d i) in
      let cs = those_with p (numbers_from 1 63) in (
        (λ k h. subst (λ (j : ℕ). get_or cs k 0 < get_or cs j 0) (omega arith)
            ((ascends p 63 1).up k (omega (arith, h)))),
        (λ i. (
          (λ e. let r = any-on p 63 1 i e in
              let q = parts (source_at d i) r.2 in
              (r.0, omega (arith, r.1), q.0, q.1, q.2)),
          (λ q. any-of p 63 1 i q.0 (omega (arith, q.1)) (whole (source_at d i) q.2 q.3 q.4)),
        )),
      )),
  (λ s. (parts s, (λ q. whole s q.0 q.1 q.2))),
  (λ test ms. (place-on test ms, (λ q. place_of test ms q.0 q.1 q.2))),
)
