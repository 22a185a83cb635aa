-- Claims 20 to 34, from the laws of one message file. Assumes nothing.
use Prim.Native.Nat.{ℕ, ◌+◌, ◌*◌, ◌%◌, ◌≤◌, ◌<◌}
use mathlib.Core.Path.{◌≡◌, sym, ap, ◌∙◌}
use mathlib.Core.Bool.{Bool, true, false, not, ◌&&◌, or-true}
use mathlib.Core.Logic.{◌≢◌, ◌⊎◌, inl, inr, ⊎_elim}
use native.Mathlib.Decide.{dec_lt, ℕ_discrete}
use native.Mathlib.Omega.{arith}
use lib.Dec.{eqb, ltb}
use lib.ListN.{length}
use borrow.Author.Tests.{eq-eqb, ne_eqb, eqb-true, eqb-false, ltb-true, lt-ltb, not-true, not-false}
use Rattle.words.specs.Sets.{member}
use Rattle.words.proofs.TestsLaws.{tested, not_same, and_first, and_second, and_both, or_cases}
use Rattle.file_select.specs.Select.{select_legal}
use Rattle.file_select.proofs.SelectLaws.{legal-below, legal-above, legal-named, legal-words}
use Rattle.file.specs.declared.File.{File}
use Rattle.file.specs.Top.{passes, qualifies, top_identity, top_of, signals}
use Rattle.file.specs.Register.{written}
use Rattle.file.proofs.TopLaws.{qualifies-pending, qualifies-enabled, qualifies-passes, qualifies-standing}
use Rattle.file.proofs.TopLaws.{top_of-zero-1, top_of-zero-2, claimed-none}
use Rattle.file.proofs.RegisterLaws.{written-illegal, accessed-illegal}
use Rattle.file_laws.proofs.PageEffects.{arrived-pending, arrived-rest, arrived-delivery}
use Rattle.file_laws.proofs.TopEffects.{top-zero-iff, top-is, top-qualifies, top-lowest, top_within}
use Rattle.file_laws.proofs.TopEffects.{top-below-threshold, claimed-pending, claimed-rest}
use Rattle.file_laws.proofs.RegisterEffects.{delivery-back, threshold-back, pending-back}
use Rattle.file_laws.proofs.RegisterEffects.{enable-back, member-put, member-put-other}
use Rattle.file_laws.proofs.Keeps.{rules-of, sound-of, page-rules, claimed-rules, accessed-rules}
use Rattle.file_laws.proofs.Stored.{file-back, block_back, file-apart, loaded-shaped}
use Rattle.claims_file.specs.FileFacts.{Stands, Claim-20, Claim-21, Claim-22, Claim-23, Claim-24}
use Rattle.claims_file.specs.FileFacts.{Claim-25, Claim-26, Claim-27, Claim-28, Claim-29, Claim-30}
use Rattle.claims_file.specs.FileFacts.{Claim-31, Claim-32, Claim-33, Claim-34}

-- ---- what qualifies, in the claim's words

passes-cases : (t i : ℕ) → passes t i ≡ true → (t ≡ 0) ⊎ (i < t)
unfolding passes
passes-cases t i e =
    ⊎_elim (λ z. inl (eqb-true t 0 z)) (λ l. inr (ltb-true i t l)) (or_cases (eqb t 0) (ltb i t) e)

passes-either : (t i : ℕ) → (t ≡ 0) ⊎ (i < t) → passes t i ≡ true
unfolding passes
passes-either t i = ⊎_elim (λ z. simp (eq-eqb t 0 z)) (λ l. simp (lt-ltb i t l, or-true))

stands_of : (f : File) (i : ℕ) → qualifies f i ≡ true → Stands f i
stands_of f i e =
    record {
      pending = qualifies-pending f i e;
      enabled = qualifies-enabled f i e;
      passes = passes-cases f.threshold i (qualifies-passes f i e);
    }

of-stands : (f : File) (i : ℕ) → Stands f i → qualifies f i ≡ true
of-stands f i s = qualifies-standing f i s.pending s.enabled
    ∙ passes-either f.threshold i s.passes

unqualified : (f : File) (i : ℕ) → (Stands f i → ⊥) → qualifies f i ≡ false
unqualified f i h = tested (qualifies f i) (λ t. absurd (h (stands_of f i t))) (λ u. u)

-- ---- the top

pub claim-20 : Claim-20
unfolding Claim-20
claim-20 n f = (
  (λ z i l h s. not_same (qualifies f i) (of-stands f i s) ((top-zero-iff n f).0 z i l h)),
  (λ none. (top-zero-iff n f).1 (λ i l h. unqualified f i (none i l h))),
)

pub claim-21 : Claim-21
unfolding Claim-21
claim-21 n f h =
    let i = top_identity n f in
    let there : i ≢ 0 = λ z. h (top_of-zero-2 n f z) in
    let within = top_within n f there in (
      i,
      top-is n f,
      within.0,
      within.1,
      stands_of f i (top-qualifies n f there),
      (λ j l m s. not_same (qualifies f j) (of-stands f j s) (top-lowest n f j l m)),
    )

pub claim-22 : Claim-22
unfolding Claim-22
claim-22 n f t i l e = omega (arith, top-is n f, top-below-threshold n f t)

-- ---- claims and messages

-- an identity is told from its top as well as from itself
twice_same : (j i : ℕ) → eqb j i ≡ eqb (j * 65536 + j) (i * 65536 + i)
twice_same j i = at (ℕ_discrete j i)
  where
    at : Dec (j ≡ i) → eqb j i ≡ eqb (j * 65536 + j) (i * 65536 + i)
    at (yes e) = eq-eqb j i e ∙ sym (eq-eqb (j * 65536 + j) (i * 65536 + i) (omega arith))
    at (no d) = ne_eqb j i d ∙ sym (ne_eqb (j * 65536 + j) (i * 65536 + i) (λ q. d (omega arith)))

pub claim-23 : Claim-23
unfolding Claim-23
claim-23 f s =
    let rest = claimed-rest 255 f in
    let same : (j : ℕ) → eqb j (top_identity 255 f) ≡ eqb (j * 65536 + j) (top_of 255 f) =
    λ j. twice_same j (top_identity 255 f) ∙ ap (eqb (j * 65536 + j)) (sym (top-is 255 f)) in (
      (λ j l. claimed-pending 255 f j l (omega (arith, s.pending_long))
          ∙ ap (λ (b : Bool). member f.pending j && not b) (same j)),
      rest.0,
      rest.1,
      rest.2,
    )

pub claim-24 : Claim-24
unfolding Claim-24
claim-24 n f z = claimed-none n f (top_of-zero-1 n f z)

pub claim-25 : Claim-25
unfolding Claim-25
claim-25 f i s =
    let rest = arrived-rest 255 f i in
    ((λ j. arrived-pending 255 f i j (omega (arith, s.pending_long))), rest.0, rest.1, rest.2)

pub claim-26 : Claim-26
unfolding Claim-26
claim-26 = arrived-delivery

-- ---- registers

pub claim-27 : Claim-27
unfolding Claim-27
claim-27 g f v = (delivery-back 255 g f v, written-illegal 255 g f v, threshold-back 255 g f v)

pub claim-28 : Claim-28
unfolding Claim-28 written
claim-28 g f j v s h =
    let fits : 2 * j + 1 < length f.pending = omega (arith, s.pending_long) in
    (pending-back 255 g f v j fits, member-put f.pending j v fits, member-put-other f.pending j v fits)

pub claim-29 : Claim-29
unfolding Claim-29 written
claim-29 g f j v s h =
    let fits : 2 * j + 1 < length f.enable = omega (arith, s.enable_long) in
    (enable-back 255 g f v j fits, member-put f.enable j v fits, member-put-other f.enable j v fits)

pub claim-30 : Claim-30
unfolding Claim-30
claim-30 s = (
  illegal (dec_lt s 0x70) (dec_lt 0xFF s) (dec_lt s 0x80),
  ⊎_elim (legal-below s) (⊎_elim (legal-above s) (λ w. odd w (dec_lt 0xFF s))),
)
  where
    illegal : Dec (s < 0x70) → Dec (0xFF < s) → Dec (s < 0x80) → select_legal s ≡ false
        → (s < 0x70) ⊎ ((0xFF < s) ⊎ ((0x80 ≤ s) × (s % 2 ≡ 1)))
    illegal (yes a) b d e = inl a
    illegal (no a) (yes b) d e = inr (inl b)
    illegal (no a) (no b) (yes d) e = absurd (not_same (select_legal s) (legal-named s (omega arith) d) e)
    illegal (no a) (no b) (no d) e =
        let words : 0x80 ≤ s = omega arith in
        inr
        (inr (
          words,
          eqb-true (s % 2) 1 (not-false (eqb (s % 2) 1) (sym (legal-words s words (omega arith)) ∙ e)),
        ))

    odd : (0x80 ≤ s) × (s % 2 ≡ 1) → Dec (0xFF < s) → select_legal s ≡ false
    odd w (yes b) = legal-above s b
    odd w (no b) = legal-words s w.0 (omega arith) ∙ ap not (eq-eqb (s % 2) 1 w.1)

pub claim-31 : Claim-31
unfolding Claim-31
claim-31 n g f k s v e = accessed-illegal n g f k s v e

-- ---- state rules, signal, words in a block

pub claim-32 : Claim-32
unfolding Claim-32
claim-32 g f s e =
    let r = rules-of 255 g f e in
    record {
      message = λ a v. sound-of 255 g _ (page-rules 255 f a v g r);
      claim = sound-of 255 g _ (claimed-rules 255 f g r);
      access = λ k x v h. sound-of 255 g _ (accessed-rules 255 g f v (omega arith) h s k x r);
    }

pub claim-33 : Claim-33
unfolding Claim-33 signals
claim-33 n f =
    let on = eqb f.delivery 1 in
    let none = eqb (top_of n f) 0 in (
      (λ e. (
        eqb-true f.delivery 1 (and_first on (not none) e),
        eqb-false (top_of n f) 0 (not-true none (and_second on (not none) e)),
      )),
      (λ h. and_both on (not none) (eq-eqb f.delivery 1 h.0) (ap not (ne_eqb (top_of n f) 0 h.1))),
    )

pub claim-34 : Claim-34
unfolding Claim-34
claim-34 l at h =
    record {
      file = λ f s. file-back l at f s h;
      block = block_back l at h;
      apart = λ f s i hi q. file-apart l at f s i h hi q;
      shape = λ w. loaded-shaped l at w h;
    }
