-- Claims 126 to 129, from the laws of one message file. Assumes nothing.
use Prim.Native.Nat.{ℕ, zero, suc, ◌+◌, ◌-◌, ◌*◌, ◌/◌, ◌%◌, ◌^◌, ◌≤◌, ◌<◌}
use mathlib.Core.Path.{◌≡◌, refl, sym, ap, ◌∙◌}
use mathlib.Core.Bool.{Bool, true, false, not, ◌&&◌, ◌||◌, or-true, and-false}
use mathlib.Core.Logic.{inl, inr, ⊎_elim}
use native.Mathlib.Nat.{mod-eq_of_lt}
use native.Mathlib.Decide.{ℕ_discrete, dec_lt}
use native.Mathlib.Omega.{arith}
use lib.Arith.{digits_mod}
use lib.Dec.{eqb, leb}
use lib.ListN.{length}
use borrow.Author.Tests.{eq-eqb, ne_eqb, eqb-true, not-true, lt-leb}
use Rattle.words.specs.Bits.{bit_of, has_bit}
use Rattle.words.specs.Parts.{reversed}
use Rattle.words.specs.Sets.{member, WordsFit}
use Rattle.words.proofs.PartsLaws.{reversed-lt, reversed-bytes, reversed-back}
use Rattle.words.proofs.SetsLaws.{member-ext}
use Rattle.words.proofs.TestsLaws.{tested, and_first, and_second, or_cases}
use Rattle.file_select.specs.Deliveries.{delivery_legal}
use Rattle.file.specs.declared.File.{File}
use Rattle.file.specs.Shape.{Shaped}
use Rattle.file.specs.Parts.{with_delivery}
use Rattle.file.specs.Page.{arrived, page_written, page_read}
use Rattle.file.specs.Top.{qualifies, top_identity, top_of, claimed}
use Rattle.file.proofs.PageLaws.{written-little, written-big, written-elsewhere}
use Rattle.file.proofs.TopLaws.{signals-off}
use Rattle.file_laws.proofs.PageEffects.{arrived-pending, arrived-rest}
use Rattle.file_laws.proofs.Keeps.{rules-of, sound-of, page-shaped, claimed-shaped, accessed-shaped}
use Rattle.file_laws.proofs.Stored.{file-path}
use Rattle.claims_file.specs.FileFacts.{Claim-33}
use Rattle.claims_file.specs.FileState.{LegalDelivery, PageWords, BytesReversed}
use Rattle.claims_file.specs.FileState.{Claim-126, Claim-127, Claim-128, Claim-129}
use Rattle.claims_file.proofs.FileFacts.{claim-33}

-- ---- the page

little-test : (j v : ℕ) → (eqb j v && (leb 1 v && leb v 255)) ≡ (eqb v j && leb 1 j && leb j 255)
little-test j v = at (ℕ_discrete j v)
  where
    at : Dec (j ≡ v) → (eqb j v && (leb 1 v && leb v 255)) ≡ (eqb v j && leb 1 j && leb j 255)
    at (yes e) = rw e (simp (eq-eqb v v refl))
    at (no d) = simp (ne_eqb j v d, ne_eqb v j (λ q. d (sym q)))

-- an identity, alone in the lowest byte or in the highest
reversed-low : (j : ℕ) → j ≤ 255 → reversed j ≡ j * 2 ^ 24
reversed-low j h =
    ap reversed (omega arith)
    ∙ reversed-bytes 0 0 0 j (omega arith) (omega arith) (omega arith) (omega arith) ∙ omega arith

reversed-high : (j : ℕ) → j ≤ 255 → reversed (j * 2 ^ 24) ≡ j
reversed-high j h =
    ap reversed (omega arith)
    ∙ reversed-bytes j 0 0 0 (omega arith) (omega arith) (omega arith) (omega arith) ∙ omega arith

big-test : (j v : ℕ) → v < 2 ^ 32
    → (eqb j (reversed v) && (leb 1 (reversed v) && leb (reversed v) 255))
    ≡ (eqb v (j * 2 ^ 24) && leb 1 j && leb j 255)
big-test j v h = at (ℕ_discrete j (reversed v)) (dec_lt 255 j)
  where
    at : Dec (j ≡ reversed v) → Dec (255 < j)
        → (eqb j (reversed v) && (leb 1 (reversed v) && leb (reversed v) 255))
        ≡ (eqb v (j * 2 ^ 24) && leb 1 j && leb j 255)
    at (yes e) (yes l) =
        simp (lt-leb j 255 l, lt-leb (reversed v) 255 (omega arith), and-false)
    at (yes e) (no l) =
        let there : v ≡ j * 2 ^ 24 =
        sym (reversed-back v h) ∙ ap reversed (sym e) ∙ reversed-low j (omega arith) in
        rw (← e) (simp (eq-eqb j j refl, eq-eqb v (j * 2 ^ 24) there))
    at (no d) (yes l) = simp (ne_eqb j (reversed v) d, lt-leb j 255 l, and-false)
    at (no d) (no l) =
        simp (
          ne_eqb j (reversed v) d,
          ne_eqb v (j * 2 ^ 24) (λ q. d (sym (reversed-high j (omega arith)) ∙ ap reversed (sym q))),
        )

-- what holds of the file and after every message holds after every write to the page
page-cases : (P : File → Type 0) (f : File) (a v : ℕ) → P f → ((i : ℕ) → P (arrived 255 f i))
    → P (page_written 255 f a v)
page-cases P f a v same comes = at (ℕ_discrete a 0) (ℕ_discrete a 4)
  where
    at : Dec (a ≡ 0) → Dec (a ≡ 4) → P (page_written 255 f a v)
    at (yes e) d = rw (written-little 255 f a v e) (comes v)
    at (no n) (yes e) = rw (written-big 255 f a v e) (comes (reversed v))
    at (no n) (no m) = rw (written-elsewhere 255 f a v n m) same

page-words : (f : File) (a v : ℕ) → Shaped f → PageWords f a v
unfolding page_read
page-words f a v s =
    let fits : 255 < 32 * length f.pending = omega (arith, s.pending_long) in
    record {
      little = λ j. ap (λ (h : File). member h.pending j) (written-little 255 f 0 v refl)
          ∙ arrived-pending 255 f v j fits ∙ ap (λ (b : Bool). member f.pending j || b) (little-test j v);
      big = λ small j. ap (λ (h : File). member h.pending j) (written-big 255 f 4 v refl)
          ∙ arrived-pending 255 f (reversed v) j fits
          ∙ ap (λ (b : Bool). member f.pending j || b) (big-test j v small);
      delivery = page-cases (λ h. h.delivery ≡ f.delivery) f a v refl (λ i. (arrived-rest 255 f i).0);
      threshold = page-cases (λ h. h.threshold ≡ f.threshold) f a v refl (λ i. (arrived-rest 255 f i).1);
      enable = page-cases (λ h. h.enable ≡ f.enable) f a v refl (λ i. (arrived-rest 255 f i).2);
      elsewhere = written-elsewhere 255 f a v;
      reads = refl;
    }

-- the bytes of a number that is given by its bytes
module _ (a b c d : ℕ) (ha : a < 256) (hb : b < 256) (hc : c < 256) (hd : d < 256) where
  abbrev number : ℕ
  number = a * 2 ^ 24 + b * 2 ^ 16 + c * 2 ^ 8 + d

  byte-0 : number / 2 ^ 0 % 256 ≡ d
  byte-0 = omega arith

  byte-1 : number / 2 ^ 8 % 256 ≡ c
  byte-1 =
      let q : number / 2 ^ 8 ≡ (a * 256 + b) * 256 + c = omega arith in
      ap (λ (x : ℕ). x % 256) q ∙ digits_mod (a * 256 + b) hc

  byte-2 : number / 2 ^ 16 % 256 ≡ b
  byte-2 = let q : number / 2 ^ 16 ≡ a * 256 + b = omega arith in ap (λ (x : ℕ). x % 256) q ∙ digits_mod a hb

  byte-3 : number / 2 ^ 24 % 256 ≡ a
  byte-3 = let q : number / 2 ^ 24 ≡ a = omega arith in ap (λ (x : ℕ). x % 256) q ∙ mod-eq_of_lt ha

bytes-reversed : (v : ℕ) → v < 2 ^ 32 → BytesReversed v
unfolding reversed
bytes-reversed v small = record { bytes = bytes; fits = reversed-lt v small; back = reversed-back v small }
  where
    a : v % 256 < 256
    a = omega arith

    b : v / 2 ^ 8 % 256 < 256
    b = omega arith

    c : v / 2 ^ 16 % 256 < 256
    c = omega arith

    d : v / 2 ^ 24 % 256 < 256
    d = omega arith

    bytes : (k : ℕ) → k < 4 → reversed v / 2 ^ (8 * k) % 256 ≡ v / 2 ^ (8 * (3 - k)) % 256
    bytes zero h = byte-0 _ _ _ _ a b c d
    bytes (suc zero) h = byte-1 _ _ _ _ a b c d
    bytes (suc (suc zero)) h = byte-2 _ _ _ _ a b c d
    bytes (suc (suc (suc zero))) h = byte-3 _ _ _ _ a b c d ∙ omega arith
    bytes (suc (suc (suc (suc k)))) h = absurd (omega arith)

pub claim-126 : Claim-126
unfolding Claim-126
claim-126 = (page-words, bytes-reversed)

-- ---- the state rules

pub delivery-allowed : (g : Bool) (d : ℕ) → delivery_legal g d ≡ true → LegalDelivery g d
unfolding delivery_legal
delivery-allowed g d e =
    ⊎_elim
    (λ two. ⊎_elim (λ z. inl (eqb-true d 0 z)) (λ o. inr (inl (eqb-true d 1 o)))
    (or_cases (eqb d 0) (eqb d 1) two))
    (λ wired. inr
    (inr (
      not-true g (and_first (not g) (eqb d 0x40000000) wired),
      eqb-true d 0x40000000 (and_second (not g) (eqb d 0x40000000) wired),
    )))
    (or_cases (eqb d 0 || eqb d 1) (not g && eqb d 0x40000000) e)

pub legal-delivery : (g : Bool) (d : ℕ) → LegalDelivery g d → delivery_legal g d ≡ true
unfolding delivery_legal
legal-delivery g d =
    ⊎_elim (λ z. simp (eq-eqb d 0 z))
    (⊎_elim (λ o. simp (eq-eqb d 1 o, or-true)) (λ w. simp (w.0, eq-eqb d 0x40000000 w.1, or-true)))

pub illegal-delivery : (g : Bool) (d : ℕ) → (LegalDelivery g d → ⊥) → delivery_legal g d ≡ false
illegal-delivery g d n = tested (delivery_legal g d) (λ t. absurd (n (delivery-allowed g d t))) (λ u. u)

pub claim-127 : Claim-127
unfolding Claim-127
claim-127 g f = (
  (λ e. let r = rules-of 255 g f e in
      record {
        delivery = delivery-allowed g f.delivery r.legal;
        threshold = r.below;
        pending_zero = r.pending_zero;
        enable_zero = r.enable_zero;
      }),
  (λ r. sound-of 255 g f
      (record {
        legal = legal-delivery g f.delivery r.delivery;
        below = r.threshold;
        pending_zero = r.pending_zero;
        enable_zero = r.enable_zero;
      })),
)

-- ---- delivery

module _ (f : File) (d : ℕ) where
  identity-apart : top_identity 255 (with_delivery f d) ≡ top_identity 255 f
  unfolding top_identity qualifies
  identity-apart = refl

  top_apart : top_of 255 (with_delivery f d) ≡ top_of 255 f
  unfolding top_of
  top_apart = ap (λ (i : ℕ). i * 65536 + i) identity-apart

  claim-apart : claimed 255 (with_delivery f d) ≡ with_delivery (claimed 255 f) d
  unfolding claimed
  claim-apart = rw identity-apart (tested (eqb (top_identity 255 f) 0) (λ t. simp t) (λ u. simp u))

pub claim-128 : Claim-128
unfolding Claim-128 Claim-33
claim-128 f d =
    let same = top_apart f 1 in
    let signal = claim-33 255 (with_delivery f 1) in
    record {
      top = top_apart f d;
      claim = claim-apart f d;
      on = ((λ e z. (signal.0 e).1 (same ∙ z)), (λ n. signal.1 (refl, (λ z. n (sym same ∙ z)))));
      off = signals-off 255 (with_delivery f d);
    }

-- ---- bit by bit

pub claim-129 : Claim-129
unfolding Claim-129 has_bit bit_of member WordsFit
claim-129 = (
  (λ w k. (eqb-true (w / 2 ^ k % 2) 1, eq-eqb (w / 2 ^ k % 2) 1)),
  (λ ws i. refl),
  (λ ws. ((λ h. h), (λ h. h))),
  (λ f. (
    (λ s. (
      s.delivery_fit,
      s.threshold_fit,
      record { long = s.pending_long; fit = s.pending_fit },
      record { long = s.enable_long; fit = s.enable_fit },
    )),
    (λ h. record {
      delivery_fit = h.0;
      threshold_fit = h.1;
      pending_long = h.2.long;
      pending_fit = h.2.fit;
      enable_long = h.3.long;
      enable_fit = h.3.fit;
    }),
  )),
  (λ f f' s s' d t p e. file-path d t
      (member-ext f.pending f'.pending (s.pending_long ∙ sym s'.pending_long) s.pending_fit
      s'.pending_fit (λ i h. p i (omega (arith, s.pending_long))))
      (member-ext f.enable f'.enable (s.enable_long ∙ sym s'.enable_long) s.enable_fit
      s'.enable_fit (λ i h. e i (omega (arith, s.enable_long))))),
  (λ g f s. record {
    message = λ a v. page-shaped 255 f a v s;
    claim = claimed-shaped 255 f s;
    access = λ k x v h. accessed-shaped 255 g f v (omega arith) h s k x;
  }),
)
