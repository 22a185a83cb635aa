-- Claims 132, 133, 139, 145 and 203, from the laws of bits, sets and modes, and from the state rules of
-- Claim-73. Assumes nothing.
use Prim.Native.Nat.{ℕ, ◌+◌, ◌*◌, ◌/◌, ◌%◌, ◌^◌, ◌≤◌, ◌<◌}
use mathlib.Core.Path.{◌≡◌, refl, sym, ap, ◌∙◌}
use mathlib.Core.Bool.{Bool, true, false, cond, not, ◌&&◌, ◌||◌}
use mathlib.Core.List.{List}
use mathlib.Core.Logic.{◌≢◌, ◌↔◌, ◌⊎◌, inl, inr, ⊎_elim}
use native.Mathlib.Decide.{ℕ_discrete}
use native.Mathlib.Omega.{arith}
use lib.Dec.{eqb, leb, ltb}
use lib.ListN.{get_or}
use borrow.Author.Tests.{eqb-true, eqb-false, leb-true, ltb-true, eq-eqb, ne_eqb, le-leb, lt-ltb, not-true}
use Rattle.words.specs.Bits.{bit_of, has_bit}
use Rattle.words.specs.Sets.{member, WordsFit}
use Rattle.words.proofs.BitsLaws.{bit_of-lt}
use Rattle.words.proofs.TestsLaws.{and_first, and_second, and_both, or_cases, or_left, or_right, not_same}
use Rattle.words.proofs.TestsLaws.{same_truth}
use Rattle.words.proofs.SetsLaws.{word-members}
use Rattle.source_mode.specs.Mode.{is_active, is_level, is_rectified}
use Rattle.domain.specs.Domain.{Domain, domaincfg_of, is_enabled, by_messages}
use Rattle.domain.specs.Slot.{source_at}
use Rattle.domain_inputs.specs.Inputs.{input_bit, input_word}
use Rattle.domain_inputs.proofs.InputsLaws.{input-source, inputs-bit, inputs-lt}
use Rattle.domain_region.specs.declared.Word.TheVariants.{Setip, InClrip}
use Rattle.source.specs.declared.Source.{Source}
use Rattle.domain_registers.specs.Read.{register_value}
use Rattle.domain_direct_laws.proofs.TopEffects.{topi-zero-iff, topi-messages}
use Rattle.wired_state.specs.Wires.{Wired, domain_in}
use Rattle.wired_registers.specs.Wired.{read_in}
use Rattle.claims_registers.specs.Rules.{Sound, SourceRules, DomainRules, Claim-73}
use Rattle.claims_registers.specs.Registers.{Bit, RectifiedHigh, Claim-132, Claim-133, Claim-139}
use Rattle.claims_registers.specs.Registers.{Claim-145, Claim-203}
use Rattle.claims_registers.proofs.Rules.{claim-73}

-- ---- one bit

small : (x : ℕ) → x < 2 → x ≢ 1 → x ≡ 0
small x h n = omega (arith, n)

module _ (w n : ℕ) where
  pub bit-of : (b : Bool) → has_bit w n ≡ b → Bit w n b
  unfolding has_bit bit_of
  bit-of true e = eqb-true (w / 2 ^ n % 2) 1 e
  bit-of false e = small (w / 2 ^ n % 2) (bit_of-lt w n) (eqb-false (w / 2 ^ n % 2) 1 e)

  pub bit-one : (w / 2 ^ n % 2 ≡ 1) ↔ (has_bit w n ≡ true)
  unfolding has_bit bit_of
  bit-one = (eq-eqb (w / 2 ^ n % 2) 1, eqb-true (w / 2 ^ n % 2) 1)

-- ---- domaincfg

-- the rules of a domain, whichever of the two it is
pub rules-in : (w : Wired) → Sound w → (c : Bool) → DomainRules c w.wires (domain_in w c)
unfolding Claim-73 domain_in
rules-in w sound true = ((claim-73 w sound.0).0 sound.1).child
rules-in w sound false = ((claim-73 w sound.0).0 sound.1).machine

domaincfg-word : (x : ℕ) (e m : Bool) → x ≡ cond e 256 0 + cond m 4 0
    → let word = 0x80000000 + x in
    (word ≡ 0x80000000 + cond e 256 0 + cond m 4 0) × (word / 2 ^ 24 ≡ 0x80) × Bit word 8 e × Bit word 2 m
    × (word % 2 ≡ 0)
domaincfg-word x true true h = omega arith
domaincfg-word x true false h = omega arith
domaincfg-word x false true h = omega arith
domaincfg-word x false false h = omega arith

pub claim-133 : Claim-133
unfolding Claim-133 register_value
claim-133 w sound c =
    let d = domain_in w c in
    domaincfg-word (domaincfg_of d) (is_enabled d) (by_messages d) (rules-in w sound c).domaincfg

-- ---- the modes

pub active-iff : (m : ℕ) → (is_active m ≡ true) ↔ ((m ≢ 0) × (m < 1024))
unfolding is_active
active-iff m = (
  λ e. (
    λ z. not_same (eqb m 0) (eq-eqb m 0 z) (not-true (eqb m 0) (and_first (not (eqb m 0)) (ltb m 1024) e)),
    ltb-true m 1024 (and_second (not (eqb m 0)) (ltb m 1024) e),
  ),
  λ p. simp (ne_eqb m 0 p.0, lt-ltb m 1024 p.1),
)

-- a mode is one of two
either : (m a b : ℕ) → ((eqb m a || eqb m b) ≡ true) ↔ ((m ≡ a) ⊎ (m ≡ b))
either m a b = (
  λ e. ⊎_elim (λ t. inl (eqb-true m a t)) (λ t. inr (eqb-true m b t)) (or_cases (eqb m a) (eqb m b) e),
  ⊎_elim (λ e. or_left _ (eqb m b) (eq-eqb m a e)) (λ e. or_right (eqb m a) _ (eq-eqb m b e)),
)

rectified-iff : (m : ℕ) (wire : Bool) → (is_rectified m wire ≡ true) ↔ RectifiedHigh m wire
unfolding is_rectified
rectified-iff m wire =
    let straight = eqb m 4 || eqb m 6 in
    let inverted = eqb m 5 || eqb m 7 in (
      λ e. ⊎_elim
          (λ t. inl ((either m 4 6).0 (and_first straight wire t), and_second straight wire t))
          (λ t. inr (
            (either m 5 7).0 (and_first inverted (not wire) t),
            not-true wire (and_second inverted (not wire) t),
          ))
          (or_cases (straight && wire) (inverted && not wire) e),
      ⊎_elim
          (λ p. or_left _ _ (and_both straight wire ((either m 4 6).1 p.0) p.1))
          (λ p. or_right (straight && wire) _
          (and_both inverted (not wire) ((either m 5 7).1 p.0) (ap not p.1))),
    )

pub claim-139 : Claim-139
unfolding Claim-139 is_level
claim-139 m = (active-iff m, either m 6 7, rectified-iff m)

-- ---- in_clrip

input-iff : (d : Domain) (ws : List ℕ) (i : ℕ)
    → (input_bit d ws i ≡ true) ↔ ((1 ≤ i) × RectifiedHigh (source_at d i).mode (member ws i))
unfolding input_bit
input-iff d ws i =
    let value = is_rectified (source_at d i).mode (member ws i) in
    let iff = rectified-iff (source_at d i).mode (member ws i) in (
      λ e. (leb-true 1 i (and_first (leb 1 i) value e), iff.0 (and_second (leb 1 i) value e)),
      λ p. and_both (leb 1 i) value (le-leb 1 i p.0) (iff.1 p.1),
    )

pub claim-132 : Claim-132
unfolding Claim-132 register_value input_word source_at WordsFit
claim-132 d wires k = (
  λ n h. (
    bit-of (get_or d.pending k 0) n _ (sym (word-members d.pending k n h)),
    bit-of (get_or d.enable k 0) n _ (sym (word-members d.enable k n h)),
    (
      λ e. (input-iff d wires (32 * k + n)).0 (sym (inputs-bit d wires k 32 n h) ∙ (bit-one _ n).0 e),
      λ p. (bit-one _ n).1 (inputs-bit d wires k 32 n h ∙ (input-iff d wires (32 * k + n)).1 p),
    ),
  ),
  inputs-lt d wires k 32 (omega arith),
  λ fit. fit k,
  λ fit. fit k,
)

-- ---- what a handler relies on

bit-on : (x : ℕ) (b : Bool) → x ≡ cond b 1 0 → x ≡ 1 → b ≡ true
bit-on x true e one = refl
bit-on x false e one = absurd (omega (arith, e))

-- these modes read no wire
no_value : (m : ℕ) (wire : Bool) → (m ≡ 0) ⊎ (m ≡ 1) ⊎ (m ≡ 1024) → is_rectified m wire ≡ false
unfolding is_rectified
no_value m wire (inl e) = rw e
no_value m wire (inr (inl e)) = rw e
no_value m wire (inr (inr e)) = rw e

module _ (w : Wired) (sound : Sound w) (k n : ℕ) (h : n < 32) (at_least_lem : 1 ≤ 32 * k + n) where
  input-value : (c : Bool) (b : Bool)
      → is_rectified (source_at (domain_in w c) (32 * k + n)).mode (member w.wires (32 * k + n)) ≡ b
      → Bit (read_in w c (InClrip k)) n b
  unfolding register_value input_word
  input-value c b e =
      bit-of _ n b
      (inputs-bit (domain_in w c) w.wires k 32 n h
      ∙ input-source (domain_in w c) w.wires (32 * k + n) at_least_lem ∙ e)

  pending-value : (c : Bool) → Bit (read_in w c (Setip k)) n (source_at (domain_in w c) (32 * k + n)).pending
  unfolding Claim-132
  pending-value c = ((claim-132 (domain_in w c) w.wires k).0 n h).0

  module _ (upper : k < 2) (c : Bool) where
    abbrev s : Source
    s = source_at (domain_in w c) (32 * k + n)

    abbrev rules : SourceRules c (by_messages (domain_in w c))
        (is_enabled (domain_in w c) && by_messages (domain_in w c)) (member w.wires (32 * k + n)) s
    rules = (rules-in w sound c).sources (32 * k + n) at_least_lem (omega arith)

    level-high : (s.mode ≡ 6) ⊎ (s.mode ≡ 7) → read_in w c (Setip k) / 2 ^ n % 2 ≡ 1
        → read_in w c (InClrip k) / 2 ^ n % 2 ≡ 1
    unfolding Claim-139
    level-high level e =
        input-value c true
        (rules.level ((claim-139 s.mode).1.1 level)
        (bit-on _ s.pending (pending-value c) e))

    level-same : by_messages (domain_in w c) ≡ false → (s.mode ≡ 6) ⊎ (s.mode ≡ 7)
        → is_rectified s.mode (member w.wires (32 * k + n)) ≡ s.pending
    unfolding Claim-139
    level-same direct level =
        let is-level = (claim-139 s.mode).1.1 level in
        same_truth (is_rectified s.mode (member w.wires (32 * k + n))) s.pending
        (rules.direct is-level direct) (rules.level is-level)

pub claim-203 : Claim-203
unfolding Claim-203 Claim-73 domain_in
claim-203 w sound k n upper h l = (
  (λ c. (
    (λ level. (
      level-high w sound k n h l upper c level,
      (λ direct. input-value w sound k n h l c _ (level-same w sound k n h l upper c direct level)
          ∙ sym (pending-value w sound k n h l c)),
    )),
    (λ none. input-value w sound k n h l c false (no_value _ _ none)),
  )),
  one-domain (ℕ_discrete (source_at w.machine (32 * k + n)).mode 1024),
)
  where
    one-domain : Dec ((source_at w.machine (32 * k + n)).mode ≡ 1024)
        → (read_in w false (InClrip k) / 2 ^ n % 2 ≡ 0) ⊎ (read_in w true (InClrip k) / 2 ^ n % 2 ≡ 0)
    one-domain (yes e) = inl (input-value w sound k n h l false false (no_value _ _ (inr (inr e))))
    one-domain (no x) =
        let rules = (claim-73 w sound.0).0 sound.1 in
        inr (input-value w sound k n h l true false
        (no_value _ _ (inl (rules.undelegated (32 * k + n) l (omega arith) x))))

-- ---- what reads topi, and what reads a stored word

pub claim-145 : Claim-145
unfolding Claim-145 register_value
claim-145 d wires = (
  (λ h. (refl, refl, (λ m. ((topi-messages d h m).0, (topi-messages d h m).0)), topi-zero-iff d h)),
  (λ i. (refl, refl)),
)
