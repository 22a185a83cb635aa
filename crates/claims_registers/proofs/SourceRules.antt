-- The rules of one source, and the numbers that writes store, are the plain statements of specs/Rules.antt.
-- Assumes nothing.
use Prim.Native.Nat.{ℕ, ◌+◌, ◌*◌, ◌^◌, ◌≤◌}
use mathlib.Core.Path.{◌≡◌, refl, sym, ap, ◌∙◌}
use mathlib.Core.Bool.{Bool, true, false, cond, not, ◌&&◌, ◌||◌, true≢false}
use mathlib.Core.Logic.{◌≢◌, ◌↔◌, inl, inr, ⊎_elim}
use native.Mathlib.Omega.{arith}
use lib.Dec.{eqb}
use borrow.Author.Tests.{eqb-true, eqb-false, not-true}
use Rattle.words.specs.Bits.{bit_of, has_bit}
use Rattle.words.specs.Parts.{field_of, packed}
use Rattle.words.proofs.BitsLaws.{bit_of-lt, has_bit-none}
use Rattle.words.proofs.PartsLaws.{packed-is}
use Rattle.words.proofs.TestsLaws.{tested}
use Rattle.source_mode.specs.Mode.{is_active, is_level, is_rectified, source_word}
use Rattle.source_mode.proofs.ModeLaws.{kept-other, word-child-has, word-machine}
use Rattle.source_target.specs.Target.{hart_of, number_of, receiver_of, kept_target}
use Rattle.domain_genmsi.specs.Genmsi.{kept_genmsi}
use Rattle.source_target.proofs.TargetLaws.{kept-first, kept-priority}
use Rattle.source.specs.declared.Source.{Source}
use Rattle.source.specs.Pending.{inactive, candidate}
use Rattle.domain_domaincfg.specs.Domaincfg.{kept_domaincfg}
use Rattle.source_rules.specs.SourceRules.{level_rule, source_steady, sent_rule}
use Rattle.source_laws.proofs.ModeEffects.{range-cases, range-delegated}
use Rattle.source_laws.proofs.SteadyParts.{steady-mode, steady-target, steady-inactive, steady-level}
use Rattle.source_laws.proofs.SteadyParts.{steady-active, steady-zeros}
use Rattle.claims_registers.specs.Rules.{ModeStored, TargetStored, SourceRules}

-- ---- the ranges

bit_is : (v k x : ℕ) → cond (has_bit v k) x 0 ≡ bit_of v k * x
unfolding has_bit
bit_is v k x =
    tested (eqb (bit_of v k) 1) (λ t. rw (eqb-true (bit_of v k) 1 t) (omega arith))
    (λ f. let none : bit_of v k ≡ 0 = omega (arith, bit_of-lt v k, eqb-false (bit_of v k) 1 f) in
    rw none (omega arith))

-- a stored domaincfg is its two bits
pub domaincfg-is : (v : ℕ) → kept_domaincfg v ≡ cond (has_bit v 8) (2 ^ 8) 0 + cond (has_bit v 2) (2 ^ 2) 0
unfolding kept_domaincfg packed field_of bit_of
domaincfg-is v = omega (arith, bit_is v 8 (2 ^ 8), bit_is v 2 (2 ^ 2))

pub genmsi-is : (v : ℕ) → kept_genmsi v ≡ hart_of v * 2 ^ 18 + number_of v
unfolding kept_genmsi packed
genmsi-is v = refl

-- a sourcecfg
mode-on : (c : Bool) (v : ℕ) → v ≡ source_word c true v → ModeStored c v
mode-on c =
    let low : (v : ℕ) → v ≤ 7 → v ≢ 2 → v ≢ 3 → ModeStored c v = λ v a b d. inl (a, b, d) in
    range-cases (ModeStored c) (low 0 (omega arith) (λ e. omega arith) (λ e. omega arith))
    (low 1 (omega arith) (λ e. omega arith) (λ e. omega arith))
    (low 4 (omega arith) (λ e. omega arith) (λ e. omega arith))
    (low 5 (omega arith) (λ e. omega arith) (λ e. omega arith))
    (low 6 (omega arith) (λ e. omega arith) (λ e. omega arith))
    (low 7 (omega arith) (λ e. omega arith) (λ e. omega arith)) c (λ e. inr (e, refl))

mode-low : (c : Bool) (v : ℕ) → v ≤ 7 → v ≢ 2 → v ≢ 3 → source_word c true v ≡ v
unfolding field_of bit_of
mode-low c v h a b =
    let low : field_of v 0 3 ≡ v = omega arith in
    let none = has_bit-none v 10 (omega arith) in
    let kept = kept-other v (λ e. a (sym low ∙ e)) (λ e. b (sym low ∙ e)) ∙ low in
    tested c (λ t. word-child-has v c true t refl none ∙ kept) (λ f. word-machine v c true f none ∙ kept)

mode_of : (c : Bool) (v : ℕ) → ModeStored c v → v ≡ source_word c true v
mode_of c v =
    ⊎_elim (λ p. sym (mode-low c v p.0 p.1 p.2))
    (λ p. p.1 ∙ range-delegated c p.0 ∙ ap (source_word c true) (sym p.1))

-- a target with no priority is not stored with one
first-not : (t : ℕ) → number_of t ≡ 0 → t ≡ packed (hart_of t) 18 1 → ⊥
unfolding number_of hart_of packed field_of
first-not t z e = omega arith

target-direct : (c : Bool) (t : ℕ) → (t ≡ kept_target c false t) ↔ TargetStored c false t
target-direct c t =
    tested (eqb (number_of t) 0)
    (λ y. let z = eqb-true (number_of t) 0 y in (
      λ e. absurd (first-not t z (e ∙ kept-first c false t refl z)),
      λ p. absurd (omega (arith, z, p.1 refl)),
    ))
    (λ f. let n = eqb-false (number_of t) 0 f in
    let kept = kept-priority c false t refl n ∙ packed-is (hart_of t) 18 (number_of t) in (
      λ e. (omega (arith, e ∙ kept), λ r. omega (arith, n)),
      λ p. omega (arith, p.0) ∙ sym kept,
    ))

pub target-iff : (c m : Bool) (t : ℕ) → (t ≡ kept_target c m t) ↔ TargetStored c m t
unfolding kept_target receiver_of packed
target-iff true true t = (λ e. (omega arith, λ f. absurd (true≢false f)), λ p. omega (arith, p.0))
target-iff false true t = (λ e. (omega arith, λ f. absurd (true≢false f)), λ p. omega (arith, p.0))
target-iff c false t = target-direct c t

-- ---- a source

-- the rule of level sources, of a level source (l) with rectified value high and pending bit p
level-on : (l m high p : Bool) → (not l || ((not p || high) && (m || not high || p))) ≡ true
    → (l ≡ true → p ≡ true → high ≡ true) × (l ≡ true → m ≡ false → high ≡ true → p ≡ true)
level-on l m true true e = (λ a b. refl, λ a b d. refl)
level-on l m false false e = (λ a b. b, λ a b d. d)
level-on true m false true e = (λ a b. e, λ a b d. refl)
level-on false m false true e = (λ a b. a, λ a b d. refl)
level-on true true true false e = (λ a b. refl, λ a b d. sym b)
level-on true false true false e = (λ a b. refl, λ a b d. e)
level-on false m true false e = (λ a b. refl, λ a b d. a)

level-of : (l m high p : Bool) → (l ≡ true → p ≡ true → high ≡ true)
    → (l ≡ true → m ≡ false → high ≡ true → p ≡ true)
    → (not l || ((not p || high) && (m || not high || p))) ≡ true
level-of false m high p a b = refl
level-of true true true true a b = refl
level-of true true true false a b = refl
level-of true true false true a b = a refl refl
level-of true true false false a b = refl
level-of true false true true a b = refl
level-of true false true false a b = b refl refl refl
level-of true false false true a b = a refl refl
level-of true false false false a b = refl

sent-on : (sends active p e : Bool) → not (sends && (active && p && e)) ≡ true
    → sends ≡ true → active ≡ true → p ≡ true → e ≡ false
sent-on sends active p e rule a b c = not-true e (rw (a, b, c) at rule)

sent-of : (sends active p e : Bool) → (sends ≡ true → active ≡ true → p ≡ true → e ≡ false)
    → not (sends && (active && p && e)) ≡ true
sent-of true true true e f = rw (f refl refl refl)
sent-of true true false e f = refl
sent-of true false p e f = refl
sent-of false active p e f = refl

module _ (c m sends wire : Bool) (s : Source) where
  pub source-on : source_steady c m wire s ≡ true → sent_rule sends s ≡ true → SourceRules c m sends wire s
  unfolding level_rule sent_rule candidate
  source-on e q =
      let level = level-on (is_level s.mode) m (is_rectified s.mode wire) s.pending
      (steady-level c m wire s e) in
      let zeros = steady-inactive c m wire s e in
      record {
        mode = mode-on c s.mode (steady-mode c m wire s e);
        target = λ a. (target-iff c m s.target).0 (steady-target c m wire s e a);
        inactive = λ f. (
          ap (λ (x : Source). x.target) (zeros f),
          ap (λ (x : Source). x.pending) (zeros f),
          ap (λ (x : Source). x.enabled) (zeros f),
        );
        level = level.0;
        direct = level.1;
        sent = sent-on sends (is_active s.mode) s.pending s.enabled q;
      }

  module _ (r : SourceRules c m sends wire s) where
    pub source_of : source_steady c m wire s ≡ true
    unfolding level_rule
    source_of =
        let range = mode_of c s.mode r.mode in
        tested (is_active s.mode)
        (λ a. steady-active c m wire s a range ((target-iff c m s.target).1 (r.target a))
        (level-of (is_level s.mode) m (is_rectified s.mode wire) s.pending r.level r.direct))
        (λ f. let zeros = r.inactive f in
        let same : s ≡ inactive s.mode =
        λ k. record { mode = s.mode; target = zeros.0 k; pending = zeros.1 k; enabled = zeros.2 k } in
        rw same (steady-zeros c m wire s.mode range f))

    pub source-sent : sent_rule sends s ≡ true
    unfolding sent_rule candidate
    source-sent = sent-of sends (is_active s.mode) s.pending s.enabled r.sent
