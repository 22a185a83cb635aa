-- The rules of one source parted by what decides them: the words of a source and its bits together say what
-- the rule of a source says, and what a sourcecfg word is in each part. No contract cites this file. Assumes
-- nothing.
use Prim.Native.Nat.{ℕ, ◌<◌}
use mathlib.Core.Path.{◌≡◌, refl, sym, ap, ◌∙◌}
use mathlib.Core.Bool.{Bool, true, false, cond, not, ◌&&◌, ◌||◌, and-false, and_comm}
use mathlib.Core.Logic.{◌≢◌, inr}
use native.Mathlib.Decide.{ℕ_discrete}
use native.Mathlib.Omega.{arith}
use lib.Bits.{bit_or}
use lib.Dec.{eqb, leb}
use borrow.Author.Tests.{eq-eqb, ne_eqb, eqb-true, eqb-false, not-true, not-false, lt-ltb, le-leb, lt-leb}
use Rattle.words.specs.Bits.{has_bit, bit_of}
use Rattle.words.specs.Parts.{field_of}
use Rattle.words.proofs.BitsLaws.{has_bit-none}
use Rattle.words.proofs.ZerosLaws.{bit_of-high}
use Rattle.words.proofs.TestsLaws.{tested, not_same, and_first, and_second}
use Rattle.words_masks.proofs.MasksLaws.{or-none}
use Rattle.source_mode.specs.Mode.{is_active, kept_mode, source_word}
use Rattle.source_mode.proofs.ModeLaws.{active-zero, active-other, level-one, level-other}
use Rattle.source_mode.proofs.ModeLaws.{rectified-straight, rectified-inverted, kept-lt, word-child-bit}
use Rattle.source_mode.proofs.ModeLaws.{word-delegated, word-child-has, word-machine}
use Rattle.source_target.specs.Target.{kept_target}
use Rattle.source.specs.declared.Source.{Source}
use Rattle.source.specs.Pending.{candidate}
use Rattle.source_rules.specs.SourceRules.{mode_range, target_range, inactive_rule, level_rule, source_steady}
use Rattle.source_rules.specs.SourceRules.{sent_rule, source_sound}
use Rattle.source_rules.specs.SourceParts.{held_back, occupied, straight_word, inverted_word, slot_sound}
use Rattle.source_rules.specs.SourceParts.{bits_sound}
use Rattle.source_laws.proofs.SteadyParts.{steady-mode}

-- ---- what a sourcecfg word says

module _ (c : Bool) (w : ℕ) where
  pub none-occupied : w ≡ 0 → occupied c w ≡ false
  unfolding occupied
  none-occupied e = simp (eq-eqb w 0 e)

  pub none-held : w ≡ 0 → held_back c w ≡ false
  unfolding held_back
  none-held e = rw (ne_eqb w 1024 (λ q. omega arith)) (and-false (not c))

  pub held-occupied : held_back c w ≡ true → occupied c w ≡ false
  unfolding occupied
  held-occupied e = rw e (and-false (not (eqb w 0)))

  pub held_word : held_back c w ≡ true → w ≡ 1024
  unfolding held_back
  held_word e = eqb-true w 1024 (and_second (not c) (eqb w 1024) e)

  pub else-occupied : w ≢ 0 → held_back c w ≡ false → occupied c w ≡ true
  unfolding occupied
  else-occupied n f = simp (ne_eqb w 0 n, f)

  pub occupied-held : occupied c w ≡ true → held_back c w ≡ false
  unfolding occupied
  occupied-held e = not-true (held_back c w) (and_second (not (eqb w 0)) (not (held_back c w)) e)

  -- what the code tests
  pub held-read : {b : Bool} → (not c && eqb w 1024) ≡ b → held_back c w ≡ b
  unfolding held_back
  held-read e = e

pub occupied-child : (w : ℕ) → occupied true w ≡ (not (eqb w 0) && true)
unfolding occupied held_back
occupied-child w = refl

pub held-machine : (w : ℕ) → held_back false w ≡ eqb w 1024
unfolding held_back
held-machine w = refl

-- ---- what one source adds

rearranged : (a b d : Bool) → (a && b && d) ≡ (a && (d && b))
rearranged true true true = refl
rearranged true true false = refl
rearranged true false true = refl
rearranged true false false = refl
rearranged false b d = refl

module _ (c m : Bool) (w t f : ℕ) where
  pub faults-occupied : (x y : ℕ) → occupied c w ≡ true
      → eqb x 0 ≡ eqb t (kept_target c m t) → eqb y 0 ≡ eqb w (kept_mode w)
      → eqb (bit_or (bit_or f x) y) 0 ≡ (eqb f 0 && slot_sound c m w t)
  unfolding slot_sound
  faults-occupied x y o p q =
      or-none (bit_or f x) y ∙ (λ k. or-none f x k && q k) ∙ (λ k. eqb f 0 && p k && eqb w (kept_mode w))
      ∙ rearranged (eqb f 0) (eqb t (kept_target c m t)) (eqb w (kept_mode w)) ∙ simp o

  pub faults-empty : occupied c w ≡ false → eqb (bit_or f t) 0 ≡ (eqb f 0 && slot_sound c m w t)
  unfolding slot_sound
  faults-empty o = or-none f t ∙ simp o

-- a level's word, and any other
module _ (w x y : ℕ) where
  pub straight-on : w ≡ 6 → cond (straight_word w) x y ≡ x
  unfolding straight_word
  straight-on e = simp (eq-eqb w 6 e)

  pub straight-off : w ≢ 6 → cond (straight_word w) x y ≡ y
  unfolding straight_word
  straight-off n = simp (ne_eqb w 6 n)

  pub inverted-on : w ≡ 7 → cond (inverted_word w) x y ≡ x
  unfolding inverted_word
  inverted-on e = simp (eq-eqb w 7 e)

  pub inverted-off : w ≢ 7 → cond (inverted_word w) x y ≡ y
  unfolding inverted_word
  inverted-off n = simp (ne_eqb w 7 n)

-- ---- the level rule of one source

-- what the two words say of a source
abbrev low_high : (m s v w p : Bool) → Bool
low_high m s v w p =
    not (p && ((s && not w) || (v && w))) && (m || not (((s && w) || (v && not w)) && not p))

level-straight : (m w p : Bool) → low_high m true false w p ≡ ((not p || w) && (m || not w || p))
level-straight true true true = refl
level-straight true true false = refl
level-straight true false true = refl
level-straight true false false = refl
level-straight false true true = refl
level-straight false true false = refl
level-straight false false true = refl
level-straight false false false = refl

level-inverted : (m w p : Bool) → low_high m false true w p ≡ ((not p || not w) && (m || not (not w) || p))
level-inverted true true true = refl
level-inverted true true false = refl
level-inverted true false true = refl
level-inverted true false false = refl
level-inverted false true true = refl
level-inverted false true false = refl
level-inverted false false true = refl
level-inverted false false false = refl

level-none : (m w p : Bool) → low_high m false false w p ≡ true
level-none true w true = refl
level-none true w false = refl
level-none false w true = refl
level-none false w false = refl

module _ (m wire : Bool) (s : Source) where
  abbrev by_words : Type 0
  by_words = low_high m (straight_word s.mode) (inverted_word s.mode) wire s.pending ≡ level_rule m wire s

  pub level-words : by_words
  unfolding level_rule straight_word inverted_word
  level-words = at (ℕ_discrete s.mode 6) (ℕ_discrete s.mode 7)
    where
      at : Dec (s.mode ≡ 6) → Dec (s.mode ≡ 7) → by_words
      at (yes a) b =
          simp (
            eq-eqb s.mode 6 a,
            ne_eqb s.mode 7 (λ e. omega arith),
            level-one s.mode a,
            rectified-straight wire s.mode (inr a),
          ) (level-straight m wire s.pending)
      at (no a) (yes b) =
          simp (
            ne_eqb s.mode 6 a,
            eq-eqb s.mode 7 b,
            level-other s.mode a,
            rectified-inverted wire s.mode (inr b),
          ) (level-inverted m wire s.pending)
      at (no a) (no b) =
          simp (ne_eqb s.mode 6 a, ne_eqb s.mode 7 b, level-other s.mode a)
          (level-none m wire s.pending)

pub bits_are : (c m e wire : Bool) (s : Source) → bits_sound c m e wire s
    ≡ ((occupied c s.mode || (not s.pending && not s.enabled))
    && not (e && s.pending && s.enabled) && level_rule m wire s)
unfolding bits_sound
bits_are c m e wire s = refl

-- ---- the word of a source

module _ (c : Bool) (w : ℕ) where
  kept_word : has_bit w 10 ≡ false → source_word c true w ≡ kept_mode w
  kept_word b =
      tested c (λ t. word-child-has w c true t refl b) (λ f. word-machine w c true f b)

  kept-active : occupied c w ≡ true → eqb w (kept_mode w) ≡ true → is_active w ≡ true
  unfolding occupied
  kept-active o e =
      let small = kept-lt w in
      let n = not-true (eqb w 0) (and_first (not (eqb w 0)) (not (held_back c w)) o) in
      active-other w (eqb-false w 0 n) ∙ lt-ltb w 1024 (omega (arith, eqb-true w (kept_mode w) e))

  -- with bit 10 no occupied word is in range
  bit-refused : occupied c w ≡ true → has_bit w 10 ≡ true → w ≢ source_word c true w
  unfolding occupied held_back
  bit-refused o b e =
      tested c
      (λ t. not_same (eqb w 0) (eq-eqb w 0 (e ∙ word-child-bit w c true t b))
      (not-true (eqb w 0) (and_first (not (eqb w 0)) (not (held_back c w)) o)))
      (λ f. not_same (held_back c w)
      (rw (f, eq-eqb w 1024 (e ∙ word-delegated w c true f b)))
      (not-true (held_back c w) (and_second (not (eqb w 0)) (not (held_back c w)) o)))

  kept-bit : eqb w (kept_mode w) ≡ true → has_bit w 10 ≡ false
  kept-bit e =
      has_bit-none w 10
      (bit_of-high 10 w 10 (omega (arith, kept-lt w, eqb-true w (kept_mode w) e)) (omega arith))

  -- an occupied word is in range exactly if it is a mode that a write keeps
  word-occupied : occupied c w ≡ true → eqb w (source_word c true w) ≡ eqb w (kept_mode w)
  word-occupied o =
      tested (has_bit w 10)
      (λ t. ne_eqb w (source_word c true w) (bit-refused o t)
      ∙ sym (ne_eqb w (kept_mode w) (λ e. not_same (has_bit w 10) t (kept-bit (eq-eqb w (kept_mode w) e)))))
      (λ f. ap (eqb w) (kept_word f))

word-zero : (c : Bool) → eqb 0 (source_word c true 0) ≡ true
unfolding source_word kept_mode has_bit bit_of field_of
word-zero true = refl
word-zero false = refl

word_held : eqb 1024 (source_word false true 1024) ≡ true
unfolding source_word has_bit bit_of
word_held = refl

active-held : is_active 1024 ≡ false
unfolding is_active
active-held = refl

-- a word that is not occupied is 0 or delegates: it is in range, and its source is not active
word-empty : (c : Bool) (w : ℕ) → occupied c w ≡ false
    → (eqb w (source_word c true w) ≡ true) × (is_active w ≡ false)
unfolding occupied held_back
word-empty c w o =
    tested (eqb w 0)
    (λ t. let z = eqb-true w 0 t in (rw z (word-zero c), active-zero w z))
    (λ f. let held = simp f at o in
    let both = not-false (held_back c w) held in
    let z = eqb-true w 1024 (and_second (not c) (eqb w 1024) both) in
    let d = not-true c (and_first (not c) (eqb w 1024) both) in
    (rw (z, d) word_held, rw z active-held))

-- ---- the rules of one source, from its words and its bits

-- an active source: t its target, l its level; e, p and q say together that it is to be sent
active-parts : (t e p q l : Bool) → (t && (not (e && p && q) && l)) ≡ (t && true && l && not (e && (p && q)))
active-parts true true p q l = and_comm (not (p && q)) l
active-parts true false p q true = refl
active-parts true false p q false = refl
active-parts false e p q l = refl

-- an inactive one, with target z, pending p and enabled e
inactive-parts : (z p e s l : Bool)
    → (z && ((false || (not p && not e)) && not (s && p && e) && l)) ≡ (z && not p && not e && l && true)
inactive-parts true true e s l = refl
inactive-parts true false true s l = refl
inactive-parts true false false true true = refl
inactive-parts true false false true false = refl
inactive-parts true false false false true = refl
inactive-parts true false false false false = refl
inactive-parts false p e s l = refl

module _ (c m e wire : Bool) (s : Source) where
  abbrev parts : Bool
  parts = slot_sound c m s.mode s.target && bits_sound c m e wire s

  parts-occupied : occupied c s.mode ≡ true → parts ≡ source_sound c m e wire s
  unfolding slot_sound bits_sound source_sound source_steady mode_range target_range inactive_rule sent_rule
      candidate
  parts-occupied o =
      tested (eqb s.mode (kept_mode s.mode))
      (λ t. simp (o, word-occupied c s.mode o, t, kept-active c s.mode o t)
      ((active-parts (eqb s.target (kept_target c m s.target)) e s.pending s.enabled
      (level_rule m wire s))))
      (λ f. simp (o, word-occupied c s.mode o, f))

  parts-empty : occupied c s.mode ≡ false → parts ≡ source_sound c m e wire s
  unfolding slot_sound bits_sound source_sound source_steady mode_range target_range inactive_rule sent_rule
      candidate
  parts-empty o =
      let empty = word-empty c s.mode o in
      simp (o, empty.0, empty.1, and-false)
      (inactive-parts (eqb s.target 0) s.pending s.enabled e (level_rule m wire s))

  pub source-parts : parts ≡ source_sound c m e wire s
  source-parts = tested (occupied c s.mode) parts-occupied parts-empty

-- in range, the word of a source of the machine domain is below 8, or it delegates
pub word-machine-delegates : (w : ℕ) → eqb w (source_word false true w) ≡ true → leb 1024 w ≡ eqb w 1024
word-machine-delegates w e =
    tested (has_bit w 10)
    (λ t. let z = eqb-true w (source_word false true w) e ∙ word-delegated w false true refl t in
    le-leb 1024 w (omega arith) ∙ sym (eq-eqb w 1024 z))
    (λ f. let z = eqb-true w (source_word false true w) e ∙ word-machine w false true refl f in
    lt-leb 1024 w (omega (arith, kept-lt w)) ∙ sym (ne_eqb w 1024 (λ q. omega (arith, kept-lt w))))

pub sound-word : (c m e wire : Bool) (s : Source) → source_sound c m e wire s ≡ true
    → eqb s.mode (source_word c true s.mode) ≡ true
unfolding source_sound
sound-word c m e wire s sound =
    eq-eqb s.mode (source_word c true s.mode)
    (steady-mode c m wire s (and_first (source_steady c m wire s) (sent_rule e s) sound))
