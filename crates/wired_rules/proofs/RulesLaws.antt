-- Laws of specs/Rules.antt: a rule tested on what was read is the rule. No contract cites this file.
-- Assumes nothing.
use Prim.Native.Nat.{ℕ, ◌+◌, ◌≤◌, ◌<◌}
use mathlib.Core.Path.{◌≡◌, refl, sym, ap, ◌∙◌}
use mathlib.Core.Bool.{Bool, true, false, not, ◌&&◌, ◌||◌, and-false}
use mathlib.Core.List.{List}
use native.Mathlib.Nat.{lt_of_le_of_lt}
use native.Mathlib.Omega.{arith}
use lib.Dec.{eqb}
use Rattle.words.specs.Bits.{has_bit, without}
use Rattle.words.specs.Sets.{member}
use Rattle.words.specs.Every.{every}
use Rattle.words.proofs.BitsLaws.{has_bit-without, without-le}
use Rattle.words.proofs.EveryLaws.{every-each, every-both, every-same, every_first}
use Rattle.words.proofs.TestsLaws.{tested, and_second}
use Rattle.words_masks.specs.Masks.{gathered}
use Rattle.words_masks.proofs.MasksLaws.{gathered-lt, none-every}
use Rattle.source_mode.specs.Mode.{source_word}
use Rattle.source.specs.declared.Source.{Source}
use Rattle.source_rules.specs.SourceRules.{source_sound}
use Rattle.source_rules.specs.SourceParts.{held_back, occupied}
use Rattle.source_laws.proofs.PartsEffects.{occupied-child, held-machine, source-parts}
use Rattle.source_laws.proofs.PartsEffects.{word-machine-delegates, sound-word}
use Rattle.domain.specs.Domain.{Domain, by_messages, sends}
use Rattle.domain.specs.Slot.{source_at}
use Rattle.wired_state.specs.Wires.{Wired}
use Rattle.wired_state.proofs.WiresLaws.{delegated-mode}
use Rattle.wired_rules.specs.Rules.{domaincfg_range, genmsi_range, structure_range, source_zero_rule}
use Rattle.wired_rules.specs.Rules.{genmsi_rule}
use Rattle.wired_rules.specs.Rules.{source_rule, domain_sound, delegated_rule, wired_sound}
use Rattle.domain_slots.specs.Slots.{slot_at, has}
use Rattle.domain_slots.proofs.SlotsLaws.{bit-of, bit-zero, slot-at}
use Rattle.wired_rules.specs.Bits.{bits_at}

-- ---- the rules of a domain, and of both

pub source-rules-read : (c : Bool) (ws : List ℕ) (d : Domain)
    → (every (slot_at c d) 1 63 && every (bits_at c ws d) 1 63) ≡ every (source_rule c ws d) 1 63
unfolding bits_at source_rule
source-rules-read c ws d =
    every-both (slot_at c d) (bits_at c ws d) 1 63
    ∙ every-same (λ j. slot_at c d j && bits_at c ws d j) (source_rule c ws d) 1 63
    (λ j l h. ap (λ (b : Bool). b && bits_at c ws d j) (slot-at c d j)
    ∙ source-parts c (by_messages d) (sends d) (member ws j) (source_at d j))

-- the rules of a domain as the code groups them
grouped : (a b g z e s w r : Bool)
    → (a && (b && g) && s && w && (z && e && r)) ≡ (a && b && g && z && e && s && (w && r))
grouped false b g z e s w r = refl
grouped true false g z e s w r = refl
grouped true true false z e s w r = refl
grouped true true true true true true w r = refl
grouped true true true true true false w r = refl
grouped true true true true false true true r = refl
grouped true true true true false true false r = refl
grouped true true true true false false w r = refl
grouped true true true false e true true r = refl
grouped true true true false e true false r = refl
grouped true true true false e false w r = refl

pub domain-sound-read : (c : Bool) (ws : List ℕ) (d : Domain) {p q s w r : Bool}
    → p ≡ domaincfg_range d → q ≡ (genmsi_range d && genmsi_rule d) → s ≡ every (structure_range d) 0 4
    → w ≡ every (slot_at c d) 1 63
    → r ≡ (source_zero_rule d.pending && source_zero_rule d.enable && every (bits_at c ws d) 1 63)
    → (p && q && s && w && r) ≡ domain_sound c ws d
unfolding domain_sound
domain-sound-read c ws d p q s w r =
    (λ k. p k && q k && s k && w k && r k)
    ∙ grouped (domaincfg_range d) (genmsi_range d) (genmsi_rule d) (source_zero_rule d.pending)
    (source_zero_rule d.enable) (every (structure_range d) 0 4) (every (slot_at c d) 1 63)
    (every (bits_at c ws d) 1 63)
    ∙ ap (λ (b : Bool). domaincfg_range d && genmsi_range d && genmsi_rule d && source_zero_rule d.pending
    && source_zero_rule d.enable && every (structure_range d) 0 4 && b) (source-rules-read c ws d)

module _ (ws : List ℕ) (d : Domain) (sound : domain_sound false ws d ≡ true) (j : ℕ) (l : 1 ≤ j)
    (h : j < 64) where
  abbrev s : Source
  s = source_at d j

  abbrev wire : Bool
  wire = member ws j

  source_sound_lem : source_sound false (by_messages d) (sends d) wire s ≡ true
  unfolding domain_sound source_rule
  source_sound_lem =
      every-each (source_rule false ws d) 1 63
      (and_second (domaincfg_range d && genmsi_range d && genmsi_rule d && source_zero_rule d.pending
      && source_zero_rule d.enable && every (structure_range d) 0 4) (every (source_rule false ws d) 1 63)
      sound)
      j l (omega arith)

  word_sound : eqb s.mode (source_word false true s.mode) ≡ true
  word_sound = sound-word false (by_messages d) (sends d) wire s source_sound_lem

taken-rule : (z h : Bool) → not (not z && true && not h) ≡ (h || z)
taken-rule true true = refl
taken-rule true false = refl
taken-rule false true = refl
taken-rule false false = refl

module _ (w : Wired) (sound : domain_sound false w.wires w.machine ≡ true) where
  abbrev taken : ℕ
  taken = gathered (has (occupied true) w.child) 64

  abbrev given : ℕ
  given = gathered (has (held_back false) w.machine) 64

  -- the child has a source only where the machine domain delegates it
  delegated-word : eqb (without taken given) 0 ≡ every (delegated_rule w) 1 63
  unfolding delegated_rule
  delegated-word =
      none-every 64 (without taken given) (lt_of_le_of_lt (without-le taken given) (gathered-lt _ 64))
      ∙ every_first (λ j. not (has_bit (without taken given) j)) 63
      ∙ (λ k. first k && every-same (λ j. not (has_bit (without taken given) j))
      (delegated_rule w) 1 63 each k)
    where
      first : not (has_bit (without taken given) 0) ≡ true
      first = ap not (has_bit-without taken given 0
          ∙ ap (λ (b : Bool). b && not (has_bit given 0)) (bit-zero (occupied true) w.child taken refl))

      each : (j : ℕ) → 1 ≤ j → j < 1 + 63 → not (has_bit (without taken given) j) ≡ delegated_rule w j
      each j l h =
          ap not (has_bit-without taken given j
          ∙ (λ k. bit-of (occupied true) w.child taken refl j l (omega arith) k
          && not (bit-of (held_back false) w.machine given refl j l (omega arith) k))
          ∙ (λ k. occupied-child (source_at w.child j).mode k
          && not (held-machine (source_at w.machine j).mode k)))
          ∙ taken-rule (eqb (source_at w.child j).mode 0) (eqb (source_at w.machine j).mode 1024)
          ∙ ap (λ (b : Bool). b || eqb (source_at w.child j).mode 0)
          (sym (word-machine-delegates (source_at w.machine j).mode
          (word_sound w.wires w.machine sound j l (omega arith)))
          ∙ sym (delegated-mode w j))

pub wired-sound-read : (w : Wired) {p q r : Bool} {x : ℕ}
    → p ≡ member w.wires 0 → q ≡ domain_sound false w.wires w.machine
    → r ≡ domain_sound true w.wires w.child
    → x ≡ without (gathered (has (occupied true) w.child) 64)
    (gathered (has (held_back false) w.machine) 64)
    → (not p && q && r && eqb x 0) ≡ wired_sound w
unfolding wired_sound source_zero_rule
wired-sound-read w p q r x =
    (λ k. not (p k) && q k && r k && eqb (x k) 0)
    ∙ tested (domain_sound false w.wires w.machine)
    (λ t. ap (λ (b : Bool). not (member w.wires 0) && domain_sound false w.wires w.machine
    && domain_sound true w.wires w.child && b) (delegated-word w t))
    (λ f. simp (f, and-false))

-- for the rules of a domain
pub ruleset read = (domain-sound-read)
