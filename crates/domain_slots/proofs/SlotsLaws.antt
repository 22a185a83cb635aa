-- Laws of specs/Slots.antt: one source more in the pass over the words. No contract cites this file. Assumes
-- nothing.
use Prim.Native.Nat.{ℕ, ◌+◌, ◌-◌, ◌≤◌, ◌<◌}
use mathlib.Core.Path.{◌≡◌, refl, sym, ap, transport, ◌∙◌}
use mathlib.Core.Bool.{Bool, true, false, cond, not, ◌&&◌}
use mathlib.Core.Logic.{◌≢◌}
use native.Mathlib.Omega.{arith}
use lib.Bits.{bit_or}
use lib.Dec.{eqb}
use borrow.Author.Tests.{ne_eqb}
use Rattle.words.specs.Bits.{has_bit, with_bit}
use Rattle.words.specs.Every.{every}
use Rattle.words.proofs.EveryLaws.{every-none, every_more}
use Rattle.words_masks.specs.Masks.{gathered}
use Rattle.words_masks.proofs.MasksLaws.{gathered-first, gathered-more, has_bit-gathered}
use Rattle.source_mode.specs.Mode.{kept_mode}
use Rattle.source_target.specs.Target.{kept_target}
use Rattle.source.specs.declared.Source.{Source}
use Rattle.source_rules.specs.SourceParts.{held_back, occupied, straight_word, inverted_word, slot_sound}
use Rattle.source_laws.proofs.PartsEffects.{occupied-held, straight-off, inverted-off, faults-occupied}
use Rattle.source_laws.proofs.PartsEffects.{faults-empty}
use Rattle.domain.specs.Domain.{Domain, by_messages}
use Rattle.domain.specs.Slot.{source_at}
use Rattle.domain_slots.specs.declared.Gathered.{Gathered}
use Rattle.domain_slots.specs.Slots.{slot_at, has, SoFar, Slotted}

-- ---- what one source adds

pub chosen_on : (b : Bool) (x y : ℕ) → b ≡ true → cond b x y ≡ x
chosen_on b x y e = simp e

pub chosen-off : (b : Bool) (x y : ℕ) → b ≡ false → cond b x y ≡ y
chosen-off b x y e = simp e

-- a source whose word is occupied, by what the code left of each field
module _ (c m : Bool) (w t i : ℕ) (g : Gathered) (o : occupied c w ≡ true) where
  pub slotted-occupied : (x y : ℕ) {a s v : ℕ}
      → eqb x 0 ≡ eqb t (kept_target c m t) → eqb y 0 ≡ eqb w (kept_mode w) → a ≡ with_bit g.active i
      → s ≡ cond (straight_word w) (with_bit g.straight i) g.straight
      → v ≡ cond (inverted_word w) (with_bit g.inverted i) g.inverted
      → Slotted c m w t i g
      (record {
        faults = bit_or (bit_or g.faults x) y;
        active = a;
        delegated = g.delegated;
        straight = s;
        inverted = v;
      })
  slotted-occupied x y p q a s v = record {
    faults = faults-occupied c m w t g.faults x y o p q;
    active = a ∙ sym (chosen_on (occupied c w) (with_bit g.active i) g.active o);
    delegated =
        sym (chosen-off (held_back c w) (with_bit g.delegated i) g.delegated (occupied-held c w o));
    straight = s;
    inverted = v;
  }

-- a source that is none of the domain's: it has no bit but, where it is held back, that of delegation
module _ (c m : Bool) (w t i : ℕ) (g : Gathered) (o : occupied c w ≡ false) (a : w ≢ 6) (b : w ≢ 7) where
  pub slotted-empty : {x : ℕ} → x ≡ cond (held_back c w) (with_bit g.delegated i) g.delegated
      → Slotted c m w t i g
      (record {
        faults = bit_or g.faults t;
        active = g.active;
        delegated = x;
        straight = g.straight;
        inverted = g.inverted;
      })
  slotted-empty x = record {
    faults = faults-empty c m w t g.faults o;
    active = sym (chosen-off (occupied c w) (with_bit g.active i) g.active o);
    delegated = x;
    straight = sym (straight-off w (with_bit g.straight i) g.straight a);
    inverted = sym (inverted-off w (with_bit g.inverted i) g.inverted b);
  }

-- ---- the sources so far

-- a bit more of what is gathered
module _ (q : ℕ → Bool) (d : Domain) (i : ℕ) (h : 0 < i) where
  pub has_more : {x y : ℕ} → x ≡ gathered (has q d) i
      → y ≡ cond (q (source_at d i).mode) (with_bit x i) x → y ≡ gathered (has q d) (i + 1)
  unfolding has
  has_more e n = n ∙ (λ k. cond (q (source_at d i).mode) (with_bit (e k) i) (e k))
      ∙ ap (λ (b : Bool). cond (not b && q (source_at d i).mode) (with_bit (gathered (has q d) i) i)
      (gathered (has q d) i)) (sym (ne_eqb i 0 (λ z. omega arith)))
      ∙ sym (gathered-more (has q d) i)

none-gathered : (q : ℕ → Bool) (d : Domain) → 0 ≡ gathered (has q d) 1
unfolding has
none-gathered q d = gathered-first (has q d) refl

pub so-far-none : (c : Bool) (d : Domain)
    → SoFar c d 1 (record { faults = 0; active = 0; delegated = 0; straight = 0; inverted = 0 })
so-far-none c d = record {
  faults = sym (every-none (slot_at c d) 1);
  active = none-gathered (occupied c) d;
  delegated = none-gathered (held_back c) d;
  straight = none-gathered straight_word d;
  inverted = none-gathered inverted_word d;
}

-- the place of the next source, counted otherwise
pub so-far-at : (c : Bool) (d : Domain) {i k : ℕ} {g : Gathered} → i ≡ k → SoFar c d i g → SoFar c d k g
so-far-at c d {i} {k} {g} e s = transport (λ j. SoFar c d (e j) g) s

module _ (c : Bool) (d : Domain) (i : ℕ) (g r : Gathered) (h : 0 < i) where
  pub so_far_more : SoFar c d i g → Slotted c (by_messages d) (source_at d i).mode
      (source_at d i).target i g r
      → SoFar c d (i + 1) r
  unfolding slot_at
  so_far_more s n = record {
    faults =
        n.faults ∙ (λ k. s.faults k && slot_at c d i)
        ∙ (let e : i ≡ 1 + (i - 1) = omega arith in
        ap (λ (j : ℕ). every (slot_at c d) 1 (i - 1) && slot_at c d j) e)
        ∙ sym (every_more (slot_at c d) 1 (i - 1))
        ∙ (let e : (i - 1) + 1 ≡ (i + 1) - 1 = omega arith in ap (every (slot_at c d) 1) e);
    active = has_more (occupied c) d i h s.active n.active;
    delegated = has_more (held_back c) d i h s.delegated n.delegated;
    straight = has_more straight_word d i h s.straight n.straight;
    inverted = has_more inverted_word d i h s.inverted n.inverted;
  }

  pub slotted-read : {m : Bool} {x : Source} → m ≡ by_messages d → x ≡ source_at d i
      → Slotted c m x.mode x.target i g r
      → Slotted c (by_messages d) (source_at d i).mode (source_at d i).target i g r
  slotted-read p q s = transport (λ k. Slotted c (p k) (q k).mode (q k).target i g r) s

-- ---- what the pass says in the end

-- what is gathered, at a source and at 0
module _ (q : ℕ → Bool) (d : Domain) (x : ℕ) (g : x ≡ gathered (has q d) 64) where
  pub bit-of : (j : ℕ) → 1 ≤ j → j < 64 → has_bit x j ≡ q (source_at d j).mode
  unfolding has
  bit-of j l h = ap (λ (w : ℕ). has_bit w j) g ∙ has_bit-gathered (has q d) 64 j h
      ∙ ap (λ (b : Bool). not b && q (source_at d j).mode) (ne_eqb j 0 (λ e. omega arith))

  pub bit-zero : has_bit x 0 ≡ false
  unfolding has
  bit-zero = ap (λ (w : ℕ). has_bit w 0) g ∙ has_bit-gathered (has q d) 64 0 (omega arith)

-- the words of a source are in range, by the definition of one source
pub slot-at : (c : Bool) (d : Domain) (i : ℕ)
    → slot_at c d i ≡ slot_sound c (by_messages d) (source_at d i).mode (source_at d i).target
unfolding slot_at
slot-at c d i = refl
