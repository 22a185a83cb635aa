-- What one pass over the words of a domain's sources gathers; the words of one source are in SourceParts. No
-- claim cites this file. Assumes nothing.
--   slot_at c d i      the words of source i are in range (slot_sound)
--   has q d i          i is a source whose sourcecfg word has q
--   SoFar c d i g      g is what the sources below i give
--   Slotted .. g r     r is g with one source more
-- c says that the domain is the child, m is the delivery mode, true for messages.
use Rattle.std.specs.Prelude.{ℕ, ◌-◌, ◌≡◌, Bool, cond, not, ◌&&◌, eqb}
use Rattle.words.specs.Bits.{with_bit}
use Rattle.words.specs.Every.{every}
use Rattle.words_masks.specs.Masks.{gathered}
use Rattle.source_rules.specs.SourceParts.{held_back, occupied, straight_word, inverted_word, slot_sound}
use Rattle.domain.specs.Domain.{Domain, by_messages}
use Rattle.domain.specs.Slot.{source_at}
use Rattle.domain_slots.specs.declared.Gathered.{Gathered}

unfoldable pub slot_at : Bool → Domain → ℕ → Bool
slot_at c d i = slot_sound c (by_messages d) (source_at d i).mode (source_at d i).target

unfoldable pub has : (ℕ → Bool) → Domain → ℕ → Bool
has q d i = not (eqb i 0) && q (source_at d i).mode

pub record SoFar (c : Bool) (d : Domain) (i : ℕ) (g : Gathered) : Type 0 where
  pub faults : eqb g.faults 0 ≡ every (slot_at c d) 1 (i - 1)
  pub active : g.active ≡ gathered (has (occupied c) d) i
  pub delegated : g.delegated ≡ gathered (has (held_back c) d) i
  pub straight : g.straight ≡ gathered (has straight_word d) i
  pub inverted : g.inverted ≡ gathered (has inverted_word d) i

pub record Slotted (c m : Bool) (w t i : ℕ) (g r : Gathered) : Type 0 where
  pub faults : eqb r.faults 0 ≡ (eqb g.faults 0 && slot_sound c m w t)
  pub active : r.active ≡ cond (occupied c w) (with_bit g.active i) g.active
  pub delegated : r.delegated ≡ cond (held_back c w) (with_bit g.delegated i) g.delegated
  pub straight : r.straight ≡ cond (straight_word w) (with_bit g.straight i) g.straight
  pub inverted : r.inverted ≡ cond (inverted_word w) (with_bit g.inverted i) g.inverted
