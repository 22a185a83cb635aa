-- The bits of all sources at once are the rules of each. No contract cites this file. Assumes nothing.
use Prim.Native.Nat.{ℕ, ◌^◌, ◌≤◌, ◌<◌}
use mathlib.Core.Path.{◌≡◌, refl, sym, ap, transport, ◌∙◌}
use mathlib.Core.Bool.{Bool, true, false, not, ◌&&◌, ◌||◌}
use mathlib.Core.List.{List}
use native.Mathlib.Omega.{arith}
use lib.ListN.{get_or}
use Rattle.words.specs.Bits.{has_bit}
use Rattle.words.specs.Parts.{joined}
use Rattle.words.specs.Sets.{member}
use Rattle.words.specs.Every.{every}
use Rattle.words.proofs.SetsLaws.{member-word}
use Rattle.words.proofs.EveryLaws.{and_assoc, every-both, every-same, every_first}
use Rattle.words_masks.proofs.MasksLaws.{has_bit-set}
use Rattle.source_rules.specs.SourceParts.{occupied, straight_word, inverted_word}
use Rattle.source_laws.proofs.PartsEffects.{level-words, bits_are}
use Rattle.domain.specs.Domain.{Domain, is_enabled, by_messages, sends}
use Rattle.domain.specs.Slot.{source_at}
use Rattle.domain.proofs.SlotLaws.{pending-word, enable-word}
use Rattle.domain_slots.specs.declared.Gathered.{Gathered}
use Rattle.domain_slots.specs.Slots.{SoFar}
use Rattle.domain_slots.proofs.SlotsLaws.{bit-of, bit-zero}
use Rattle.wired_rules.specs.Rules.{source_zero_rule}
use Rattle.wired_rules.specs.Bits.{bits_at}

at_zero : (p e s m w : Bool)
    → ((false || (not p && not e)) && not (s && p && e)
    && not (p && ((false && not w) || (false && w)))
    && (m || not (((false && w) || (false && not w)) && not p)))
    ≡ (not p && not e)
at_zero true e s m w = refl
at_zero false true true true w = refl
at_zero false true true false w = refl
at_zero false true false true w = refl
at_zero false true false false w = refl
at_zero false false true true w = refl
at_zero false false true false w = refl
at_zero false false false true w = refl
at_zero false false false false w = refl

module _ (c : Bool) (ws : List ℕ) (d : Domain) (g : Gathered) (so : SoFar c d 64 g) (p e w : ℕ) where
  abbrev M : Bool
  M = by_messages d

  abbrev unused : ℕ → Bool
  unused j = has_bit g.active j || (not (has_bit p j) && not (has_bit e j))

  abbrev unsent : ℕ → Bool
  unsent j = not (sends d && has_bit p j && has_bit e j)

  abbrev low : ℕ → Bool
  low j =
      not (has_bit p j
      && ((has_bit g.straight j && not (has_bit w j)) || (has_bit g.inverted j && has_bit w j)))

  abbrev missing : ℕ → Bool
  missing j =
      M || not (((has_bit g.straight j && has_bit w j) || (has_bit g.inverted j && not (has_bit w j)))
      && not (has_bit p j))

  abbrev each : ℕ → Bool
  each j = unused j && unsent j && low j && missing j

  gathered-each : (every unused 0 64 && every unsent 0 64 && every low 0 64 && every missing 0 64)
      ≡ every each 0 64
  gathered-each =
      ap (λ (b : Bool). b && every low 0 64 && every missing 0 64) (every-both unused unsent 0 64)
      ∙ ap (λ (b : Bool). b && every missing 0 64) (every-both (λ j. unused j && unsent j) low 0 64)
      ∙ every-both (λ j. unused j && unsent j && low j) missing 0 64

  module _ (hp : (j : ℕ) → j < 64 → has_bit p j ≡ member d.pending j)
      (he : (j : ℕ) → j < 64 → has_bit e j ≡ member d.enable j)
      (hw : (j : ℕ) → j < 64 → has_bit w j ≡ member ws j) where
    each-zero : each 0 ≡ (source_zero_rule d.pending && source_zero_rule d.enable)
    unfolding source_zero_rule
    each-zero =
        let a = bit-zero (occupied c) d g.active so.active in
        let s = bit-zero straight_word d g.straight so.straight in
        let v = bit-zero inverted_word d g.inverted so.inverted in
        let x = hp 0 (omega arith) in
        let y = he 0 (omega arith) in
        (λ k. (a k || (not (x k) && not (y k))) && not (sends d && x k && y k)
        && not (x k && ((s k && not (has_bit w 0)) || (v k && has_bit w 0)))
        && (M || not (((s k && has_bit w 0) || (v k && not (has_bit w 0))) && not (x k))))
        ∙ at_zero (member d.pending 0) (member d.enable 0) (sends d) M (has_bit w 0)

    each-source : (j : ℕ) → 1 ≤ j → j < 64 → each j ≡ bits_at c ws d j
    unfolding bits_at
    each-source j l h =
        let a = bit-of (occupied c) d g.active so.active j l h in
        let s = bit-of straight_word d g.straight so.straight j l h in
        let v = bit-of inverted_word d g.inverted so.inverted j l h in
        let x = hp j h ∙ sym (member-word d.pending j) ∙ pending-word d j in
        let y = he j h ∙ sym (member-word d.enable j) ∙ enable-word d j in
        let z = hw j h in
        and_assoc (unused j && unsent j) (low j) (missing j)
        ∙ (λ k. (a k || (not (x k) && not (y k))) && not (sends d && x k && y k)
        && (not (x k && ((s k && not (z k)) || (v k && z k)))
        && (M || not (((s k && z k) || (v k && not (z k))) && not (x k)))))
        ∙ ap (λ (b : Bool). (occupied c (source_at d j).mode
        || (not (source_at d j).pending && not (source_at d j).enabled))
        && not (sends d && (source_at d j).pending && (source_at d j).enabled) && b)
        (level-words M (member ws j) (source_at d j))
        ∙ sym (bits_are c M (sends d) (member ws j) (source_at d j))

    pub bits-joined : (every unused 0 64 && every unsent 0 64 && every low 0 64 && every missing 0 64)
        ≡ (source_zero_rule d.pending && source_zero_rule d.enable && every (bits_at c ws d) 1 63)
    bits-joined =
        gathered-each ∙ every_first each 63
        ∙ (λ k. each-zero k
        && every-same each (bits_at c ws d) 1 63 (λ j l h. each-source j l (omega arith)) k)

-- the same of what the code read
module _ (c : Bool) (ws : List ℕ) (d : Domain) (g : Gathered) (so : SoFar c d 64 g) where
  pub bits-read : (p e w : ℕ) {m i u s l x : Bool} → m ≡ by_messages d → i ≡ is_enabled d
      → u ≡ every (λ j. has_bit g.active j || (not (has_bit p j) && not (has_bit e j))) 0 64
      → s ≡ every (λ j. not ((i && m) && has_bit p j && has_bit e j)) 0 64
      → l ≡ every (λ j. not (has_bit p j
      && ((has_bit g.straight j && not (has_bit w j)) || (has_bit g.inverted j && has_bit w j)))) 0 64
      → x ≡ every (λ j. m || not (((has_bit g.straight j && has_bit w j)
      || (has_bit g.inverted j && not (has_bit w j))) && not (has_bit p j))) 0 64
      → ((j : ℕ) → j < 64 → has_bit p j ≡ member d.pending j)
      → ((j : ℕ) → j < 64 → has_bit e j ≡ member d.enable j)
      → ((j : ℕ) → j < 64 → has_bit w j ≡ member ws j)
      → (u && s && l && x)
      ≡ (source_zero_rule d.pending && source_zero_rule d.enable && every (bits_at c ws d) 1 63)
  bits-read p e w m i u s l x hp he hw =
      (λ k. u k && s k && l k && x k)
      ∙ (λ k. every (λ j. has_bit g.active j || (not (has_bit p j) && not (has_bit e j))) 0 64
      && every (λ j. not ((i k && m k) && has_bit p j && has_bit e j)) 0 64
      && every (λ j. not (has_bit p j
      && ((has_bit g.straight j && not (has_bit w j)) || (has_bit g.inverted j && has_bit w j)))) 0 64
      && every (λ j. m k || not (((has_bit g.straight j && has_bit w j)
      || (has_bit g.inverted j && not (has_bit w j))) && not (has_bit p j))) 0 64)
      ∙ bits-joined c ws d g so p e w hp he hw

-- the bits of two words that were read as one
pub set-read : (ws : List ℕ) {x lo hi : ℕ} → lo ≡ get_or ws 0 0 → hi ≡ get_or ws 1 0
    → (x ≡ joined lo hi) × (lo < 2 ^ 32) → (j : ℕ) → j < 64 → has_bit x j ≡ member ws j
set-read ws a b e j h =
    (λ k. has_bit (e.0 k) j) ∙ (λ k. has_bit (joined (a k) (b k)) j)
    ∙ has_bit-set ws j (transport (λ k. a k < 2 ^ 32) e.1) h
