-- Claims 55 to 58, on what a write leaves, before anything is sent: which sources it changes, and that the
-- rest stays. 01, "The wired controller".
--   DomainBecame d d' w g f   d' has its lengths, domaincfg w and genmsi g, each source j of 1 to 63 as f j
--                             makes it from that of d, and the rest as d has it
--   SourcesBecame d d' f      the same where domaincfg and genmsi stay too
--   Restarted m x s s'        s' is what a change of DM to m makes of source s; x is its wire
--   TargetKept c m v t        t is what a write of v to a target stores
-- c says that a domain is the child; m is its delivery mode, true by messages.
-- Premises: 55, 56 and 58 have `DomainShaped d`, the lists of d have their lengths, as those of 144 words
-- have; 57 has `Sound w`, the state rules; what 56 says of one source, and 58 of one target, has none.
-- No axioms.
use Rattle.std.specs.Prelude.{ℕ, ◌+◌, ◌/◌, ◌%◌, ◌^◌, ◌≤◌, ◌<◌, ◌≡◌, Bool, true, false, cond, ◌&&◌, List, ◌≢◌}
use Rattle.std.specs.Prelude.{eqb}
use Rattle.words.specs.Bits.{has_bit}
use Rattle.words.specs.Sets.{member}
use Rattle.source_mode.specs.Mode.{is_active, is_level, is_rectified}
use Rattle.source_target.specs.Target.{hart_of, guest_of, number_of, kept_target}
use Rattle.domain_region.specs.declared.Word.TheVariants.{Sourcecfg}
use Rattle.source.specs.declared.Source.{Source}
use Rattle.source.specs.declared.Change.{Change}
use Rattle.source.specs.Pending.{with_target, changed, redelivered}
use Rattle.domain.specs.Domain.{Domain, domaincfg_of, is_enabled, by_messages, genmsi_of, with_domaincfg}
use Rattle.domain.specs.Slot.{source_at}
use Rattle.domain.specs.Structure.{structure_at}
use Rattle.domain_laws.specs.Shape.{DomainShaped}
use Rattle.domain_writes.specs.Writes.{word_changed, number_changed, target_written}
use Rattle.domain_domaincfg.specs.Domaincfg.{domaincfg_written}
use Rattle.wired_state.specs.Wires.{Wired, wire_set, is_delegated}
use Rattle.wired_registers.specs.Wired.{written_in}
use Rattle.claims_registers.specs.Rules.{Sound, TargetStored}

pub record DomainBecame (d d' : Domain) (w g : ℕ) (f : ℕ → Source → Source) : Type 0 where
  pub lengths : DomainShaped d'
  pub domaincfg : domaincfg_of d' ≡ w
  pub genmsi : genmsi_of d' ≡ g
  pub sources : (j : ℕ) → 1 ≤ j → j ≤ 63 → source_at d' j ≡ f j (source_at d j)
  pub structures : (h : ℕ) → structure_at d' h ≡ structure_at d h
  -- number 0, which is no source
  pub zero : (member d'.pending 0 ≡ member d.pending 0) × (member d'.enable 0 ≡ member d.enable 0)

abbrev pub SourcesBecame : (d d' : Domain) → (ℕ → Source → Source) → Type 0
SourcesBecame d d' f = DomainBecame d d' (domaincfg_of d) (genmsi_of d) f

-- a write of v to word k of a family changes the sources whose bits are set, and a number that source alone;
-- `changed` leaves a source that is not active (Claim-144, and for enable bits Claim-134)
-- [01 W3 W39]
unfoldable pub Claim-55 : Type 0
Claim-55 =
    (d : Domain) (wires : List ℕ) (family : Change) (v : ℕ) → DomainShaped d
    → ((k : ℕ) → k < 2 → SourcesBecame d (word_changed d wires family k v)
    (λ j s. cond (eqb (j / 32) k && has_bit v (j % 32))
    (changed s family (by_messages d) (member wires j)) s))
    × (SourcesBecame d (number_changed d wires family v)
    (λ j s. cond (eqb v j) (changed s family (by_messages d) (member wires j)) s))

-- a change of DM: an active source has its start target, a level source is pending by its rectified value
pub record Restarted (m x : Bool) (s s' : Source) : Type 0 where
  pub inactive : is_active s.mode ≡ false → s' ≡ s
  pub mode : s'.mode ≡ s.mode
  pub target : is_active s.mode ≡ true → s'.target ≡ cond m 0 1
  pub enabled : s'.enabled ≡ s.enabled
  pub other : is_level s.mode ≡ false → s'.pending ≡ s.pending
  pub direct : is_level s.mode ≡ true → m ≡ false → s'.pending ≡ is_rectified s.mode x
  pub messages : is_level s.mode ≡ true → m ≡ true → s'.pending ≡ (is_rectified s.mode x && s.pending)

-- a write to domaincfg: IE is bit 8 and DM bit 2; with the same DM nothing else changes, and with another,
-- genmsi is 0 and each active source has its start target, keeps its enable bit, and keeps its pending bit if
-- it is no level source (`Restarted`)
-- [01 W8 W10 W11 S15]
unfoldable pub Claim-56 : Type 0
Claim-56 =
    ((d : Domain) (wires : List ℕ) (v : ℕ) → DomainShaped d
    → let word = cond (has_bit v 8) (2 ^ 8) 0 + cond (has_bit v 2) (2 ^ 2) 0 in
    (is_enabled (domaincfg_written d wires v) ≡ has_bit v 8)
    × (by_messages (domaincfg_written d wires v) ≡ has_bit v 2)
    × (by_messages d ≡ has_bit v 2 → domaincfg_written d wires v ≡ with_domaincfg d word)
    × (by_messages d ≢ has_bit v 2
    → DomainBecame d (domaincfg_written d wires v) word 0
    (λ j s. redelivered s (has_bit v 2) (member wires j))))
    × ((m x : Bool) (s : Source) → Restarted m x s (redelivered s m x))

-- a wire set as it is, and a delegation of what is delegated, change nothing
-- [01 W18]
unfoldable pub Claim-57 : Type 0
Claim-57 =
    (w : Wired) → Sound w → (i : ℕ) → 1 ≤ i → i ≤ 63
    → (wire_set w i (member w.wires i) ≡ w)
    × ((v : ℕ) → is_delegated w i ≡ true → has_bit v 10 ≡ true → written_in w false (Sourcecfg i) v ≡ w)

-- what is kept of v: the hart; a priority, 0 becoming 1; by messages an identity and the child's guest index
pub record TargetKept (c m : Bool) (v t : ℕ) : Type 0 where
  pub stored : TargetStored c m t
  pub hart : hart_of t ≡ hart_of v
  pub priority : m ≡ false → number_of t ≡ cond (eqb (number_of v) 0) 1 (number_of v)
  pub identity : m ≡ true → number_of t ≡ number_of v
  pub guest : m ≡ true → c ≡ true → guest_of t ≡ guest_of v

-- a write to a target: nothing of an inactive source, and of an active one the target alone
-- [01 W29 W31 W32 W34]
unfoldable pub Claim-58 : Type 0
Claim-58 =
    ((c : Bool) (d : Domain) (i v : ℕ) → DomainShaped d → 1 ≤ i → i ≤ 63
    → (is_active (source_at d i).mode ≡ false → target_written c d i v ≡ d)
    × (is_active (source_at d i).mode ≡ true → SourcesBecame d (target_written c d i v)
    (λ j s. cond (eqb i j) (with_target s (kept_target c (by_messages d) v)) s)))
    × ((c m : Bool) (v : ℕ) → TargetKept c m v (kept_target c m v))
