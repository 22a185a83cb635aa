-- Claims 72 to 75, on the state rules of the wired controller: the test, what it tests in the words of the
-- paper, and that every operation keeps them. 01, "State rules".
--   Long w                      the lists of w have their lengths, as those of 290 words have
--   Sound w                     they have, and w passes the test
--   all_sent w                  w after each domain sent what it had to send (claims 50 to 53)
--   ModeStored, TargetStored    a number that a write of a sourcecfg or a target stores
--   SourceRules, DomainRules, WiredRules
--                               the rules in plain statements
-- c says that a domain is the child; m is its delivery mode, true by messages; sends: it has IE and DM.
-- Premises: 72 has none but the length of the words; 73 has `Long w`; 74 and 75 have `Sound w`, with sources
-- 1 to 63 and registers whose numbers are in their ranges (`Within`). No axioms.
use Rattle.std.specs.Prelude.{ℕ, ◌+◌, ◌*◌, ◌^◌, ◌≤◌, ◌<◌, ◌≡◌, Bool, true, false, cond, ◌&&◌, List, ◌≢◌, ◌↔◌}
use Rattle.std.specs.Prelude.{◌⊎◌, length}
use contract.Lifetimes.{Lfts}
use Rattle.std.specs.Borrow.{Bor}
use Rattle.words.specs.Sets.{member}
use Rattle.source_mode.specs.Mode.{is_active, is_level, is_rectified}
use Rattle.source_target.specs.Target.{hart_of, guest_of, number_of}
use Rattle.domain_region.specs.Region.{Within}
use Rattle.domain_region.specs.declared.Word.{Word}
use Rattle.source.specs.declared.Source.{Source}
use Rattle.domain.specs.Domain.{Domain, domaincfg_of, is_enabled, by_messages, genmsi_of}
use Rattle.domain.specs.Slot.{source_at}
use Rattle.domain.specs.Structure.{structure_at}
use Rattle.domain_laws.specs.Shape.{DomainShaped}
use Rattle.domain_sending.specs.Sending.{sent}
use Rattle.wired_state.specs.Wires.{Wired, wired_of, wire_set}
use Rattle.wired_registers.specs.Wired.{written_in, claimed_in}
use Rattle.wired_rules.specs.Rules.{wired_sound}
use Rattle.wired_rules.proofs.sound.Reads as sound

abbrev pub Long : Wired → Type 0
Long w = (length w.wires ≡ 2) × DomainShaped w.machine × DomainShaped w.child

abbrev pub Sound : Wired → Type 0
Sound w = Long w × (wired_sound w ≡ true)

-- ---- the test

-- what the test of the state rules answers, of 290 words. The lists of these have their lengths, and those of
-- a domain are 64 sourcecfg and 64 target words, two words each of pending and enable bits, and three numbers
-- for each of four harts
unfoldable pub Claim-72 : Type 0
Claim-72 =
    ((l : Lfts 1) (b : Bor (List ℕ)) (r : Bool) → sound.Learnt l (b, tt) r (b, tt)
    → r ≡ wired_sound (wired_of b.now))
    × ((l : List ℕ) → length l ≡ 290 → Long (wired_of l))
    × ((d : Domain) → DomainShaped d
    ↔ ((length d.source ≡ 64) × (length d.target ≡ 64) × (length d.pending ≡ 2)
    × (length d.enable ≡ 2) × (length d.delivery ≡ 12)))

-- ---- the rules in plain statements

-- a sourcecfg: a mode, of which 2 and 3 are none, or in the machine domain a delegation
abbrev pub ModeStored : Bool → ℕ → Type 0
ModeStored c v = ((v ≤ 7) × (v ≢ 2) × (v ≢ 3)) ⊎ ((c ≡ false) × (v ≡ 1024))

-- a target: a hart and a priority that is not 0, or by messages a hart, in the child a guest index, and an
-- identity
abbrev pub TargetStored : Bool → Bool → ℕ → Type 0
TargetStored c m t =
    (t ≡ hart_of t * 2 ^ 18 + cond (m && c) (guest_of t) 0 * 2 ^ 12 + number_of t) ×
    (m ≡ false → 1 ≤ number_of t)

pub record SourceRules (c m sends wire : Bool) (s : Source) : Type 0 where
  pub mode : ModeStored c s.mode
  pub target : is_active s.mode ≡ true → TargetStored c m s.target
  -- inactive sources have zeros
  pub inactive : is_active s.mode ≡ false → (s.target ≡ 0) × (s.pending ≡ false) × (s.enabled ≡ false)
  -- a level source whose rectified value is low is not pending; in direct mode, one whose value is high is
  pub level : is_level s.mode ≡ true → s.pending ≡ true → is_rectified s.mode wire ≡ true
  pub direct : is_level s.mode ≡ true → m ≡ false → is_rectified s.mode wire ≡ true → s.pending ≡ true
  -- where the domain sends, an active source that is pending is not enabled
  pub sent : sends ≡ true → is_active s.mode ≡ true → s.pending ≡ true → s.enabled ≡ false

pub record DomainRules (c : Bool) (wires : List ℕ) (d : Domain) : Type 0 where
  -- no bits but those of IE and DM, of a hart and an identity, and of the settable numbers
  pub domaincfg : domaincfg_of d ≡ cond (is_enabled d) (2 ^ 8) 0 + cond (by_messages d) (2 ^ 2) 0
  pub genmsi : genmsi_of d ≡ hart_of (genmsi_of d) * 2 ^ 18 + number_of (genmsi_of d)
  -- genmsi is 0 in direct mode
  pub direct : by_messages d ≡ false → genmsi_of d ≡ 0
  pub structures : (h : ℕ) → h < 4
      → ((structure_at d h).idelivery ≤ 1) × ((structure_at d h).iforce ≤ 1) ×
      ((structure_at d h).ithreshold ≤ 255)
  -- there is no source 0, and no wire 0
  pub zero : (member d.pending 0 ≡ false) × (member d.enable 0 ≡ false)
  pub sources : (i : ℕ) → 1 ≤ i → i ≤ 63
      → SourceRules c (by_messages d) (is_enabled d && by_messages d) (member wires i) (source_at d i)

pub record WiredRules (w : Wired) : Type 0 where
  pub zero : member w.wires 0 ≡ false
  pub machine : DomainRules false w.wires w.machine
  pub child : DomainRules true w.wires w.child
  -- the child's sourcecfg is 0 where the machine domain's does not delegate
  pub undelegated : (i : ℕ) → 1 ≤ i → i ≤ 63 → (source_at w.machine i).mode ≢ 1024
      → (source_at w.child i).mode ≡ 0

-- the test of the state rules passes exactly if the rules hold as plain statements
-- [01 W20 W22 R1 R3 R4 R5 R6 R7 R8]
unfoldable pub Claim-73 : Type 0
Claim-73 = (w : Wired) → Long w → (wired_sound w ≡ true) ↔ WiredRules w

-- ---- they are kept

abbrev pub all_sent : Wired → Wired
all_sent w =
    record {
      wires = w.wires;
      machine = (sent false w.machine).domain;
      child = (sent true w.child).domain;
    }

-- the state rules are kept by each operation with the messages sent after it; of whole calls Claim-86 says it
unfoldable pub Claim-74 : Type 0
Claim-74 =
    (w : Wired) → Sound w
    → ((i : ℕ) → 1 ≤ i → i ≤ 63 → (level : Bool) → Sound (all_sent (wire_set w i level)))
    × ((c : Bool) (r : Word) → Within r → (v : ℕ) → Sound (all_sent (written_in w c r v)))
    × ((c : Bool) (r : Word) → Sound (all_sent (claimed_in w c r)))

-- a source is active in one domain at most
-- [01 W21]
unfoldable pub Claim-75 : Type 0
Claim-75 =
    (w : Wired) → Sound w → (i : ℕ) → 1 ≤ i → i ≤ 63 → is_active (source_at w.machine i).mode ≡ true
    → is_active (source_at w.child i).mode ≡ false
