-- Claim-59: the causes of Claim-40 are what the registers, the wires and the messages do. 01, "The wired
-- controller"; the standard 4.7.
--   Does d d' i k    what becomes of source i from d to d' is what the cause k does
-- Premises: sources 1 to 63 of a domain or a controller whose lists have their lengths (`DomainShaped d`,
-- `Long w`), as those of a block have. No axioms.
use Rattle.std.specs.Prelude.{ℕ, ◌/◌, ◌%◌, ◌≤◌, ◌<◌, ◌≡◌, Bool, true, false, ◌&&◌, List}
use Rattle.words.specs.Bits.{has_bit}
use Rattle.words.specs.Parts.{reversed}
use Rattle.words.specs.Sets.{member}
use Rattle.source_mode.specs.Mode.{source_word}
use Rattle.domain_region.specs.declared.Word.{Word}
use Rattle.domain_region.specs.declared.Word.TheVariants.{Sourcecfg, Setip, Setipnum, InClrip, Clripnum}
use Rattle.domain_region.specs.declared.Word.TheVariants.{SetipnumLe}
use Rattle.domain_region.specs.declared.Word.TheVariants.{SetipnumBe, Claimi}
use Rattle.source.specs.Pending.{moded}
use Rattle.domain.specs.Domain.{Domain, is_enabled, by_messages}
use Rattle.domain.specs.Slot.{source_at}
use Rattle.domain_laws.specs.Shape.{DomainShaped}
use Rattle.domain_direct.specs.Direct.{top_source}
use Rattle.domain_registers.specs.Read.{claimed_by}
use Rattle.domain_registers.specs.Write.{register_written}
use Rattle.domain_sending.specs.Sending.{candidate}
use Rattle.domain_sending.specs.Sending as sending
use Rattle.wired_state.specs.Wires.{Wired, wire_set, is_delegated}
use Rattle.wired_registers.specs.Wired.{written_in}
use Rattle.claims_domain.specs.Causes.{Cause, happens}
use Rattle.claims_domain.specs.Causes.Cause.{wire, setip, clrip, claim, sent}
use Rattle.claims_registers.specs.Rules.{Long}

abbrev pub Does : Domain → Domain → ℕ → Cause → Type 0
Does d d' i k = source_at d' i ≡ happens (source_at d i) (by_messages d) k

-- in a domain: a write of the source's bit to its word, or of its number; a claimi that answers it; and the
-- pass of messages, if it is to be sent
abbrev pub RegistersDo : Type 0
RegistersDo =
    (c : Bool) (d : Domain) (wires : List ℕ) (i : ℕ) → DomainShaped d → 1 ≤ i → i ≤ 63
    → let written : Word → ℕ → Domain = register_written c d wires in
    let raised = setip (member wires i) in
    ((v : ℕ) → has_bit v (i % 32) ≡ true
    → Does d (written (Setip (i / 32)) v) i raised × Does d (written (InClrip (i / 32)) v) i clrip)
    × Does d (written Setipnum i) i raised × Does d (written SetipnumLe i) i raised
    × Does d (written SetipnumBe (reversed i)) i raised × Does d (written Clripnum i) i clrip
    × ((h : ℕ) → h < 4 → by_messages d ≡ false → top_source d h ≡ i → Does d
    (claimed_by d (Claimi h)) i claim)
    × ((is_enabled d && by_messages d) ≡ true → candidate (source_at d i) ≡ true
    → Does d (sending.sent c d).domain i sent)

-- a wire, in both domains
abbrev pub WiresDo : Type 0
WiresDo =
    (w : Wired) → Long w → (i : ℕ) → 1 ≤ i → i ≤ 63 → (level : Bool)
    → let change = wire (member w.wires i) level in
    Does w.machine (wire_set w i level).machine i change
    × Does w.child (wire_set w i level).child i change

-- beside the causes: a sourcecfg, in the domain that it is written in, is what `moded` says
abbrev pub SourcecfgsDo : Type 0
SourcecfgsDo =
    (w : Wired) → Long w → (i : ℕ) → 1 ≤ i → i ≤ 63 → (v : ℕ)
    → (source_at (written_in w false (Sourcecfg i) v).machine i
    ≡ moded (source_at w.machine i) (by_messages w.machine) (source_word false false v)
    (member w.wires i))
    × (source_at (written_in w true (Sourcecfg i) v).child i
    ≡ moded (source_at w.child i) (by_messages w.child) (source_word true (is_delegated w i) v)
    (member w.wires i))

-- each cause is what an operation does to its source
-- [01 W27 W28 W40]
unfoldable pub Claim-59 : Type 0
Claim-59 = RegistersDo × WiresDo × SourcecfgsDo
