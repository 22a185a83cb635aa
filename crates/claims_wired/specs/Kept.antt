-- Claim-155, the table of what each operation on the wired controller may change of a domain, and that it
-- changes nothing else. The standard's 4.7 counts up all that changes a pending bit; 01, "The wired
-- controller", "Direct delivery and signals".
--   Touch                what may change: of source i its pending bit, enable bit, target and sourcecfg word;
--                        domaincfg; genmsi; the three settable numbers of hart h
--   sources p e t m      pending bits of p, enable bits of e, targets of t, sourcecfg words of m
--   harts d f t          idelivery of the harts of d, iforce of f, ithreshold of t
--   in_word k v i        v, written to word k of a family, has the bit of source i
--   while_direct d h     hart h, if the domain d is in direct mode
--   writes d r v         a write of v to register r of d: what it may change in d
--   reads d r            a read of register r of d: what it may change in d
--   writes_in w c r v e, reads_in w c r e
--                        the same for register r of a domain, and what it may change in either domain e
--   Spares t d d'        d' has all of d that t does not name
-- c and e say that a domain is the child; what becomes of a pending bit that is named, Claim-59 says, and
-- for a domaincfg Claim-56, for a sourcecfg claims 94 and 95.
-- Premises: `Long w`, the lists have their lengths, as those of every block have; and of a wire or a register
-- that is written, that it is there: the wire is 1 to 63, and `Within r`. No axioms.
use Rattle.std.specs.Prelude.{ℕ, ◌/◌, ◌%◌, ◌≤◌, ◌<◌, ◌≡◌, Bool, true, false, cond, not, ◌&&◌, ◌≢◌, eqb}
use Rattle.std.specs.Bool.{beq}
use Rattle.words.specs.Bits.{has_bit}
use Rattle.words.specs.Parts.{reversed}
use Rattle.words.specs.Sets.{member}
use Rattle.domain_region.specs.Region.{Within}
use Rattle.domain_region.specs.declared.Word.{Word}
use Rattle.domain_region.specs.declared.Word.TheVariants.{Domaincfg, Sourcecfg, Setip, Setipnum, InClrip}
use Rattle.domain_region.specs.declared.Word.TheVariants.{Clripnum, Setie, Setienum, Clrie, Clrienum}
use Rattle.domain_region.specs.declared.Word.TheVariants.{SetipnumLe, SetipnumBe, Genmsi, Target, Idelivery}
use Rattle.domain_region.specs.declared.Word.TheVariants.{Iforce, Ithreshold, Topi, Claimi, Unused}
use Rattle.domain.specs.Domain.{Domain, domaincfg_of, by_messages, genmsi_of}
use Rattle.domain.specs.Slot.{source_at}
use Rattle.domain.specs.Structure.{structure_at}
use Rattle.domain_direct.specs.Direct.{top_source}
use Rattle.wired_state.specs.Wires.{Wired, domain_in, wire_set}
use Rattle.wired_registers.specs.Wired.{claimed_in, written_in}
use Rattle.claims_registers.specs.Rules.{Long}

pub record Touch : Type 0 where
  pub pending : ℕ → Bool
  pub enabled : ℕ → Bool
  pub target : ℕ → Bool
  pub mode : ℕ → Bool
  pub domaincfg : Bool
  pub genmsi : Bool
  pub idelivery : ℕ → Bool
  pub iforce : ℕ → Bool
  pub ithreshold : ℕ → Bool

abbrev pub none : ℕ → Bool
none i = false

abbrev pub sources : (p e t m : ℕ → Bool) → Touch
sources p e t m =
    record {
      pending = p;
      enabled = e;
      target = t;
      mode = m;
      domaincfg = false;
      genmsi = false;
      idelivery = none;
      iforce = none;
      ithreshold = none;
    }

abbrev pub harts : (d f t : ℕ → Bool) → Touch
harts d f t =
    record {
      pending = none;
      enabled = none;
      target = none;
      mode = none;
      domaincfg = false;
      genmsi = false;
      idelivery = d;
      iforce = f;
      ithreshold = t;
    }

abbrev pub nothing : Touch
nothing = sources none none none none

-- domaincfg, and where DM changes genmsi and of each source its pending bit and its target
abbrev pub configures : Bool → Touch
configures changes =
    record {
      pending = λ i. changes;
      enabled = none;
      target = λ i. changes;
      mode = none;
      domaincfg = true;
      genmsi = changes;
      idelivery = none;
      iforce = none;
      ithreshold = none;
    }

-- genmsi, if it is there
abbrev pub generates : Bool → Touch
generates there =
    record {
      pending = none;
      enabled = none;
      target = none;
      mode = none;
      domaincfg = false;
      genmsi = there;
      idelivery = none;
      iforce = none;
      ithreshold = none;
    }

abbrev pub in_word : ℕ → ℕ → ℕ → Bool
in_word k v i = eqb (i / 32) k && has_bit v (i % 32)

abbrev pub while_direct : Domain → ℕ → ℕ → Bool
while_direct d h g = not (by_messages d) && eqb h g

-- the four columns of sources: pending bits, enable bits, targets, sourcecfg words
unfoldable pub writes : Domain → Word → ℕ → Touch
writes d Domaincfg v = configures (not (beq (by_messages d) (has_bit v 2)))
writes d (Sourcecfg i) v = sources (eqb i) (eqb i) (eqb i) (eqb i)
writes d (Setip k) v = sources (in_word k v) none none none
writes d Setipnum v = sources (eqb v) none none none
writes d (InClrip k) v = sources (in_word k v) none none none
writes d Clripnum v = sources (eqb v) none none none
writes d (Setie k) v = sources none (in_word k v) none none
writes d Setienum v = sources none (eqb v) none none
writes d (Clrie k) v = sources none (in_word k v) none none
writes d Clrienum v = sources none (eqb v) none none
writes d SetipnumLe v = sources (eqb v) none none none
writes d SetipnumBe v = sources (eqb (reversed v)) none none none
writes d Genmsi v = generates (by_messages d)
writes d (Target i) v = sources none none (eqb i) none
writes d (Idelivery h) v = harts (while_direct d h) none none
writes d (Iforce h) v = harts none (while_direct d h) none
writes d (Ithreshold h) v = harts none none (while_direct d h)
writes d (Topi h) v = nothing
writes d (Claimi h) v = nothing
writes d Unused v = nothing

-- a claimi in direct mode: the pending bit of the source that topi names, or iforce if it names none
abbrev pub claims : Domain → ℕ → Touch
claims d h =
    cond (eqb (top_source d h) 0) (harts none (while_direct d h) none)
    (sources (λ i. not (by_messages d) && eqb (top_source d h) i) none none none)

unfoldable pub reads : Domain → Word → Touch
reads d Domaincfg = nothing
reads d (Sourcecfg i) = nothing
reads d (Setip k) = nothing
reads d Setipnum = nothing
reads d (InClrip k) = nothing
reads d Clripnum = nothing
reads d (Setie k) = nothing
reads d Setienum = nothing
reads d (Clrie k) = nothing
reads d Clrienum = nothing
reads d SetipnumLe = nothing
reads d SetipnumBe = nothing
reads d Genmsi = nothing
reads d (Target i) = nothing
reads d (Idelivery h) = nothing
reads d (Iforce h) = nothing
reads d (Ithreshold h) = nothing
reads d (Topi h) = nothing
reads d (Claimi h) = claims d h
reads d Unused = nothing

-- the other domain: the machine domain's sourcecfg of a source may change all of the child's source
unfoldable pub writes_in : Wired → Bool → Word → ℕ → Bool → Touch
writes_in w c r v e =
    let t = writes (domain_in w c) r v in
    cond (beq c e) t (cond e (sources t.mode t.mode t.mode t.mode) nothing)

unfoldable pub reads_in : Wired → Bool → Word → Bool → Touch
reads_in w c r e = cond (beq c e) (reads (domain_in w c) r) nothing

pub record Spares (t : Touch) (d d' : Domain) : Type 0 where
  pub pending : (i : ℕ) → 1 ≤ i → i ≤ 63 → t.pending i ≡ false
      → (source_at d' i).pending ≡ (source_at d i).pending
  pub enabled : (i : ℕ) → 1 ≤ i → i ≤ 63 → t.enabled i ≡ false
      → (source_at d' i).enabled ≡ (source_at d i).enabled
  pub target : (i : ℕ) → 1 ≤ i → i ≤ 63 → t.target i ≡ false → (source_at d' i).target ≡
      (source_at d i).target
  pub mode : (i : ℕ) → 1 ≤ i → i ≤ 63 → t.mode i ≡ false → (source_at d' i).mode ≡ (source_at d i).mode
  pub domaincfg : t.domaincfg ≡ false → domaincfg_of d' ≡ domaincfg_of d
  pub genmsi : t.genmsi ≡ false → genmsi_of d' ≡ genmsi_of d
  pub idelivery : (h : ℕ) → h < 4 → t.idelivery h ≡ false
      → (structure_at d' h).idelivery ≡ (structure_at d h).idelivery
  pub iforce : (h : ℕ) → h < 4 → t.iforce h ≡ false → (structure_at d' h).iforce ≡ (structure_at d h).iforce
  pub ithreshold : (h : ℕ) → h < 4 → t.ithreshold h ≡ false
      → (structure_at d' h).ithreshold ≡ (structure_at d h).ithreshold

-- each operation, before anything is sent: a wire changes no other wire, and of each domain the pending bit
-- of its own source alone; a write and a read change no wire, and of each domain what the tables say
unfoldable pub Claim-155 : Type 0
Claim-155 =
    (w : Wired) → Long w → (e : Bool) → let d = domain_in w e in
    ((i : ℕ) → 1 ≤ i → i ≤ 63 → (level : Bool)
    → Spares (sources (eqb i) none none none) d (domain_in (wire_set w i level) e)
    × ((j : ℕ) → j ≢ i → member (wire_set w i level).wires j ≡ member w.wires j))
    × ((c : Bool) (r : Word) → Within r → (v : ℕ)
    → Spares (writes_in w c r v e) d (domain_in (written_in w c r v) e)
    × ((written_in w c r v).wires ≡ w.wires))
    × ((c : Bool) (r : Word)
    → Spares (reads_in w c r e) d (domain_in (claimed_in w c r) e) × ((claimed_in w c r).wires ≡ w.wires))
