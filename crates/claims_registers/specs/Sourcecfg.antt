-- Claim-137, on a write to sourcecfg: which number is stored for every number that is written, in both
-- domains, and what stays. What becomes of the source besides is in claims 94 and 95. 01, "The wired
-- controller".
--   ModeOf v m           m is what bits 2:0 of v store: themselves, but 0 for 2 and 3
--   SourceAlone i d d'   d' is d but for source i
--   WrittenInMachine, WrittenInChild w i v
--                        what a write of v to sourcecfg[i] of that domain leaves
-- Premises: `Long w`, the lists of w have their lengths, as those of 290 words have; that the child stores 0
-- for a source that is not delegated has the state rules too. No axioms.
use Rattle.std.specs.Prelude.{ℕ, ◌/◌, ◌%◌, ◌≤◌, ◌≡◌, true, false, ◌≢◌, ◌⊎◌}
use Rattle.domain_region.specs.declared.Word.TheVariants.{Sourcecfg}
use Rattle.domain.specs.Domain.{Domain, domaincfg_of, genmsi_of}
use Rattle.domain.specs.Slot.{source_at}
use Rattle.domain.specs.Structure.{structure_at}
use Rattle.wired_state.specs.Wires.{Wired}
use Rattle.wired_registers.specs.Wired.{written_in}
use Rattle.wired_rules.specs.Rules.{wired_sound}
use Rattle.claims_registers.specs.Rules.{Long}

abbrev pub ModeOf : ℕ → ℕ → Type 0
ModeOf v m = ((v % 8 ≡ 2) ⊎ (v % 8 ≡ 3) → m ≡ 0) × (v % 8 ≢ 2 → v % 8 ≢ 3 → m ≡ v % 8)

pub record SourceAlone (i : ℕ) (d d' : Domain) : Type 0 where
  pub others : (j : ℕ) → j ≢ i → source_at d' j ≡ source_at d j
  pub domaincfg : domaincfg_of d' ≡ domaincfg_of d
  pub genmsi : genmsi_of d' ≡ genmsi_of d
  pub structures : (h : ℕ) → structure_at d' h ≡ structure_at d h

-- in the machine domain bit 10 (1024) delegates, and else bits 2:0 are stored
abbrev pub WrittenInMachine : Wired → ℕ → ℕ → Type 0
WrittenInMachine w i v =
    let after = written_in w false (Sourcecfg i) v in let stored = (source_at after.machine i).mode in
    (v / 1024 % 2 ≡ 1 → stored ≡ 1024) × (v / 1024 % 2 ≡ 0 → ModeOf v stored)
    × SourceAlone i w.machine after.machine × SourceAlone i w.child after.child
    × (after.wires ≡ w.wires)

-- in the child bit 10 stores 0, and bits 2:0 are stored only for a source that the machine domain delegates;
-- nothing of the machine domain changes
abbrev pub WrittenInChild : Wired → ℕ → ℕ → Type 0
WrittenInChild w i v =
    let after = written_in w true (Sourcecfg i) v in let stored = (source_at after.child i).mode in
    let machine = (source_at w.machine i).mode in
    (v / 1024 % 2 ≡ 1 → stored ≡ 0) × (wired_sound w ≡ true → machine ≢ 1024 → stored ≡ 0)
    × (v / 1024 % 2 ≡ 0 → machine ≡ 1024 → ModeOf v stored)
    × SourceAlone i w.child after.child × (after.machine ≡ w.machine) × (after.wires ≡ w.wires)

-- a sourcecfg write stores, of every number: in the machine domain 1024 if bit 10 is set, else bits 2:0, of
-- which 2 and 3 become 0; in the child bits 2:0 likewise, but 0 if bit 10 is set or the source is not
-- delegated; and every other source stays
-- [01 W12 W13 W14 W15 W16 W19 W20]
unfoldable pub Claim-137 : Type 0
Claim-137 =
    (w : Wired) → Long w → (i : ℕ) → 1 ≤ i → i ≤ 63 → (v : ℕ) → WrittenInMachine w i v × WrittenInChild w i v
