-- Claim-134, on the enable bits: what a write to setie, clrie, setienum or clrienum leaves. 01, "The wired
-- controller"; the standard 4.5.9 to 4.5.12. c says that the domain is the child.
--   EnablesWritten on Names d d'    d' is d with the enable bit of each active source that is named as on
--                                   says, and everything else as it was
-- Premises: `DomainShaped d`, the lists of d have their lengths, as those of 144 words have. No axioms.
use Rattle.std.specs.Prelude.{ℕ, ◌/◌, ◌%◌, ◌^◌, ◌≤◌, ◌<◌, ◌≡◌, Bool, true, false, List, ◌⊎◌}
use Rattle.words.specs.Sets.{member}
use Rattle.source_mode.specs.Mode.{is_active}
use Rattle.domain_region.specs.declared.Word.{Word}
use Rattle.domain_region.specs.declared.Word.TheVariants.{Setie, Setienum, Clrie, Clrienum}
use Rattle.domain.specs.Domain.{Domain, domaincfg_of, genmsi_of}
use Rattle.domain.specs.Slot.{source_at}
use Rattle.domain.specs.Structure.{structure_at}
use Rattle.domain_laws.specs.Shape.{DomainShaped}
use Rattle.domain_registers.specs.Write.{register_written}

pub record EnablesWritten (on : Bool) (Names : ℕ → Type 0) (d d' : Domain) : Type 0 where
  -- a source that is named and active
  pub named : (j : ℕ) → 1 ≤ j → j ≤ 63 → Names j → is_active (source_at d j).mode ≡ true
      → (source_at d' j).enabled ≡ on
  -- a source that is not named, or not active
  pub others : (j : ℕ) → 1 ≤ j → j ≤ 63 → (Names j → ⊥) ⊎ (is_active (source_at d j).mode ≡ false)
      → (source_at d' j).enabled ≡ (source_at d j).enabled
  -- all else of every source, of the domain and of the delivery structures
  pub sources : (j : ℕ) → 1 ≤ j → j ≤ 63
      → ((source_at d' j).mode ≡ (source_at d j).mode) × ((source_at d' j).target ≡ (source_at d j).target)
      × ((source_at d' j).pending ≡ (source_at d j).pending)
  pub domaincfg : domaincfg_of d' ≡ domaincfg_of d
  pub genmsi : genmsi_of d' ≡ genmsi_of d
  pub structures : (h : ℕ) → structure_at d' h ≡ structure_at d h
  -- number 0, which is no source
  pub zero : (member d'.pending 0 ≡ member d.pending 0) × (member d'.enable 0 ≡ member d.enable 0)

-- setie and clrie name the sources whose bits are 1: source j is bit j % 32 of word j / 32
abbrev pub NamedIn : ℕ → ℕ → ℕ → Type 0
NamedIn k v j = (j / 32 ≡ k) × (v / 2 ^ (j % 32) % 2 ≡ 1)

-- setie and setienum set enable bits, clrie and clrienum clear them: of the active sources whose bits are 1,
-- or of the one of that number; nothing else changes
-- [01 W39]
unfoldable pub Claim-134 : Type 0
Claim-134 =
    (c : Bool) (d : Domain) (wires : List ℕ) (v : ℕ) → DomainShaped d
    → let written : Word → Domain = λ r. register_written c d wires r v in
    ((k : ℕ) → k < 2
    → EnablesWritten true (NamedIn k v) d (written (Setie k))
    × EnablesWritten false (NamedIn k v) d (written (Clrie k)))
    × EnablesWritten true (λ j. j ≡ v) d (written Setienum)
    × EnablesWritten false (λ j. j ≡ v) d (written Clrienum)
    × ((v ≡ 0) ⊎ (63 < v) → (written Setienum ≡ d) × (written Clrienum ≡ d))
