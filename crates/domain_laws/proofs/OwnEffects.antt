-- The domain's own words, domaincfg and genmsi: they stay where a source or a delivery structure is replaced,
-- and replacing one of them leaves everything else. No contract cites this file. Assumes nothing.
use Prim.Native.Nat.{ℕ, ◌≤◌}
use mathlib.Core.Path.{◌≡◌, refl, ap}
use native.Mathlib.Omega.{arith}
use lib.ListN.{length-set}
use lib.Seq.{get_or-set_same, get_or-set_other}
use Rattle.words.specs.Bits.{has_bit}
use Rattle.source.specs.declared.Source.{Source}
use Rattle.domain_delivery.specs.declared.Delivery.{Delivery}
use Rattle.domain.specs.Domain.{Domain, domaincfg_of, is_enabled, by_messages, genmsi_of, with_domaincfg}
use Rattle.domain.specs.Domain.{with_genmsi}
use Rattle.domain.specs.Slot.{source_at, with_source}
use Rattle.domain.specs.Structure.{structure_at, with_structure}
use Rattle.domain.proofs.SlotLaws.{source-path}
use Rattle.domain_laws.specs.Shape.{DomainShaped}

-- ---- IE and DM follow domaincfg

module _ (d e : Domain) (same : domaincfg_of e ≡ domaincfg_of d) where
  pub is_enabled-same : is_enabled e ≡ is_enabled d
  unfolding is_enabled
  is_enabled-same = ap (λ (w : ℕ). has_bit w 8) same

  pub by_messages-same : by_messages e ≡ by_messages d
  unfolding by_messages
  by_messages-same = ap (λ (w : ℕ). has_bit w 2) same

-- ---- a source replaced

module _ (d : Domain) (i : ℕ) (s : Source) (low : 1 ≤ i) where
  pub domaincfg_of-with_source : domaincfg_of (with_source d i s) ≡ domaincfg_of d
  unfolding domaincfg_of with_source
  domaincfg_of-with_source = get_or-set_other d.source i 0 s.mode 0 (λ e. omega arith)

  pub is_enabled-with_source : is_enabled (with_source d i s) ≡ is_enabled d
  is_enabled-with_source = is_enabled-same d (with_source d i s) domaincfg_of-with_source

  pub by_messages-with_source : by_messages (with_source d i s) ≡ by_messages d
  by_messages-with_source = by_messages-same d (with_source d i s) domaincfg_of-with_source

  pub genmsi_of-with_source : genmsi_of (with_source d i s) ≡ genmsi_of d
  unfolding genmsi_of with_source
  genmsi_of-with_source = get_or-set_other d.target i 0 s.target 0 (λ e. omega arith)

-- ---- a delivery structure replaced

module _ (d : Domain) (h : ℕ) (x : Delivery) where
  pub domaincfg_of-with_structure : domaincfg_of (with_structure d h x) ≡ domaincfg_of d
  unfolding domaincfg_of with_structure
  domaincfg_of-with_structure = refl

  pub is_enabled-with_structure : is_enabled (with_structure d h x) ≡ is_enabled d
  is_enabled-with_structure = is_enabled-same d (with_structure d h x) domaincfg_of-with_structure

  pub by_messages-with_structure : by_messages (with_structure d h x) ≡ by_messages d
  by_messages-with_structure = by_messages-same d (with_structure d h x) domaincfg_of-with_structure

  pub genmsi_of-with_structure : genmsi_of (with_structure d h x) ≡ genmsi_of d
  unfolding genmsi_of with_structure
  genmsi_of-with_structure = refl

-- ---- domaincfg replaced

module _ (d : Domain) (v : ℕ) where
  pub domaincfg_of-with_domaincfg : DomainShaped d → domaincfg_of (with_domaincfg d v) ≡ v
  unfolding domaincfg_of with_domaincfg
  domaincfg_of-with_domaincfg shaped = get_or-set_same d.source 0 v 0 (omega arith)

  pub genmsi_of-with_domaincfg : genmsi_of (with_domaincfg d v) ≡ genmsi_of d
  unfolding genmsi_of with_domaincfg
  genmsi_of-with_domaincfg = refl

  pub source_at-with_domaincfg : (i : ℕ) → 1 ≤ i → source_at (with_domaincfg d v) i ≡ source_at d i
  unfolding source_at with_domaincfg
  source_at-with_domaincfg i l =
      source-path (get_or-set_other d.source 0 i v 0 (λ e. omega arith)) refl refl refl

  pub structure_at-with_domaincfg : (h : ℕ) → structure_at (with_domaincfg d v) h ≡ structure_at d h
  unfolding structure_at with_domaincfg
  structure_at-with_domaincfg h = refl

  pub shaped-with_domaincfg : DomainShaped d → DomainShaped (with_domaincfg d v)
  unfolding with_domaincfg
  shaped-with_domaincfg shaped =
      record {
        sources = simp length-set shaped.sources;
        targets = shaped.targets;
        pendings = shaped.pendings;
        enables = shaped.enables;
        deliveries = shaped.deliveries;
      }
  -- ---- genmsi replaced

module _ (d : Domain) (v : ℕ) where
  pub genmsi_of-with_genmsi : DomainShaped d → genmsi_of (with_genmsi d v) ≡ v
  unfolding genmsi_of with_genmsi
  genmsi_of-with_genmsi shaped = get_or-set_same d.target 0 v 0 (omega arith)

  pub domaincfg_of-with_genmsi : domaincfg_of (with_genmsi d v) ≡ domaincfg_of d
  unfolding domaincfg_of with_genmsi
  domaincfg_of-with_genmsi = refl

  pub is_enabled-with_genmsi : is_enabled (with_genmsi d v) ≡ is_enabled d
  is_enabled-with_genmsi = is_enabled-same d (with_genmsi d v) domaincfg_of-with_genmsi

  pub by_messages-with_genmsi : by_messages (with_genmsi d v) ≡ by_messages d
  by_messages-with_genmsi = by_messages-same d (with_genmsi d v) domaincfg_of-with_genmsi

  pub source_at-with_genmsi : (i : ℕ) → 1 ≤ i → source_at (with_genmsi d v) i ≡ source_at d i
  unfolding source_at with_genmsi
  source_at-with_genmsi i l =
      source-path refl (get_or-set_other d.target 0 i v 0 (λ e. omega arith)) refl refl

  pub structure_at-with_genmsi : (h : ℕ) → structure_at (with_genmsi d v) h ≡ structure_at d h
  unfolding structure_at with_genmsi
  structure_at-with_genmsi h = refl

  pub shaped-with_genmsi : DomainShaped d → DomainShaped (with_genmsi d v)
  unfolding with_genmsi
  shaped-with_genmsi shaped =
      record {
        sources = shaped.sources;
        targets = simp length-set shaped.targets;
        pendings = shaped.pendings;
        enables = shaped.enables;
        deliveries = shaped.deliveries;
      }
