-- What a claim takes, and when a hart is signalled: the paper's sentences as theorems. No contract cites this
-- file. Assumes nothing.
use Prim.Native.Nat.{ℕ, ◌<◌}
use mathlib.Core.Path.{◌≡◌, refl, sym, ap, ◌∙◌}
use mathlib.Core.Bool.{true, false}
use mathlib.Core.Logic.{◌≢◌, ◌↔◌, ◌⊎◌}
use native.Mathlib.Decide.{ℕ_discrete}
use Rattle.words.proofs.TestsLaws.{tested, not_same}
use Rattle.source_mode.specs.Mode.{is_level}
use Rattle.source.specs.Pending.{with_pending, cleared}
use Rattle.source.proofs.PendingLaws.{cleared-direct, cleared-other}
use Rattle.domain_delivery.specs.Delivery.{without_force}
use Rattle.domain_delivery.proofs.DeliveryLaws.{signals-iff, force-cleared}
use Rattle.domain.specs.Domain.{Domain, is_enabled, by_messages}
use Rattle.domain.specs.Slot.{source_at}
use Rattle.domain.specs.Structure.{structure_at, with_structure}
use Rattle.domain_laws.specs.Shape.{DomainShaped}
use Rattle.domain_laws.proofs.SlotEffects.{source_at-with_source-same, source_at-with_source-other}
use Rattle.domain_laws.proofs.SlotEffects.{structure_at-with_source}
use Rattle.domain_laws.proofs.StructureEffects.{structure_at-with_structure-same}
use Rattle.domain_laws.proofs.StructureEffects.{structure_at-with_structure-other, source_at-with_structure}
use Rattle.domain_direct.specs.Direct.{top_source, topi_of, unforced, released, hart_claimed, signal_of}
use Rattle.domain_topi.proofs.TopLaws.{top_source-lt}
use Rattle.domain_direct.proofs.DirectLaws.{claimed-none, claimed-some, signal-messages, signal-direct}
use Rattle.domain_direct_laws.proofs.TopEffects.{topi-zero}

-- ---- a claim of 0

module _ (d : Domain) (h : ℕ) (direct : by_messages d ≡ false) where
  -- a claim that answers 0 leaves the domain as it was but for iforce of the hart, which becomes 0
  pub claim-zero : topi_of d h ≡ 0 → hart_claimed d h ≡ with_structure d h (without_force (structure_at d h))
  unfolding unforced
  claim-zero z = claimed-none d h direct ((topi-zero d h direct).0 z)

  pub claim-zero-same : DomainShaped d → h < 4 → topi_of d h ≡ 0
      → structure_at (hart_claimed d h) h ≡ record {
        idelivery = (structure_at d h).idelivery;
        iforce = 0;
        ithreshold = (structure_at d h).ithreshold;
      }
  claim-zero-same shaped q z =
      ap (λ (e : Domain). structure_at e h) (claim-zero z)
      ∙ structure_at-with_structure-same d h (without_force (structure_at d h)) shaped q
      ∙ force-cleared (structure_at d h)

  pub claim-zero-other : topi_of d h ≡ 0
      → ((g : ℕ) → g ≢ h → structure_at (hart_claimed d h) g ≡ structure_at d g)
      × ((i : ℕ) → source_at (hart_claimed d h) i ≡ source_at d i)
  claim-zero-other z = (
    λ g n. ap (λ (e : Domain). structure_at e g) (claim-zero z)
        ∙ structure_at-with_structure-other d h (without_force (structure_at d h)) g n,
    λ i. ap (λ (e : Domain). source_at e i) (claim-zero z)
        ∙ source_at-with_structure d h (without_force (structure_at d h)) i,
  )

  -- ---- a claim of a source

  module _ (some : top_source d h ≢ 0) where
    abbrev top : ℕ
    top = top_source d h

    -- every other source stays, and every structure
    pub claim-other : ((j : ℕ) → j ≢ top → source_at (hart_claimed d h) j ≡ source_at d j)
        × ((g : ℕ) → structure_at (hart_claimed d h) g ≡ structure_at d g)
    unfolding released
    claim-other = (
      λ j n. ap (λ (e : Domain). source_at e j) (claimed-some d h direct some)
          ∙ source_at-with_source-other d top _ j n,
      λ g. ap (λ (e : Domain). structure_at e g) (claimed-some d h direct some)
          ∙ structure_at-with_source d top _ g,
    )

    claim-same : DomainShaped d → source_at (hart_claimed d h) top ≡ cleared (source_at d top) false
    unfolding released
    claim-same shaped =
        ap (λ (e : Domain). source_at e top) (claimed-some d h direct some)
        ∙ source_at-with_source-same d top (cleared (source_at d top) false) shaped (top_source-lt d h)

    -- a level source stays pending: its bit follows its wire
    pub claim-level : DomainShaped d → is_level (source_at d top).mode ≡ true
        → (j : ℕ) → source_at (hart_claimed d h) j ≡ source_at d j
    claim-level shaped l j = at (ℕ_discrete j top)
      where
        at : Dec (j ≡ top) → source_at (hart_claimed d h) j ≡ source_at d j
        at (yes e) =
            ap (source_at (hart_claimed d h)) e ∙ claim-same shaped
            ∙ cleared-direct (source_at d top) false l refl
            ∙ ap (source_at d) (sym e)
        at (no n) = claim-other.0 j n

    -- a source of another mode is no longer pending and keeps the rest, and every other source stays
    pub claim-other-mode : DomainShaped d → is_level (source_at d top).mode ≡ false
        → (source_at (hart_claimed d h) top ≡ with_pending (source_at d top) false)
        × ((j : ℕ) → j ≢ top → source_at (hart_claimed d h) j ≡ source_at d j)
    claim-other-mode shaped l =
        (claim-same shaped ∙ cleared-other (source_at d top) false l, claim-other.0)

-- ---- the signal

-- direct mode, IE and idelivery on, and iforce or topi not 0
pub signal-iff : (d : Domain) (h : ℕ) → signal_of d h ≡ true
    ↔ ((by_messages d ≡ false) × (is_enabled d ≡ true) × ((structure_at d h).idelivery ≡ 1)
    × (((structure_at d h).iforce ≢ 0) ⊎ (topi_of d h ≢ 0)))
signal-iff d h =
    let inside = signals-iff (structure_at d h) (is_enabled d) (topi_of d h) in (
      λ on. tested (by_messages d) (λ m. absurd (not_same (signal_of d h) on (signal-messages d h m)))
          (λ m. let p = inside.0 (sym (signal-direct d h m) ∙ on) in (m, p.0, p.1, p.2)),
      λ p. signal-direct d h p.0 ∙ inside.1 (p.1, p.2, p.3),
    )
