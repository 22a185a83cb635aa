-- Claims 43 to 49, on direct delivery: topi, claimi and the signal to a hart. 01, "Direct delivery and
-- signals"; the standard 4.8. `eligible d h i`: source i is pending and enabled, for hart h, and passes its
-- ithreshold.
-- Premises: 43, 44, 46 and 49 have direct mode, 45 message mode; 44 and 49 have that a source qualifies, 46
-- that none does; 49 has `DomainShaped d`, the lists of d have their lengths, as those of 144 words have; 47
-- and 48 have none. No axioms.
use Rattle.std.specs.Prelude.{ℕ, ◌+◌, ◌*◌, ◌≤◌, ◌<◌, ◌≡◌, true, false, ◌≢◌, ◌↔◌, ◌⊎◌}
use Rattle.source_mode.specs.Mode.{is_level}
use Rattle.source_target.specs.Target.{hart_of, number_of}
use Rattle.source.specs.Pending.{with_pending}
use Rattle.domain_delivery.specs.Delivery.{without_force}
use Rattle.domain.specs.Domain.{Domain, domaincfg_of, is_enabled, by_messages, genmsi_of}
use Rattle.domain.specs.Slot.{source_at}
use Rattle.domain.specs.Structure.{structure_at, with_structure}
use Rattle.domain_laws.specs.Shape.{DomainShaped}
use Rattle.domain_direct.specs.Direct.{eligible, top_source, topi_of, hart_claimed, signal_of}

-- the priority number of source i
abbrev pub priority : Domain → ℕ → ℕ
priority d i = number_of (source_at d i).target

-- in direct mode topi reads 0 exactly if no source qualifies
-- [01 S6]
unfoldable pub Claim-43 : Type 0
Claim-43 =
    (d : Domain) (h : ℕ) → by_messages d ≡ false
    → (topi_of d h ≡ 0) ↔ ((i : ℕ) → 1 ≤ i → i ≤ 63 → eligible d h i ≡ false)

-- in direct mode topi that is not 0 is source × 65536 + priority of a source, 1 to 63, that qualifies, with
-- the least priority number, and the lowest source among equals
-- [01 S7 S8 S10 M6]
unfoldable pub Claim-44 : Type 0
Claim-44 =
    (d : Domain) (h : ℕ) → by_messages d ≡ false → topi_of d h ≢ 0
    → (topi_of d h ≡ top_source d h * 65536 + priority d (top_source d h))
    × (1 ≤ top_source d h) × (top_source d h ≤ 63) × (eligible d h (top_source d h) ≡ true)
    × ((i : ℕ) → 1 ≤ i → i ≤ 63 → eligible d h i ≡ true
    → (priority d (top_source d h) ≤ priority d i)
    × (priority d i ≡ priority d (top_source d h) → top_source d h ≤ i))

-- by messages topi reads 0 and a claimi changes nothing
-- [01 S14]
unfoldable pub Claim-45 : Type 0
Claim-45 = (d : Domain) (h : ℕ) → by_messages d ≡ true → (topi_of d h ≡ 0) × (hart_claimed d h ≡ d)

-- a claimi of 0 in direct mode clears iforce, and that alone. A corollary of Claim-142
-- [01 S13]
unfoldable pub Claim-46 : Type 0
Claim-46 =
    (d : Domain) (h : ℕ) → by_messages d ≡ false → topi_of d h ≡ 0
    → hart_claimed d h ≡ with_structure d h (without_force (structure_at d h))

-- a domain signals a hart exactly if DM is 0, IE and idelivery are 1, and iforce and topi are not both 0
-- [01 S18]
unfoldable pub Claim-47 : Type 0
Claim-47 =
    (d : Domain) (h : ℕ)
    → (signal_of d h ≡ true)
    ↔ ((by_messages d ≡ false) × (is_enabled d ≡ true) × ((structure_at d h).idelivery ≡ 1)
    × (((structure_at d h).iforce ≢ 0) ⊎ (topi_of d h ≢ 0)))

-- a source counts for a hart exactly if it is pending and enabled, its target names the hart, and ithreshold
-- is 0 or greater than its priority; so ithreshold P, not 0, shuts out P itself
-- [01 S6 S9 M1]
unfoldable pub Claim-48 : Type 0
Claim-48 =
    (d : Domain) (h i : ℕ)
    → ((eligible d h i ≡ true)
    ↔ (((source_at d i).pending ≡ true) × ((source_at d i).enabled ≡ true) ×
    (hart_of (source_at d i).target ≡ h)
    × (((structure_at d h).ithreshold ≡ 0) ⊎ (priority d i < (structure_at d h).ithreshold))))
    × ((structure_at d h).ithreshold ≢ 0 → priority d i ≡ (structure_at d h).ithreshold → eligible d h i
    ≡ false)

-- a claimi that does not answer 0 takes the pending bit of the top source, if that is no level source, and
-- changes nothing else
-- [01 S12 M2]
unfoldable pub Claim-49 : Type 0
Claim-49 =
    (d : Domain) (h : ℕ) → DomainShaped d → by_messages d ≡ false → topi_of d h ≢ 0
    → (domaincfg_of (hart_claimed d h) ≡ domaincfg_of d) × (genmsi_of (hart_claimed d h) ≡ genmsi_of d)
    × ((g : ℕ) → structure_at (hart_claimed d h) g ≡ structure_at d g)
    × ((j : ℕ) → j ≢ top_source d h → source_at (hart_claimed d h) j ≡ source_at d j)
    × (let top = source_at d (top_source d h) in let after = source_at (hart_claimed d h) (top_source d h) in
    (is_level top.mode ≡ false → after ≡ with_pending top false)
    × (is_level top.mode ≡ true → after ≡ top))
