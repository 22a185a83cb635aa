-- Claims 132, 133, 139, 145 and 203, on what the registers of a domain read, bit by bit, and on the source
-- modes. 01, "The wired controller"; 02, M-101.
--   Bit v n b         bit n of v is 1 exactly if b
--   RectifiedHigh m wire
--                     a source with mode m and that wire has a high rectified value, as Claim-139 has it
--   InputRead v n i d wires
--                     bit n of v is 1 exactly if source i is there and its rectified value in the domain d is
--                     high
-- Premises: 132 has none for the bits, and `WordsFit` (each word has 32 bits, as every word of a block has)
-- where it says that a word has no others; 133 and 203 have `Sound w`, the state rules, and 203 a source that
-- is there; 139 and 145 none. No axioms.
use Rattle.std.specs.Prelude.{ℕ, ◌+◌, ◌*◌, ◌/◌, ◌%◌, ◌^◌, ◌<◌, ◌≤◌, ◌≡◌, Bool, true, false, cond, List, ◌≢◌}
use Rattle.std.specs.Prelude.{◌↔◌, ◌⊎◌}
use Rattle.words.specs.Sets.{member, WordsFit}
use Rattle.source_mode.specs.Mode.{is_active, is_level, is_rectified}
use Rattle.domain_region.specs.declared.Word.{Word}
use Rattle.domain_region.specs.declared.Word.TheVariants.{Domaincfg, Sourcecfg, Setip, InClrip, Setie}
use Rattle.domain_region.specs.declared.Word.TheVariants.{Target, Topi, Claimi}
use Rattle.domain.specs.Domain.{Domain, is_enabled, by_messages}
use Rattle.domain.specs.Slot.{source_at}
use Rattle.domain_direct.specs.Direct.{eligible, topi_of}
use Rattle.domain_registers.specs.Read.{register_value}
use Rattle.wired_state.specs.Wires.{Wired, domain_in}
use Rattle.wired_registers.specs.Wired.{read_in}
use Rattle.claims_registers.specs.Rules.{Sound}

abbrev pub Bit : ℕ → ℕ → Bool → Type 0
Bit v n b = v / 2 ^ n % 2 ≡ cond b 1 0

abbrev pub RectifiedHigh : ℕ → Bool → Type 0
RectifiedHigh m wire =
    (((m ≡ 4) ⊎ (m ≡ 6)) × (wire ≡ true)) ⊎ (((m ≡ 5) ⊎ (m ≡ 7)) × (wire ≡ false))

abbrev pub InputRead : ℕ → ℕ → ℕ → Domain → List ℕ → Type 0
InputRead v n i d wires =
    let mode = (source_at d i).mode in
    (v / 2 ^ n % 2 ≡ 1) ↔ ((1 ≤ i) × RectifiedHigh mode (member wires i))

-- bit n of word k is source 32 k + n: setip reads its pending bit, setie its enable bit, and in_clrip its
-- rectified value, by the mode that it has in this domain; number 0 reads 0 there
-- [01 W36 W37]
-- [02 M101.3]
unfoldable pub Claim-132 : Type 0
Claim-132 =
    (d : Domain) (wires : List ℕ) (k : ℕ)
    → let reads : Word → ℕ = register_value d wires in
    ((n : ℕ) → n < 32 → let i = 32 * k + n in
    Bit (reads (Setip k)) n (source_at d i).pending × Bit (reads (Setie k)) n (source_at d i).enabled
    × InputRead (reads (InClrip k)) n i d wires)
    × (reads (InClrip k) < 2 ^ 32) × (WordsFit d.pending → reads (Setip k) < 2 ^ 32)
    × (WordsFit d.enable → reads (Setie k) < 2 ^ 32)

-- what a handler may rely on, whatever the wires are: a level source that is pending reads 1 in in_clrip, and
-- with direct delivery in_clrip and setip read the same bit of it; a source that is inactive (mode 0),
-- detached (1) or delegated (1024) reads 0 there; and no source reads 1 there in both domains
-- [02 M101.2]
unfoldable pub Claim-203 : Type 0
Claim-203 =
    (w : Wired) → Sound w → (k n : ℕ) → k < 2 → n < 32 → 1 ≤ 32 * k + n
    → let bit_in : Bool → Word → ℕ = λ c r. read_in w c r / 2 ^ n % 2 in
    ((c : Bool) → let d = domain_in w c in let mode = (source_at d (32 * k + n)).mode in
    ((mode ≡ 6) ⊎ (mode ≡ 7)
    → (bit_in c (Setip k) ≡ 1 → bit_in c (InClrip k) ≡ 1)
    × (by_messages d ≡ false → bit_in c (InClrip k) ≡ bit_in c (Setip k)))
    × ((mode ≡ 0) ⊎ (mode ≡ 1) ⊎ (mode ≡ 1024) → bit_in c (InClrip k) ≡ 0))
    × ((bit_in false (InClrip k) ≡ 0) ⊎ (bit_in true (InClrip k) ≡ 0))

-- domaincfg: 0x80 in bits 31:24, IE in bit 8, DM in bit 2, and 0 in every other bit, BE in bit 0 among them
-- [01 B13 W8 W9]
unfoldable pub Claim-133 : Type 0
Claim-133 =
    (w : Wired) → Sound w → (c : Bool)
    → let word = read_in w c Domaincfg in let d = domain_in w c in
    (word ≡ 0x80000000 + cond (is_enabled d) 256 0 + cond (by_messages d) 4 0)
    × (word / 2 ^ 24 ≡ 0x80) × Bit word 8 (is_enabled d) × Bit word 2 (by_messages d) × (word % 2 ≡ 0)

-- the modes: 0, and 1024 with which a source is delegated, are not active; 6 and 7 are the level modes;
-- the rectified value is high with a high wire for 4 (Edge1) and 6 (Level1), with a low one for 5 (Edge0)
-- and 7 (Level0), and never for another mode
-- [01 W14 W15 W21 W25 W26]
unfoldable pub Claim-139 : Type 0
Claim-139 =
    (m : ℕ)
    → ((is_active m ≡ true) ↔ ((m ≢ 0) × (m < 1024))) × ((is_level m ≡ true) ↔ ((m ≡ 6) ⊎ (m ≡ 7)))
    × ((wire : Bool)
    → (is_rectified m wire ≡ true) ↔ RectifiedHigh m wire)

-- topi and claimi of a hart read the same: by messages 0, and in direct mode 0 exactly if no source counts
-- for that hart (Claim-48 says which do), else what Claim-44 says; a sourcecfg and a target read what is
-- stored of their source
-- [01 S11]
unfoldable pub Claim-145 : Type 0
Claim-145 =
    (d : Domain) (wires : List ℕ)
    → let reads : Word → ℕ = register_value d wires in
    ((h : ℕ)
    → (reads (Topi h) ≡ topi_of d h) × (reads (Claimi h) ≡ topi_of d h)
    × (by_messages d ≡ true → (reads (Topi h) ≡ 0) × (reads (Claimi h) ≡ 0))
    × (by_messages d ≡ false
    → (reads (Topi h) ≡ 0) ↔ ((i : ℕ) → 1 ≤ i → i ≤ 63 → eligible d h i ≡ false)))
    × ((i : ℕ) → (reads (Sourcecfg i) ≡ (source_at d i).mode) × (reads (Target i) ≡ (source_at d i).target))
