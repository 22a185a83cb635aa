-- Claims 135, 136 and 142, on the settable numbers of the delivery structures and on genmsi: what a write
-- or a claim stores, what is read, and that the rest stays. 01, "Direct delivery and signals", "The wired
-- controller".
--   NumbersAre d d' wires h a b t    d' has idelivery a, iforce b and ithreshold t for hart h, stored and
--                                    read, and everything else as d has it
--   DomainBecame d d' w g f          d' has domaincfg w and genmsi g, each source j of 1 to 63 as f j makes
--                                    it from that of d, and the rest as d has it: Writes
-- c says that a domain is the child.
-- Premises: `DomainShaped d`, the lists of d have their lengths, as those of 144 words have; for the Busy bit
-- of whatever is stored `Sound w`, the state rules. No axioms.
use Rattle.std.specs.Prelude.{ℕ, ◌+◌, ◌*◌, ◌/◌, ◌%◌, ◌^◌, ◌≤◌, ◌<◌, ◌≡◌, Bool, true, false, List, ◌≢◌}
use Rattle.domain_region.specs.declared.Word.{Word}
use Rattle.domain_region.specs.declared.Word.TheVariants.{Genmsi, Idelivery, Iforce, Ithreshold}
use Rattle.domain.specs.Domain.{Domain, domaincfg_of, by_messages, genmsi_of}
use Rattle.domain.specs.Slot.{source_at}
use Rattle.domain.specs.Structure.{structure_at}
use Rattle.domain_laws.specs.Shape.{DomainShaped}
use Rattle.domain_direct.specs.Direct.{topi_of, hart_claimed}
use Rattle.domain_registers.specs.Read.{register_value}
use Rattle.domain_registers.specs.Write.{register_written}
use Rattle.wired_state.specs.Wires.{Wired}
use Rattle.wired_registers.specs.Wired.{read_in}
use Rattle.claims_registers.specs.Rules.{Sound}
use Rattle.claims_registers.specs.Writes.{DomainBecame}

pub record NumbersAre (d d' : Domain) (wires : List ℕ) (h a b t : ℕ) : Type 0 where
  pub idelivery : ((structure_at d' h).idelivery ≡ a) × (register_value d' wires (Idelivery h) ≡ a)
  pub iforce : ((structure_at d' h).iforce ≡ b) × (register_value d' wires (Iforce h) ≡ b)
  pub ithreshold : ((structure_at d' h).ithreshold ≡ t) × (register_value d' wires (Ithreshold h) ≡ t)
  -- the other harts, domaincfg, genmsi and every source
  pub others : (g : ℕ) → g ≢ h → structure_at d' g ≡ structure_at d g
  pub domaincfg : domaincfg_of d' ≡ domaincfg_of d
  pub genmsi : genmsi_of d' ≡ genmsi_of d
  pub sources : (i : ℕ) → source_at d' i ≡ source_at d i

-- in direct mode idelivery and iforce store 0 and 1 and keep the old value otherwise, and ithreshold keeps
-- the low 8 bits; by messages all three read 0, ignore writes, and so keep what is stored
-- [01 S1 S2 S3 S14 S15]
unfoldable pub Claim-135 : Type 0
Claim-135 =
    (c : Bool) (d : Domain) (wires : List ℕ) (h v : ℕ) → DomainShaped d → h < 4
    → let written : Word → Domain = λ r. register_written c d wires r v in
    let reads : Word → ℕ = register_value d wires in
    let x = structure_at d h in
    (by_messages d ≡ false
    → (v ≤ 1 → NumbersAre d (written (Idelivery h)) wires h v x.iforce x.ithreshold)
    × (1 < v → NumbersAre d (written (Idelivery h)) wires h x.idelivery x.iforce x.ithreshold)
    × (v ≤ 1 → NumbersAre d (written (Iforce h)) wires h x.idelivery v x.ithreshold)
    × (1 < v → NumbersAre d (written (Iforce h)) wires h x.idelivery x.iforce x.ithreshold)
    × NumbersAre d (written (Ithreshold h)) wires h x.idelivery x.iforce (v % 256))
    × (by_messages d ≡ true
    → (reads (Idelivery h) ≡ 0) × (reads (Iforce h) ≡ 0) × (reads (Ithreshold h) ≡ 0)
    × (written (Idelivery h) ≡ d) × (written (Iforce h) ≡ d) × (written (Ithreshold h) ≡ d))

-- genmsi: by messages a write keeps the hart, bits 19:18, and the identity, bits 7:0, which are read again,
-- and changes nothing else; in direct mode it reads 0 and ignores writes; Busy, bit 12, always reads 0
-- [01 W41 W42 W44]
unfoldable pub Claim-136 : Type 0
Claim-136 =
    ((c : Bool) (d : Domain) (wires : List ℕ) (v : ℕ) → DomainShaped d
    → let after = register_written c d wires Genmsi v in let word = v / 2 ^ 18 % 4 * 2 ^ 18 + v % 256 in
    (by_messages d ≡ true
    → DomainBecame d after (domaincfg_of d) word (λ j s. s) × (register_value after wires Genmsi ≡ word))
    × (by_messages d ≡ false → (after ≡ d) × (register_value d wires Genmsi ≡ 0)))
    × ((w : Wired) → Sound w → (c : Bool) → read_in w c Genmsi / 2 ^ 12 % 2 ≡ 0)

-- a claimi of 0 in direct mode clears iforce, and that alone: Claim-46 in plain numbers
-- [01 S13]
unfoldable pub Claim-142 : Type 0
Claim-142 =
    (d : Domain) (wires : List ℕ) (h : ℕ) → DomainShaped d → h < 4 → by_messages d ≡ false → topi_of d h ≡ 0
    → let x = structure_at d h in
    NumbersAre d (hart_claimed d h) wires h x.idelivery 0 x.ithreshold
