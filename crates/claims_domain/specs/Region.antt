-- Claims 130 and 131, on the region of a domain: which register stands at which address, that every other
-- address has none, and what reads 0 and ignores writes. 01, "The wired controller", "Direct delivery and
-- signals". c says that a domain is the child.
--   address_of r   the address of register r, in the paper's numbers
--   Numbered r     the number that r carries is one that there is; Unused is no register
--   Unnamed a      no register has the address a
-- Premises: none but the ranges of numbers. No axioms.
use Rattle.std.specs.Prelude.{ℕ, ◌+◌, ◌*◌, ◌≤◌, ◌<◌, ◌≡◌, Bool, List, ◌≢◌}
use Rattle.domain_region.specs.declared.Word.{Word}
use Rattle.domain_region.specs.declared.Word.TheVariants.{Domaincfg, Sourcecfg, Setip, Setipnum, InClrip}
use Rattle.domain_region.specs.declared.Word.TheVariants.{Clripnum}
use Rattle.domain_region.specs.declared.Word.TheVariants.{Setie, Setienum, Clrie, Clrienum, SetipnumLe}
use Rattle.domain_region.specs.declared.Word.TheVariants.{SetipnumBe}
use Rattle.domain_region.specs.declared.Word.TheVariants.{Genmsi, Target, Idelivery, Iforce, Ithreshold}
use Rattle.domain_region.specs.declared.Word.TheVariants.{Topi}
use Rattle.domain_region.specs.declared.Word.TheVariants.{Claimi, Unused}
use Rattle.domain_region.specs.Region.{word_at, Within}
use Rattle.domain.specs.Domain.{Domain}
use Rattle.domain_registers.specs.Read.{register_value}
use Rattle.domain_registers.specs.Write.{register_written}

-- the map, each line as the paper has it; what is not a register has no address, and its line is not read
abbrev pub address_of : Word → ℕ
address_of Domaincfg = 0x0000
address_of (Sourcecfg i) = 4 * i
address_of (Setip k) = 0x1C00 + 4 * k
address_of Setipnum = 0x1CDC
address_of (InClrip k) = 0x1D00 + 4 * k
address_of Clripnum = 0x1DDC
address_of (Setie k) = 0x1E00 + 4 * k
address_of Setienum = 0x1EDC
address_of (Clrie k) = 0x1F00 + 4 * k
address_of Clrienum = 0x1FDC
address_of SetipnumLe = 0x2000
address_of SetipnumBe = 0x2004
address_of Genmsi = 0x3000
address_of (Target i) = 0x3000 + 4 * i
address_of (Idelivery h) = 0x4000 + 32 * h + 0x00
address_of (Iforce h) = 0x4000 + 32 * h + 0x04
address_of (Ithreshold h) = 0x4000 + 32 * h + 0x08
address_of (Topi h) = 0x4000 + 32 * h + 0x18
address_of (Claimi h) = 0x4000 + 32 * h + 0x1C
address_of Unused = 0

-- sources 1 to 63, words 0 and 1, harts 0 to 3
abbrev pub Numbered : Word → Type 0
Numbered Domaincfg = Unit {0}
Numbered (Sourcecfg i) = (1 ≤ i) × (i ≤ 63)
Numbered (Setip k) = k < 2
Numbered Setipnum = Unit {0}
Numbered (InClrip k) = k < 2
Numbered Clripnum = Unit {0}
Numbered (Setie k) = k < 2
Numbered Setienum = Unit {0}
Numbered (Clrie k) = k < 2
Numbered Clrienum = Unit {0}
Numbered SetipnumLe = Unit {0}
Numbered SetipnumBe = Unit {0}
Numbered Genmsi = Unit {0}
Numbered (Target i) = (1 ≤ i) × (i ≤ 63)
Numbered (Idelivery h) = h < 4
Numbered (Iforce h) = h < 4
Numbered (Ithreshold h) = h < 4
Numbered (Topi h) = h < 4
Numbered (Claimi h) = h < 4
Numbered Unused = ⊥

abbrev pub Unnamed : ℕ → Type 0
Unnamed a = (r : Word) → Numbered r → a ≢ address_of r

-- each register is at its address, and at no other; every other address has none, the configurable message
-- addresses 0x1BC0 to 0x1BCC among them; and every register that an address names is one that there is
-- [01 B4 B14 W1 W2 W3 W4 W5 W6 W7 S1 S4]
unfoldable pub Claim-130 : Type 0
Claim-130 =
    ((r : Word) → Numbered r → word_at (address_of r) ≡ r)
    × ((a : ℕ) → word_at a ≢ Unused → Numbered (word_at a) × (a ≡ address_of (word_at a)))
    × ((a : ℕ) → Unnamed a → word_at a ≡ Unused)
    × (word_at 0x1BC0 ≡ Unused) × (word_at 0x1BC4 ≡ Unused) × (word_at 0x1BC8 ≡ Unused)
    × (word_at 0x1BCC ≡ Unused) × ((a : ℕ) → Within (word_at a))

-- the number registers, clrie and every address with no register read 0; such an address, topi and claimi
-- ignore writes
-- [01 B14 C23 W38]
unfoldable pub Claim-131 : Type 0
Claim-131 =
    (c : Bool) (d : Domain) (wires : List ℕ)
    → let reads : Word → ℕ = register_value d wires in
    let written : Word → ℕ → Domain = register_written c d wires in
    (reads Setipnum ≡ 0) × (reads Clripnum ≡ 0) × (reads Setienum ≡ 0) × (reads Clrienum ≡ 0)
    × (reads SetipnumLe ≡ 0) × (reads SetipnumBe ≡ 0) × ((k : ℕ) → reads (Clrie k) ≡ 0)
    × (reads Unused ≡ 0) × ((v : ℕ) → written Unused v ≡ d)
    × ((a : ℕ) → Unnamed a → (reads (word_at a) ≡ 0) × ((v : ℕ) → written (word_at a) v ≡ d))
    × ((h v : ℕ) → (written (Topi h) v ≡ d) × (written (Claimi h) v ≡ d))
