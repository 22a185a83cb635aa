-- The registers of a domain's region by their addresses. 01, "The wired controller", "Direct delivery and
-- signals"; the standard 4.5, Table 4.1, and 4.8.1. Assumes nothing.
--   address_legal a       a is a multiple of 4 below 0x5000, the size of a region
--   Row                   registers that differ by a number: name k is at base + step k, k from first to last
--   one b w               the row of w alone, at b
--   words_from b m n r    the row of r k at b + 4 k, k from m to n
--   structures o r        the row of r h at o in the delivery structure of hart h, 0 to 3: 0x4000 + 32 h + o
--   registers             every register that there is, no two at one address
--   name_in r a w         the register that the row r has at a, or w
--   word_in rs a          the register that the rows rs have at a, or Unused
--   word_at a             the register at a, or Unused if a is not named here, or is no multiple of 4
--   Within w              the number that w carries is in its range
use Rattle.std.specs.Prelude.{ℕ, ◌+◌, ◌-◌, ◌*◌, ◌/◌, ◌%◌, ◌≤◌, ◌<◌, Bool, cond, ◌&&◌, List, [], ◌∷◌, eqb, leb}
use Rattle.std.specs.Prelude.{ltb}
use Rattle.sizes.specs.Sizes.{hart_count, source_count, source_set_size}
use Rattle.domain_region.specs.declared.Word.{Word}
use Rattle.domain_region.specs.declared.Word.TheVariants.{Domaincfg, Sourcecfg, Setip, Setipnum}
use Rattle.domain_region.specs.declared.Word.TheVariants.{InClrip}
use Rattle.domain_region.specs.declared.Word.TheVariants.{Clripnum, Setie, Setienum, Clrie, Clrienum}
use Rattle.domain_region.specs.declared.Word.TheVariants.{SetipnumLe, SetipnumBe, Genmsi, Target}
use Rattle.domain_region.specs.declared.Word.TheVariants.{Idelivery}
use Rattle.domain_region.specs.declared.Word.TheVariants.{Iforce, Ithreshold, Topi, Claimi, Unused}

-- [01 C22 T10]
unfoldable pub address_legal : ℕ → Bool
address_legal a = eqb (a % 4) 0 && ltb a 0x5000

pub record Row : Type 0 where
  pub base : ℕ
  pub step : ℕ
  pub first : ℕ
  pub last : ℕ
  pub name : ℕ → Word

abbrev pub one : ℕ → Word → Row
one b w = record { base = b; step = 4; first = 0; last = 0; name = λ k. w }

-- [01 W3]
abbrev pub words_from : ℕ → ℕ → ℕ → (ℕ → Word) → Row
words_from b m n r = record { base = b; step = 4; first = m; last = n; name = r }

-- [01 W7 S1 S4]
abbrev pub structures : ℕ → (ℕ → Word) → Row
structures o r = record { base = 0x4000 + o; step = 32; first = 0; last = hart_count - 1; name = r }

-- [01 W1 W2 W4 W5 W6]
unfoldable pub registers : List Row
registers =
    one 0x0000 Domaincfg
    ∷ words_from 0x0000 1 source_count Sourcecfg
    ∷ words_from 0x1C00 0 1 Setip
    ∷ one 0x1CDC Setipnum
    ∷ words_from 0x1D00 0 1 InClrip
    ∷ one 0x1DDC Clripnum
    ∷ words_from 0x1E00 0 1 Setie
    ∷ one 0x1EDC Setienum
    ∷ words_from 0x1F00 0 1 Clrie
    ∷ one 0x1FDC Clrienum
    ∷ one 0x2000 SetipnumLe
    ∷ one 0x2004 SetipnumBe
    ∷ one 0x3000 Genmsi
    ∷ words_from 0x3000 1 source_count Target
    ∷ structures 0x00 Idelivery
    ∷ structures 0x04 Iforce
    ∷ structures 0x08 Ithreshold
    ∷ structures 0x18 Topi
    ∷ structures 0x1C Claimi
    ∷ []

unfoldable pub name_in : Row → ℕ → Word → Word
name_in r a w =
    let k = (a - r.base) / r.step in
    cond (eqb a (r.base + r.step * k) && leb r.first k && leb k r.last) (r.name k) w

-- [01 C23]
unfoldable pub word_in : List Row → ℕ → Word
word_in [] a = Unused
word_in (r ∷ rs) a = name_in r a (word_in rs a)

-- [01 B14 T10]
unfoldable pub word_at : ℕ → Word
word_at a = word_in registers a

abbrev pub Within : Word → Type 0
Within Domaincfg = Unit {0}
Within (Sourcecfg s) = (1 ≤ s) × (s ≤ source_count)
Within (Setip k) = k < source_set_size
Within Setipnum = Unit {0}
Within (InClrip k) = k < source_set_size
Within Clripnum = Unit {0}
Within (Setie k) = k < source_set_size
Within Setienum = Unit {0}
Within (Clrie k) = k < source_set_size
Within Clrienum = Unit {0}
Within SetipnumLe = Unit {0}
Within SetipnumBe = Unit {0}
Within Genmsi = Unit {0}
Within (Target s) = (1 ≤ s) × (s ≤ source_count)
Within (Idelivery h) = h < hart_count
Within (Iforce h) = h < hart_count
Within (Ithreshold h) = h < hart_count
Within (Topi h) = h < hart_count
Within (Claimi h) = h < hart_count
Within Unused = Unit {0}
