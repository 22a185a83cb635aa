-- The sourcecfg word of a source. 01, "The wired controller"; the standard 4.5.2. Assumes nothing.
--   delegated_bit         the bit D of a sourcecfg word, which delegates
--   delegated_word        what is stored for a delegated source: that bit alone
--   edge1, edge0, level1, level0
--                         the modes that read the wire, by the names of the standard
--   is_active m           the domain has the source, with a mode other than 0; 1024 says that it is delegated
--   is_level m            Level1 or Level0
--   is_rectified m wire   the rectified value is high: in Edge1 or Level1 with a high wire, in Edge0 or
--                         Level0 with a low one, and in no other mode
--   kept_mode v           the mode that a written v has: bits 2:0, of which 2 and 3 become 0
--   source_word c has v   what a write of v stores in the child domain (c) or in the machine domain; has says
--                         that the child has the source
-- The bit D, bit 10, delegates in the machine domain, and stores 0 in the child.
use Rattle.std.specs.Prelude.{ℕ, Bool, cond, not, ◌&&◌, ◌||◌, eqb, ltb}
use Rattle.words.specs.Bits.{has_bit}
use Rattle.words.specs.Parts.{field_of}

abbrev pub delegated_bit : ℕ
delegated_bit = 10

-- [01 W13]
abbrev pub delegated_word : ℕ
delegated_word = 1024

abbrev pub edge1 : ℕ
edge1 = 4

abbrev pub edge0 : ℕ
edge0 = 5

abbrev pub level1 : ℕ
level1 = 6

abbrev pub level0 : ℕ
level0 = 7

-- [01 W14 W21]
unfoldable pub is_active : ℕ → Bool
is_active m = not (eqb m 0) && ltb m delegated_word

-- [01 W15]
unfoldable pub is_level : ℕ → Bool
is_level m = eqb m level1 || eqb m level0

-- [01 W15 W25 W26]
unfoldable pub is_rectified : ℕ → Bool → Bool
is_rectified m wire =
    ((eqb m edge1 || eqb m level1) && wire) || ((eqb m edge0 || eqb m level0) && not wire)

-- [01 W14 W16]
unfoldable pub kept_mode : ℕ → ℕ
kept_mode v = cond (eqb (field_of v 0 3) 2 || eqb (field_of v 0 3) 3) 0 (field_of v 0 3)

-- [01 W12 W20]
unfoldable pub source_word : Bool → Bool → ℕ → ℕ
source_word c has v =
    cond c (cond (has && not (has_bit v delegated_bit)) (kept_mode v) 0)
    (cond (has_bit v delegated_bit) delegated_word (kept_mode v))
