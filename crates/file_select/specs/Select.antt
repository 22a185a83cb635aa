-- Select numbers: which are legal, and which register each names. 01, "One message file"; the standard 3.7.
-- Assumes nothing.
--   eidelivery, eithreshold, eip0, eie0   the select numbers of these registers
--   select_legal s           0x70 to 0xFF, but no odd number from 0x80 on
--   registers_from n base r s   r j if s is base + 2j and a file of n identities has 64j; else reads 0
--   register_of n s          the register that a legal s names in a file of n identities
use Rattle.std.specs.Prelude.{ℕ, ◌-◌, ◌/◌, ◌%◌, Bool, cond, not, ◌&&◌, eqb, leb, ltb}
use Rattle.file_select.specs.declared.Register.{Register}
use Rattle.file_select.specs.declared.Register.TheVariants.{Delivery, Threshold, Pending, Enable}
use Rattle.file_select.specs.declared.Register.TheVariants.{Unused}

abbrev pub eidelivery : ℕ
eidelivery = 0x70

abbrev pub eithreshold : ℕ
eithreshold = 0x72

abbrev pub eip0 : ℕ
eip0 = 0x80

abbrev pub eie0 : ℕ
eie0 = 0xC0

-- [01 F10 F15 T11]
unfoldable pub select_legal : ℕ → Bool
select_legal s = leb eidelivery s && leb s 0xFF && not (leb eip0 s && eqb (s % 2) 1)

-- [01 F12]
unfoldable pub registers_from : ℕ → ℕ → (ℕ → Register) → ℕ → Register
registers_from n base r s = cond (leb ((s - base) / 2) (n / 64)) (r ((s - base) / 2)) Unused

-- [01 F9 F14 T11]
unfoldable pub register_of : ℕ → ℕ → Register
register_of n s =
    cond (eqb s eidelivery) Delivery
    (cond (eqb s eithreshold) Threshold
    (cond (ltb s eip0) Unused
    (cond (ltb s eie0) (registers_from n eip0 Pending s) (registers_from n eie0 Enable s))))
