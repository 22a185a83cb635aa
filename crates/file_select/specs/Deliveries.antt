-- The deliveries that a file may store. 01, "One message file". Assumes nothing.
--   delivery_legal g d     d is a delivery: 0 off, 1 on, and 0x40000000 unless the file is a guest's (g)
--   from_wired             0x40000000: the file takes the wired controller's signal
use Rattle.std.specs.Prelude.{ℕ, Bool, not, ◌&&◌, ◌||◌, eqb}

-- [01 F6]
abbrev pub from_wired : ℕ
from_wired = 0x40000000

-- [01 F5 F6]
unfoldable pub delivery_legal : Bool → ℕ → Bool
delivery_legal g d = eqb d 0 || eqb d 1 || (not g && eqb d from_wired)
