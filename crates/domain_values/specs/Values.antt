-- What a read of a register gives. 01, "The wired controller", "Direct delivery and signals". Assumes
-- nothing.
--   domaincfg_mark         what domaincfg reads above the stored word
--   register_value d ws w  what register w of d reads; ws are the wires
-- domaincfg reads 0x80 in bits 31:24. clrie and the number registers read 0, and so does what is not named.
use Rattle.std.specs.Prelude.{ℕ, ◌+◌, List, get_or}
use Rattle.domain_region.specs.declared.Word.{Word}
use Rattle.domain_region.specs.declared.Word.TheVariants.{Domaincfg, Sourcecfg, Setip, Setipnum, InClrip}
use Rattle.domain_region.specs.declared.Word.TheVariants.{Clripnum}
use Rattle.domain_region.specs.declared.Word.TheVariants.{Setie, Setienum, Clrie, Clrienum, SetipnumLe}
use Rattle.domain_region.specs.declared.Word.TheVariants.{SetipnumBe}
use Rattle.domain_region.specs.declared.Word.TheVariants.{Genmsi, Target, Idelivery, Iforce, Ithreshold}
use Rattle.domain_region.specs.declared.Word.TheVariants.{Topi}
use Rattle.domain_region.specs.declared.Word.TheVariants.{Claimi, Unused}
use Rattle.domain.specs.Domain.{Domain, domaincfg_of}
use Rattle.domain.specs.Slot.{source_at}
use Rattle.domain_genmsi.specs.Genmsi.{genmsi_read}
use Rattle.domain_inputs.specs.Inputs.{input_word}
use Rattle.domain_direct.specs.declared.Setting.TheVariants as setting
use Rattle.domain_direct.specs.Direct.{topi_of, setting_of}

-- [01 W9 R10 T9]
abbrev pub domaincfg_mark : ℕ
domaincfg_mark = 0x80000000

-- [01 B13 W36 W38 S11]
unfoldable pub register_value : Domain → List ℕ → Word → ℕ
register_value d ws Domaincfg = domaincfg_mark + domaincfg_of d
register_value d ws (Sourcecfg i) = (source_at d i).mode
register_value d ws (Setip k) = get_or d.pending k 0
register_value d ws Setipnum = 0
register_value d ws (InClrip k) = input_word d ws k
register_value d ws Clripnum = 0
register_value d ws (Setie k) = get_or d.enable k 0
register_value d ws Setienum = 0
register_value d ws (Clrie k) = 0
register_value d ws Clrienum = 0
register_value d ws SetipnumLe = 0
register_value d ws SetipnumBe = 0
register_value d ws Genmsi = genmsi_read d
register_value d ws (Target i) = (source_at d i).target
register_value d ws (Idelivery h) = setting_of d h setting.Idelivery
register_value d ws (Iforce h) = setting_of d h setting.Iforce
register_value d ws (Ithreshold h) = setting_of d h setting.Ithreshold
register_value d ws (Topi h) = topi_of d h
register_value d ws (Claimi h) = topi_of d h
register_value d ws Unused = 0
