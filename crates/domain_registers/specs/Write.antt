-- What a write to a register does to its domain, before anything is sent. 01, "The wired controller", "Direct
-- delivery and signals"; the standard 4.5, 4.8.1. Assumes nothing.
--   register_written c d ws w v   d after v was written to register w; c: d is the child; ws: the wires
--   written_elsewhere d           d as it is: what the write does is not said here, and not done here
-- setipnum_le takes the value as it is, setipnum_be its four bytes reversed. topi, claimi and what is not
-- named ignore writes.
use Rattle.std.specs.Prelude.{ℕ, Bool, List}
use Rattle.words.specs.Parts.{reversed}
use Rattle.domain_region.specs.declared.Word.{Word}
use Rattle.domain_region.specs.declared.Word.TheVariants.{Domaincfg, Sourcecfg, Setip, Setipnum, InClrip}
use Rattle.domain_region.specs.declared.Word.TheVariants.{Clripnum}
use Rattle.domain_region.specs.declared.Word.TheVariants.{Setie, Setienum, Clrie, Clrienum, SetipnumLe}
use Rattle.domain_region.specs.declared.Word.TheVariants.{SetipnumBe}
use Rattle.domain_region.specs.declared.Word.TheVariants.{Genmsi, Target, Idelivery, Iforce, Ithreshold}
use Rattle.domain_region.specs.declared.Word.TheVariants.{Topi}
use Rattle.domain_region.specs.declared.Word.TheVariants.{Claimi}
use Rattle.domain_region.specs.declared.Word.TheVariants.{Unused}
use Rattle.source.specs.declared.Change.TheVariants.{Pend, Clear, Enable, Disable}
use Rattle.domain.specs.Domain.{Domain}
use Rattle.domain_writes.specs.Writes.{word_changed, number_changed, target_written}
use Rattle.domain_domaincfg.specs.Domaincfg.{domaincfg_written}
use Rattle.domain_genmsi.specs.Genmsi.{genmsi_written}
use Rattle.domain_direct.specs.declared.Setting.TheVariants as setting
use Rattle.domain_direct.specs.Direct.{setting_written}

-- a sourcecfg concerns both domains: what a write to it does is `source_written` of Rattle.wired_sourcecfg
abbrev pub written_elsewhere : Domain → Domain
written_elsewhere d = d

-- [01 W40]
unfoldable pub register_written : Bool → Domain → List ℕ → Word → ℕ → Domain
register_written c d ws Domaincfg v = domaincfg_written d ws v
register_written c d ws (Sourcecfg i) v = written_elsewhere d
register_written c d ws (Setip k) v = word_changed d ws Pend k v
register_written c d ws Setipnum v = number_changed d ws Pend v
register_written c d ws (InClrip k) v = word_changed d ws Clear k v
register_written c d ws Clripnum v = number_changed d ws Clear v
register_written c d ws (Setie k) v = word_changed d ws Enable k v
register_written c d ws Setienum v = number_changed d ws Enable v
register_written c d ws (Clrie k) v = word_changed d ws Disable k v
register_written c d ws Clrienum v = number_changed d ws Disable v
register_written c d ws SetipnumLe v = number_changed d ws Pend v
register_written c d ws SetipnumBe v = number_changed d ws Pend (reversed v)
register_written c d ws Genmsi v = genmsi_written d v
register_written c d ws (Target i) v = target_written c d i v
register_written c d ws (Idelivery h) v = setting_written d h setting.Idelivery v
register_written c d ws (Iforce h) v = setting_written d h setting.Iforce v
register_written c d ws (Ithreshold h) v = setting_written d h setting.Ithreshold v
register_written c d ws (Topi h) v = d
register_written c d ws (Claimi h) v = d
register_written c d ws Unused v = d
