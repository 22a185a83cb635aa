-- What is special about a register: a claimi claims when it is read, a sourcecfg concerns both domains when
-- it is written, genmsi sends at once. 01, "The wired controller", "Direct delivery and signals"; the
-- standard 4.5.15, 4.8.1.5. Assumes nothing.
--   role_of w   the role of register w: Claims h for the claimi of hart h, Configures i for the sourcecfg of
--               source i, Generates for genmsi, and Plain for every other register
use Rattle.domain_region.specs.declared.Word.{Word}
use Rattle.domain_region.specs.declared.Word.TheVariants.{Domaincfg, Sourcecfg, Setip, Setipnum}
use Rattle.domain_region.specs.declared.Word.TheVariants.{InClrip}
use Rattle.domain_region.specs.declared.Word.TheVariants.{Clripnum, Setie, Setienum, Clrie, Clrienum}
use Rattle.domain_region.specs.declared.Word.TheVariants.{SetipnumLe, SetipnumBe, Genmsi, Target}
use Rattle.domain_region.specs.declared.Word.TheVariants.{Idelivery}
use Rattle.domain_region.specs.declared.Word.TheVariants.{Iforce, Ithreshold, Topi, Claimi, Unused}
use Rattle.domain_region.specs.declared.role.Role.{Role}
use Rattle.domain_region.specs.declared.role.Role.TheVariants.{Claims, Configures, Generates, Plain}

-- [01 S4]
abbrev pub role_of : Word → Role
role_of Domaincfg = Plain
role_of (Sourcecfg i) = Configures i
role_of (Setip k) = Plain
role_of Setipnum = Plain
role_of (InClrip k) = Plain
role_of Clripnum = Plain
role_of (Setie k) = Plain
role_of Setienum = Plain
role_of (Clrie k) = Plain
role_of Clrienum = Plain
role_of SetipnumLe = Plain
role_of SetipnumBe = Plain
role_of Genmsi = Generates
role_of (Target i) = Plain
role_of (Idelivery h) = Plain
role_of (Iforce h) = Plain
role_of (Ithreshold h) = Plain
role_of (Topi h) = Plain
role_of (Claimi h) = Claims h
role_of Unused = Plain
