-- `domain_region::role::role_of` meets its contract: in the last arm the register is none of the three named.
-- Assumes nothing.
use mathlib.Core.Path.{sym}
use Rattle.domain_region.proofs.RoleLaws.{plain-else}
use Rattle.domain_region.proofs.role.role_of.Goals as goal

pub returns-in_default : goal.returns-in_default
returns-in_default c =
    sym (plain-else c.args.word c.in_default.not-Claimi c.in_default.not-Sourcecfg c.in_default.not-Genmsi)
