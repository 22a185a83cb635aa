-- What a read of a register does besides; what it gives is in Rattle.domain_values. 01, "The wired
-- controller",
-- "Direct delivery and signals". Assumes nothing.
--   register_value d ws w     what a register reads: Rattle.domain_values
--   claimed_as d r            d after a register of role r was read: a claimi claims, the others do nothing
--   claimed_by d w            d after register w was read
use Rattle.domain_region.specs.declared.Word.{Word}
use Rattle.domain_region.specs.declared.role.Role.{Role}
use Rattle.domain_region.specs.declared.role.Role.TheVariants.{Claims, Configures, Generates, Plain}
use Rattle.domain_region.specs.Role.{role_of}
use Rattle.domain.specs.Domain.{Domain}
use Rattle.domain_direct.specs.Direct.{hart_claimed}
unfoldable pub use Rattle.domain_values.specs.Values.{register_value}

unfoldable pub claimed_as : Domain → Role → Domain
claimed_as d (Claims h) = hart_claimed d h
claimed_as d (Configures i) = d
claimed_as d Generates = d
claimed_as d Plain = d

unfoldable pub claimed_by : Domain → Word → Domain
claimed_by d w = claimed_as d (role_of w)
