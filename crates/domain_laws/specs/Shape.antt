-- A domain whose lists have their lengths, as that of 144 words has. Assumes nothing.
--   DomainShaped d    64 sourcecfg and target words, two words each of pending and enable bits, three
--                     numbers of each of four harts
use Rattle.std.specs.Prelude.{◌≡◌, length}
use Rattle.sizes.specs.Sizes.{slot_count, source_set_size, structures_size}
use Rattle.domain.specs.Domain.{Domain}

pub record DomainShaped (d : Domain) : Type 0 where
  pub sources : length d.source ≡ slot_count
  pub targets : length d.target ≡ slot_count
  pub pendings : length d.pending ≡ source_set_size
  pub enables : length d.enable ≡ source_set_size
  pub deliveries : length d.delivery ≡ structures_size
