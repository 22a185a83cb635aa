-- The wired controller: the registers of its two domains. 01, "The board", "The wired controller"; the
-- standard 4.5. Assumes nothing.
--   read_in w c r             what register r of a domain reads
--   claimed_in w c r          w after that read
--   part_written w c r v      w after v was written to it, where it is no sourcecfg
--   written_as w c r v x      w after v was written to register r, whose role is x, of a domain
--   written_in w c r v        w after v was written to register r of a domain
-- Nothing is sent here: that comes after.
use Rattle.std.specs.Prelude.{ℕ, Bool}
use Rattle.domain_region.specs.declared.Word.{Word}
use Rattle.domain_region.specs.declared.role.Role.{Role}
use Rattle.domain_region.specs.declared.role.Role.TheVariants.{Claims, Configures, Generates, Plain}
use Rattle.domain_region.specs.Role.{role_of}
use Rattle.domain_registers.specs.Read.{register_value, claimed_by}
use Rattle.domain_registers.specs.Write.{register_written}
use Rattle.wired_state.specs.Wires.{Wired, domain_in, with_domain}
use Rattle.wired_sourcecfg.specs.Delegation.{source_written}

-- ---- one register of a domain

abbrev pub read_in : Wired → Bool → Word → ℕ
read_in w c r = register_value (domain_in w c) w.wires r

abbrev pub claimed_in : Wired → Bool → Word → Wired
claimed_in w c r = with_domain w c (claimed_by (domain_in w c) r)

abbrev pub part_written : Wired → Bool → Word → ℕ → Wired
part_written w c r v = with_domain w c (register_written c (domain_in w c) w.wires r v)

-- ---- a write to any register

unfoldable pub written_as : Wired → Bool → Word → ℕ → Role → Wired
written_as w c r v (Claims h) = part_written w c r v
written_as w c r v (Configures i) = source_written w c i v
written_as w c r v Generates = part_written w c r v
written_as w c r v Plain = part_written w c r v

unfoldable pub written_in : Wired → Bool → Word → ℕ → Wired
written_in w c r v = written_as w c r v (role_of r)
