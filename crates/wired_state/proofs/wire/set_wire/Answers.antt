-- `wired_state::wire::set_wire` meets its contract: the wire, then both domains. Assumes nothing.
use mathlib.Core.Path.{refl}
use Rattle.wired_state.specs.Wires.{domain_in, with_domain, wire_set}
use Rattle.wired_state.proofs.wire.set_wire.Goals as goal

pub returns : goal.returns
unfolding domain_in with_domain wire_set
returns c =
    rw (
      c.wire_source-2.ensures,
      c.wire_source.ensures,
      c.put_wire.ensures,
      c.wire_at-was.ensures,
      c.wires.ensures,
    ) refl
