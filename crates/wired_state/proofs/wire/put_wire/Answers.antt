-- `wired_state::wire::put_wire` meets its contract: a word of the wires. Assumes nothing.
use Rattle.wired_state.proofs.WiresLaws.{wire-put}
use Rattle.wired_state.proofs.wire.put_wire.Goals as goal

pub returns : goal.returns
returns c = wire-put c.args.w.now c.args.i _ c.args.level c.requires c.put_bit.ensures
