-- `wired_state::state::wires` meets its contract: the first two words. Assumes nothing.
use Rattle.wired_state.proofs.WiresLaws.{wires-read}
use Rattle.wired_state.proofs.state.wires.Goals as goal

pub returns : goal.returns
returns c = wires-read c.args.w.now c.told-w
