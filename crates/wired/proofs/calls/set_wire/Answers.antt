-- `wired::calls::set_wire` meets its contract: a wire, and the pass after it. Assumes nothing.
use mathlib.Core.Path.{sym, ap, subst}
use Rattle.wired_state.specs.Wires.{wired_of}
use Rattle.wired.specs.Controller.{flushed, wire_call, OneSends}
use Rattle.wired.proofs.ControllerLaws.{leaves_of}
use Rattle.wired.proofs.CallLaws.{words-steady, words-quiet, one-wire_set}
use Rattle.wired.proofs.calls.set_wire.Goals as goal

pub flush-requires : goal.flush-requires
flush-requires c =
    let l = c.args.w.now in
    let long = c.told-w in
    let sound = c.requires.2 in
    subst OneSends (sym c.set_wire.ensures)
    (one-wire_set (wired_of l) (words-steady l long sound) (words-quiet l long sound) c.args.i
    c.requires.0 c.requires.1 c.args.level)

pub returns : goal.returns
unfolding wire_call
returns c =
    leaves_of (ap flushed c.set_wire.ensures) _ _ _ _ c.flush.ensures
