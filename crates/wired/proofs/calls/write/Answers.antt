-- `wired::calls::write` meets its contract: what genmsi sends at once is all, and else the pass sends.
-- Assumes nothing.
use mathlib.Core.Path.{sym, ap, subst}
use Rattle.wired_state.specs.Wires.{wired_of}
use Rattle.wired.specs.Controller.{flushed, OneSends}
use Rattle.wired.proofs.ControllerLaws.{leaves_of, write_alone, write-passed, own-genmsi}
use Rattle.wired.proofs.CallLaws.{words-steady, words-quiet, one-written_in, genmsi-silent}
use Rattle.wired.proofs.calls.write.Goals as goal

pub returns-then-n-ne0 : goal.returns-then-n-ne0
returns-then-n-ne0 c =
    let l = c.args.w.now in
    let long = c.told-w in
    let sound = c.requires.1 in
    let genmsi = own-genmsi (wired_of l) c.args.child c.args.word c.args.value _
    c.generate-n.ensures.1 c.if-n-ne0.true in
    write_alone (wired_of l) c.args.child c.args.word c.args.value _
    c.write.ensures
    (genmsi-silent (wired_of l) (words-steady l long sound) (words-quiet l long sound) c.args.child
    c.args.word genmsi c.args.value)
    c.args.log.now _ _ c.generate-n.ensures

pub flush-requires : goal.flush-requires
flush-requires c =
    let l = c.args.w.now in
    let long = c.told-w in
    let sound = c.requires.1 in
    subst OneSends (sym c.write.ensures)
    (one-written_in (wired_of l) (words-steady l long sound) (words-quiet l long sound)
    c.args.child c.args.word c.requires.0 c.args.value)

pub returns : goal.returns
returns c =
    let args = c.args in
    write-passed (wired_of args.w.now) args.child args.word args.value _
    c.args.log.now _ _ _ _ c.generate-n.ensures c.if-n-ne0.false
    (leaves_of (ap flushed c.write.ensures) _ _ _ _ c.flush.ensures)
