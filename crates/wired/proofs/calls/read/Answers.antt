-- `wired::calls::read` meets its contract: nothing is to be sent after it. Assumes nothing.
use mathlib.Core.Path.{sym, ap, ◌∙◌}
use Rattle.wired_state.specs.Wires.{wired_of}
use Rattle.wired_rules_laws.proofs.DomaincfgEffects.{domaincfg-low}
use Rattle.wired_rules_laws.proofs.WiredEffects.{steady-domain_in}
use Rattle.wired.specs.Controller.{Out}
use Rattle.wired.proofs.CallLaws.{words-steady, words-quiet, read-silent}
use Rattle.wired.proofs.calls.read.Goals as goal

pub read-requires : goal.read-requires
read-requires c =
    let l = c.args.w.now in
    let steady = words-steady l c.told-w c.requires.1 in
    (domaincfg-low (steady-domain_in (wired_of l) steady c.args.child), c.requires.0)

pub returns : goal.returns
returns c =
    let l = c.args.w.now in
    let long = c.told-w in
    let sound = c.requires.1 in
    let silent = read-silent (wired_of l) (words-steady l long sound) (words-quiet l long sound)
    c.args.child c.args.word in
    (c.read.ensures.0, c.read.ensures.1 ∙ sym (ap (λ (o : Out). o.wired) silent))
