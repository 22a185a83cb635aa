-- `wired::pass::flush` meets its contract: the machine domain sends, or else the child. Assumes nothing.
use mathlib.Core.Path.{refl, ap, ◌∙◌}
use mathlib.Core.Bool.{true, false}
use Rattle.domain_sending.specs.Sending.{sent}
use Rattle.wired_state.specs.Wires.{Wired, wired_of, domain_in}
use Rattle.wired_state.proofs.WiresLaws.{domain-machine, domain-child, with-machine, with-child}
use Rattle.wired.proofs.ControllerLaws.{answers_of, answered-first, answered-second}
use Rattle.wired.proofs.pass.flush.Goals as goal

pub returns-then-n-ne0 : goal.returns-then-n-ne0
returns-then-n-ne0 c =
    let w = wired_of c.args.w.now in
    let log = c.args.log.now in
    let (put, logs, count) = c.send_of-n.ensures in
    let answers = answered-first w _ log _ _
    (answers_of false log (domain-machine w false refl) (refl, logs, count)) c.requires c.if-n-ne0.true in
    (put ∙ with-machine w false _ refl ∙ answers.0, answers.1, answers.2)

pub returns : goal.returns
returns c =
    let w = wired_of c.args.w.now in
    let log = c.args.log.now in
    let (first, logs, count) = c.send_of-n.ensures in
    let put = first ∙ with-machine w false _ refl in
    let v = wired_of c.send_of-n.new.w in
    let (second, logs-2, count-2) = c.send_of.ensures in
    let e = (sent true (domain_in v true)).domain in
    let answers = answered-second w _ _ log _ _ _ _
    (answers_of false log (domain-machine w false refl) (refl, logs, count)) c.if-n-ne0.false
    (answers_of true c.send_of-n.new.log (domain-child v true refl ∙ ap (λ (x : Wired). x.child) put)
    (refl, logs-2, count-2)) in (
      second ∙ with-child v true _ refl
          ∙ ap (λ (x : Wired). record { wires = x.wires; machine = x.machine; child = e }) put
          ∙ answers.0,
      answers.1,
      answers.2,
    )
