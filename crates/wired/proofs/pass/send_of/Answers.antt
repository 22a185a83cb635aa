-- `wired::pass::send_of` meets its contract: a domain's words go back where they were. Assumes nothing.
use mathlib.Core.Path.{ap, ◌∙◌}
use borrow.Author.Rules.{rules}
use native.Mathlib.Omega.{arith}
use lib.ListN.{length}
use Rattle.std.proofs.lemmas.Grind.{common_steps}
use Rattle.domain.specs.Domain.{Domain}
use Rattle.domain_sending.specs.Sending.{sent, logged}
use Rattle.wired_state.proofs.WiresLaws.{part-back, part-lent}
use Rattle.wired.proofs.pass.send_of.Goals as goal

pub returns : goal.returns
returns c =
    let args = c.args in
    let cut = c.split_at_mut-words.ensures in
    let lent = part-lent args.w.now args.child c.place_of.ensures cut.back c.unwrap.result.now
    (grind (arith, common_steps)) in (
      part-back args.w.now args.child c.place_of.ensures cut.back c.told-w _ _ cut.front (search rules)
          (c.send.ensures.0 ∙ ap (λ (d : Domain). (sent args.child d).domain) lent),
      c.send.ensures.1 ∙ ap (λ (d : Domain). logged args.log.now (sent args.child d).messages) lent,
      c.send.ensures.2 ∙ ap (λ (d : Domain). length (sent args.child d).messages) lent,
    )
