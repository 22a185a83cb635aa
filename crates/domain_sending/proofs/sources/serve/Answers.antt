-- `domain_sending::sources::serve` meets its contract: a candidate's message is logged and its pending bit
-- cleared.
-- Assumes nothing.
use mathlib.Core.Path.{sym, ◌∙◌}
use Rattle.domain.specs.Domain.{domain_of}
use Rattle.domain_sending.proofs.PassLaws.{turn-hit}
use Rattle.domain_sending.proofs.sources.serve.Goals as goal

pub returns : goal.returns
returns c =
    let args = c.args in
    turn-hit args.child (domain_of args.part.now) args.log.now args.i args.n _
    c.load-s.ensures (sym c.candidate.ensures ∙ c.if-not-candidate.false)
    (domain_of c.put_pending.new.part) _ c.put_pending.ensures c.message.ensures
