-- `domain_genmsi::send_genmsi` meets its contract: nothing in direct mode, else one message. Assumes
-- nothing.
use mathlib.Core.Path.{sym, ◌∙◌}
use Rattle.domain.specs.Domain.{domain_of}
use Rattle.domain_genmsi.proofs.GenmsiLaws.{answered-on, answered-off}
use borrow.Author.Rules.{rules}
use Rattle.domain_genmsi.proofs.send_genmsi.Goals as goal

pub returns-then-not-by_messages : goal.returns-then-not-by_messages
returns-then-not-by_messages c =
    let args = c.args in
    answered-off args.child (domain_of args.part.now) args.value
    (sym c.by_messages.ensures ∙ c.if-not-by_messages.true) args.log.now

pub returns : goal.returns
returns c =
    let args = c.args in
    answered-on args.child (domain_of args.part.now) args.value
    (sym c.by_messages.ensures ∙ c.if-not-by_messages.false) args.log.now
    (search rules) c.genmsi_message.result c.genmsi_message.ensures
