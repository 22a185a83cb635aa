-- `wired::calls::generate` meets its contract: a genmsi of the domain, or no message. Assumes nothing.
use mathlib.Core.Path.{refl, sym, ◌∙◌}
use Rattle.wired.proofs.ControllerLaws.{answered-else, answered-genmsi}
use Rattle.wired.proofs.calls.generate.Goals as goal

pub returns-in_default : goal.returns-in_default
returns-in_default c =
    answered-else _ _ _ _ (λ e. c.in_default.not-Generates (c.role_of.ensures ∙ e)) c.args.log.now

pub returns-in-Generates : goal.returns-in-Generates
returns-in-Generates c =
    answered-genmsi _ _ _ _ (sym c.role_of.ensures ∙ c.in-Generates.is) _ refl _ c.domain_part.ensures
    c.args.log.now _ _ c.send_genmsi.ensures
