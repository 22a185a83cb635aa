-- `domain_domaincfg::redeliver` meets its contract: the sources from i on are still to be changed. Assumes
-- nothing.
use Prim.Native.Nat.{◌-◌, ◌+◌}
use mathlib.Core.Path.{refl, sym, ap, ◌∙◌}
use native.Mathlib.Omega.{arith}
use Rattle.domain.specs.Domain.{Domain, by_messages}
use Rattle.domain_domaincfg.specs.Domaincfg.{redelivered_from}
use Rattle.domain_domaincfg.proofs.DomaincfgLaws.{redelivered-messages, redelivered-next}
use Rattle.domain_domaincfg.proofs.DomaincfgLaws.{redelivered-end}
use Rattle.domain_domaincfg.proofs.redeliver.Goals as goal

pub loop-i-init : goal.loop-i-init
loop-i-init c = (c.by_messages-messages.ensures, refl)

pub redeliver_source-requires : goal.redeliver_source-requires
redeliver_source-requires c = (omega arith, c.loop-i.invariant.0)

pub loop-i-preserved : goal.loop-i-preserved
loop-i-preserved c =
    let at-loop = c.loop-i in
    let wires = c.args.wires in (
      at-loop.invariant.0 ∙ sym (redelivered-messages _ wires at-loop.i at-loop.auto.i)
          ∙ ap by_messages (sym c.redeliver_source.ensures),
      at-loop.invariant.1 ∙ redelivered-next _ wires at-loop.i 64 (omega arith)
          ∙ ap (λ (d : Domain). redelivered_from d wires (at-loop.i + 1) (64 - (at-loop.i + 1)))
          (sym c.redeliver_source.ensures),
    )

pub returns : goal.returns
returns c =
    sym (c.loop-i.invariant.1
    ∙ redelivered-end _ c.args.wires c.loop-i.i 64 (omega arith))
