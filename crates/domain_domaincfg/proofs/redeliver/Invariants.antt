-- What the loop of this function keeps, and its measure. Assumes nothing.
use Prim.Native.Nat.{◌-◌}
use mathlib.Core.Path.{◌≡◌}
use Rattle.domain.specs.Domain.{domain_of, by_messages}
use Rattle.domain_domaincfg.specs.Domaincfg.{redelivered_from}
use Rattle.domain_domaincfg.proofs.redeliver.Given as goal

abbrev pub invariant-loop-i : goal.invariant-loop-i
invariant-loop-i l = (l.messages ≡ by_messages (domain_of l.part))
    × (redelivered_from (domain_of l.initial.part) l.wires 1 63 ≡ redelivered_from
    (domain_of l.part) l.wires l.i (64 - l.i))
