-- What the loop of this function keeps. Assumes nothing.
use Rattle.domain.specs.Domain.{domain_of}
use Rattle.domain_sending.proofs.PassLaws.{Going}
use Rattle.domain_sending.proofs.sources.pass.Given as goal

abbrev pub invariant-loop-i : goal.invariant-loop-i
invariant-loop-i l =
    Going l.child (domain_of l.initial.part) l.initial.log (domain_of l.part) l.log l.i-iterator l.n
