-- What the loop of this function keeps. Assumes nothing.
use Rattle.domain.specs.Domain.{domain_of}
use Rattle.domain_topi.proofs.StandingLaws.{Left}
use Rattle.domain_topi.proofs.top_source.Given as goal

abbrev pub invariant-loop-i : goal.invariant-loop-i
invariant-loop-i l = Left (domain_of l.part) l.h l.i-iterator l.best
