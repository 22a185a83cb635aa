-- What the loop of this function keeps. Assumes nothing.
use Rattle.domain.specs.Domain.{domain_of}
use Rattle.domain_writes.specs.Writes.{word_changed}
use Rattle.domain_writes.proofs.WritesLaws.{Naming}
use Rattle.domain_writes.proofs.change.change_word.Given as goal

abbrev pub invariant-loop-i : goal.invariant-loop-i
invariant-loop-i l =
    Naming l.value l.wires l.change (word_changed (domain_of l.initial.part) l.wires l.change l.k l.value)
    (domain_of l.part) l.i-iterator
