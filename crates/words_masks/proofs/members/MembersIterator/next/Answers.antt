-- `words_masks::members::MembersIterator::next` meets its contract: the lowest of the bits that are left.
-- Assumes nothing.
use mathlib.Core.Path.{sym, ap, ◌∙◌}
use native.Mathlib.Omega.{arith}
use lib.ListN.{length}
use Rattle.words_masks.proofs.MembersLaws.{left-end, left-next, left-within}
use Rattle.words_masks.proofs.members.MembersIterator.next.Goals as goal

pub returns-then-self-eq0-clause-steps : goal.returns-then-self-eq0-clause-steps
returns-then-self-eq0-clause-steps c =
    let s = c.self in
    let end = left-end s.inside.rest s.inside.at s.invariant.1 s.invariant.0 c.if-self-eq0.true in
    let none = sym s.view_is ∙ end in
    (none, none)

pub invariant_of-self : goal.invariant_of-self
invariant_of-self c =
    left-within c.self.inside.rest c.self.inside.at c.self.invariant.1 c.if-self-eq0.false

pub returns-clause-steps : goal.returns-clause-steps
returns-clause-steps c =
    sym c.self.view_is ∙ left-next c.self.inside.rest c.self.inside.at c.self.invariant.1 c.if-self-eq0.false

pub returns-clause-goes : goal.returns-clause-goes
returns-clause-goes c =
    record {
      on = λ f. (_, tt, omega (arith, ap length (returns-clause-steps c)));
      keeps = _;
      rests = λ f. _;
    }
