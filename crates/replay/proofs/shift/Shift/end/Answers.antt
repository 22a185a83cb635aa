-- `replay::shift::Shift::end` meets its contract. Assumes nothing.
use mathlib.Core.Path.{◌≡◌, ◌∙◌}
use mathlib.Core.Logic.{◌≢◌}
use native.Mathlib.Omega.{arith}
use borrow.Author.Rules.{rules}
use lib.ListN.{length}
use Rattle.record_runs.proofs.RunLaws.{last_none, last_some}
use Rattle.record_runs.proofs.RunLaws.{answered_none, answered_some, counted_none, counted_some}
use Rattle.replay.proofs.shift.Shift.end.Goals as goal

pub returns-then-is_empty-clause-lent : goal.returns-then-is_empty-clause-lent
returns-then-is_empty-clause-lent c =
    let none : length c.self.inside.line ≡ 0 = search rules in
    rw (← c.self.view_is) (last_none c.self.inside.line _ none)

pub returns-then-is_empty-clause-answered : goal.returns-then-is_empty-clause-answered
returns-then-is_empty-clause-answered c =
    let none : length c.self.inside.line ≡ 0 = search rules in
    rw (← c.self.view_is) (answered_none c.self.inside.line _ _ none)

pub returns-then-is_empty-clause-number : goal.returns-then-is_empty-clause-number
returns-then-is_empty-clause-number c =
    let none : length c.self.inside.line ≡ 0 = search rules in
    rw (← c.self.view_is) (omega (arith, counted_none c.self.inside.line none))

pub returns-clause-lent : goal.returns-clause-lent
returns-clause-lent c =
    let some : length c.self.inside.line ≢ 0 = search rules in
    rw (← c.self.view_is)
    ((rw c.bytes-2.ensures.bytes at c.end_line.ensures.saved_after)
    ∙ last_some c.self.inside.line _ some)

pub returns-clause-answered : goal.returns-clause-answered
returns-clause-answered c =
    let some : length c.self.inside.line ≢ 0 = search rules in
    rw (← c.self.view_is)
    ((rw c.bytes-2.ensures.bytes at c.end_line.ensures.out_after)
    ∙ answered_some c.self.inside.line _ _ some)

pub returns-clause-number : goal.returns-clause-number
returns-clause-number c =
    let some : length c.self.inside.line ≢ 0 = search rules in
    rw (← c.self.view_is) (omega (arith, counted_some c.self.inside.line some))
