-- `file::File::top_identity` meets its contract: if the threshold shuts out the lowest identity that is
-- pending and enabled, it shuts out all. Assumes nothing.
use mathlib.Core.Path.{sym, ap, ◌∙◌}
use native.Mathlib.Omega.{arith}
use Rattle.file.specs.Top.{passes}
use Rattle.file.proofs.TopLaws.{top_identity-shared, top_identity-shut, top_identity-le}
use Rattle.file.proofs.File.top_identity.Goals as goal

pub returns-then-passes-clause-value : goal.returns-then-passes-clause-value
returns-then-passes-clause-value c =
    let found = c.lowest_shared-i.ensures in
    let lets = ap (passes _) (sym found) ∙ sym c.passes.ensures ∙ c.if-passes.true in
    found ∙ sym (top_identity-shared _ lets)

pub returns-else-passes-clause-value : goal.returns-else-passes-clause-value
returns-else-passes-clause-value c =
    let found = c.lowest_shared-i.ensures in
    let shut = ap (passes _) (sym found) ∙ sym c.passes.ensures ∙ c.if-passes.false in
    sym (top_identity-shut _ shut)

pub returns-then-passes-clause-low : goal.returns-then-passes-clause-low
returns-then-passes-clause-low c =
    omega (arith, returns-then-passes-clause-value c, top_identity-le 255 c.args.self)
