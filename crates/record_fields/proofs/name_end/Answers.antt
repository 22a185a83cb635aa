-- `record_fields::name_end` meets its contract. Assumes nothing.
use mathlib.Core.Path.{ap, ◌∙◌}
use Prim.Native.Nat.{ℕ}
use lib.ListN.{take}
use Rattle.record_fields.proofs.FieldsLaws.{name-first}
use Rattle.record_fields.proofs.name_end.Goals as goal

pub returns-clause-line_value : goal.returns-clause-line_value
returns-clause-line_value c =
    ap (λ (n : ℕ). take n c.args.line.now) c.find.ensures.place ∙ name-first c.args.line.now
