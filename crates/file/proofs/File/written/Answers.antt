-- `file::File::written` meets its contract: a delivery that is legal fits its word. Assumes nothing.
use mathlib.Core.Path.{sym, ◌∙◌}
use borrow.Author.Rules.{rules}
use Rattle.file_select.proofs.DeliveriesLaws.{legal-lt}
use Rattle.file.proofs.File.written.Goals as goal

pub overflow_cast-self : goal.overflow_cast-self
overflow_cast-self c =
    let fits = legal-lt c.args.guest c.args.value (sym c.delivery_legal.ensures ∙ c.if-delivery_legal.true) in
    search rules
