-- `record_call::names::is` meets its contract. Assumes nothing.
use Rattle.record_call.proofs.TableLaws.{same-found}
use Rattle.record_call.proofs.names.is.Goals as goal

pub returns : goal.returns
returns c = same-found _ _ _ c.same.ensures
