-- `file_select::halves::doubleword` meets its contract: past the last word there is nothing. Assumes nothing.
use mathlib.Core.Path.{sym}
use native.Mathlib.Omega.{arith}
use Rattle.file_select.proofs.HalvesLaws.{doubleword-past}
use Rattle.file_select.proofs.halves.doubleword.Goals as goal

pub returns-then-j-gt3 : goal.returns-then-j-gt3
returns-then-j-gt3 c = sym (doubleword-past c.args.ws c.args.j (omega arith))
