-- `board_wired_calls::calls::check_domain` meets its contract. Assumes nothing.
use mathlib.Core.Path.{sym}
use Rattle.board_wired_calls.proofs.calls.check_domain.Goals as goal

pub returns : goal.returns
returns c b = rw (sym c.address_legal.ensures) (c.check_numbers.ensures b)
