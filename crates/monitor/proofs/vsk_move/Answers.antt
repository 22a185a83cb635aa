-- `monitor::vsk_move` meets its contract: its numbers are those of the call below it. Assumes nothing.
use Rattle.monitor_answer.proofs.ToldLaws.{told_of}
use Rattle.monitor.proofs.vsk_move.Goals as goal

pub returns : goal.returns
returns c = told_of c.numbers.ensures c.make_access.ensures
