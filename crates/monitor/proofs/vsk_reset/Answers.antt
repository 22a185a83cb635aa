-- `monitor::vsk_reset` meets its contract: its numbers are those of the call below it. Assumes nothing.
use Rattle.monitor_answer.proofs.ToldLaws.{told_of}
use Rattle.monitor.proofs.vsk_reset.Goals as goal

pub returns : goal.returns
returns c s = told_of c.numbers.ensures (c.reset.ensures s)
