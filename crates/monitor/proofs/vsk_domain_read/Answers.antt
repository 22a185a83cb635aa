-- `monitor::vsk_domain_read` meets its contract: its numbers are those of the call below it. Assumes nothing.
use Rattle.monitor_answer.proofs.ToldLaws.{told_of}
use Rattle.monitor.proofs.vsk_domain_read.Goals as goal

pub returns : goal.returns
returns c s =
    told_of c.numbers.ensures (c.domain_read.ensures s)
