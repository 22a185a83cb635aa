-- `record_numbers::text::places` meets its contract: the places that are counted and those of what is left
-- are all. Assumes nothing.
use Rattle.record_numbers.proofs.PuttingLaws.{counted-more, counted-end}
use Rattle.record_numbers.proofs.text.places.Goals as goal

pub loop-rest-preserved : goal.loop-rest-preserved
loop-rest-preserved c = counted-more c.loop-rest.invariant c.loop-rest-test.true

pub returns : goal.returns
returns c = counted-end c.loop-rest.invariant c.loop-rest-test.false
