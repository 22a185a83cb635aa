-- The proofs of the requests: each cites its claims. Assumes nothing.
use Rattle.claims_registers.proofs.Registers.{claim-132, claim-203}
use Rattle.claims_board.proofs.Accepted.{claim-174}
use Rattle.claims_board.proofs.Inputs.{claim-204, claim-205}
use Rattle.claims_calls.proofs.BoardCalls.{claim-84}
use Rattle.claims_cases.proofs.Inputs.{claim-206}
use Rattle.claims_record.proofs.Written.{claim-192, claim-193}
use Rattle.claims_record.proofs.Decimals.{claim-194}
use Rattle.claims_record.proofs.Lines.{claim-195}
use Rattle.claims_record.proofs.Pieces.{claim-196}
use Rattle.claims_record.proofs.Replay.{claim-197, claim-198, claim-200, claim-201}
use Rattle.claims_record.proofs.Refusals.{claim-199}
use Rattle.claims_record.proofs.Examples.{claim-202}
use Rattle.claims.specs.Requests.{Request-100, Request-101}

pub request-100 : Request-100
unfolding Request-100
request-100 = (
  claim-195,
  claim-192,
  claim-193,
  claim-202,
  claim-197,
  claim-196,
  claim-198,
  claim-194,
  claim-199,
  claim-200,
  claim-201,
)

pub request-101 : Request-101
unfolding Request-101
request-101 = (claim-132, claim-174, claim-204, claim-203, claim-206, claim-84, claim-205)
