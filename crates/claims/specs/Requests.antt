-- The requests of paper 02, each a conjunction of the claims that answer it, as a demand is in Demands.antt:
-- Request-N for M-N. A claim is in a demand, in a request, or in both; one whose mark names a sentence of a
-- request is in that request. A request is stated here when it is answered.
-- Premises: none here; each claim has its own, which the header of its file names. No axioms.
use Rattle.claims_registers.specs.Registers.{Claim-132, Claim-203}
use Rattle.claims_board.specs.Accepted.{Claim-174}
use Rattle.claims_board.specs.Inputs.{Claim-204, Claim-205}
use Rattle.claims_calls.specs.BoardCalls.{Claim-84}
use Rattle.claims_cases.specs.Inputs.{Claim-206}
use Rattle.claims_record.specs.Written.{Claim-192, Claim-193, Claim-194}
use Rattle.claims_record.specs.Lines.{Claim-195, Claim-196}
use Rattle.claims_record.specs.Replay.{Claim-197, Claim-198, Claim-199, Claim-200, Claim-201}
use Rattle.claims_record.specs.Examples.{Claim-202}

-- M-100: a recorded shift is read by a written grammar and run from reset; its last state is that of the
-- plain calls in order, and each of its lines is answered by one
unfoldable pub Request-100 : Type 0
Request-100 =
    -- the grammar: bytes, lines, calls, both ways, and lines at its edges
    Claim-195 × Claim-192 × Claim-193 × Claim-202
    -- what the lines leave, whatever the pieces are that they come in
    × Claim-197 × Claim-196
    -- what is printed
    × Claim-198 × Claim-194
    -- no refusal but for the numbers of a call
    × Claim-199
    -- and that the code reads and runs so
    × Claim-200 × Claim-201

-- M-101: a bit of in_clrip is the rectified value, 0 for an inactive or detached source; no refusal and no
-- order of tests is another than before
unfoldable pub Request-101 : Type 0
Request-101 =
    -- the bit in plain numbers, by the mode: of the register, and by calls in either domain
    Claim-132 × Claim-174 × Claim-204
    -- what this buys: of a level source with direct delivery it is the pending bit
    × Claim-203
    -- the edges of the reading, from reset
    × Claim-206
    -- the refusals: those of every call as before, and those of this read
    × Claim-84 × Claim-205
