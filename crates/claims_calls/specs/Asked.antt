-- Claims 113 and 114, on every call of the board and on the functions that C calls: nothing is asked of who
-- calls, and the code meets its contract. 01, "Calls and their refusals", "What the auditor will try".
--   X.Asked l a       what the contract of X asks before a call with the arguments a
--   X.statement M     the code of X meets its contract, with resources M
-- Premises: none. No axioms.
use Rattle.std.specs.Prelude.{ℕ, List}
use contract.Lifetimes.{Lfts}
use Rattle.std.specs.Borrow.{MutBor}
use Rattle.board_call.specs.declared.Call.{Call}
use Rattle.board_hart_calls.proofs.reset.Reads as reset
use Rattle.board_wired_calls.proofs.wire.Reads as wire
use Rattle.board_wired_calls.proofs.domain_read.Reads as domain-read
use Rattle.board_wired_calls.proofs.domain_write.Reads as domain-write
use Rattle.board_file_calls.proofs.page_read.Reads as page-read
use Rattle.board_file_calls.proofs.page_write.Reads as page-write
use Rattle.board_file_calls.proofs.register.Reads as register
use Rattle.board_file_calls.proofs.top.Reads as top
use Rattle.board_file_calls.proofs.claim.Reads as claim
use Rattle.board_hart_calls.proofs.signals.Reads as signals
use Rattle.board.proofs.apply.Reads as apply
use Rattle.monitor.proofs.vsk_reset.Reads as vsk-reset
use Rattle.monitor.proofs.vsk_wire.Reads as vsk-wire
use Rattle.monitor.proofs.vsk_domain_read.Reads as vsk-domain-read
use Rattle.monitor.proofs.vsk_domain_write.Reads as vsk-domain-write
use Rattle.monitor.proofs.vsk_page_read.Reads as vsk-page-read
use Rattle.monitor.proofs.vsk_page_write.Reads as vsk-page-write
use Rattle.monitor.proofs.vsk_register.Reads as vsk-register
use Rattle.monitor.proofs.vsk_top.Reads as vsk-top
use Rattle.monitor.proofs.vsk_claim.Reads as vsk-claim
use Rattle.monitor.proofs.vsk_signals.Reads as vsk-signals
use Rattle.monitor.proofs.vsk_reset.Statement as vsk-reset-code
use Rattle.monitor.proofs.vsk_wire.Statement as vsk-wire-code
use Rattle.monitor.proofs.vsk_domain_read.Statement as vsk-domain-read-code
use Rattle.monitor.proofs.vsk_domain_write.Statement as vsk-domain-write-code
use Rattle.monitor.proofs.vsk_page_read.Statement as vsk-page-read-code
use Rattle.monitor.proofs.vsk_page_write.Statement as vsk-page-write-code
use Rattle.monitor.proofs.vsk_register.Statement as vsk-register-code
use Rattle.monitor.proofs.vsk_top.Statement as vsk-top-code
use Rattle.monitor.proofs.vsk_claim.Statement as vsk-claim-code
use Rattle.monitor.proofs.vsk_signals.Statement as vsk-signals-code
use Rattle.monitor.proofs.vsk_move.Statement as vsk-move-code
use Rattle.board.proofs.apply.Statement as apply_code

-- ---- nothing is asked

-- nothing is asked of a caller, for any numbers, any blocks and any saved numbers: each call, and the
-- function of C that makes it, may be called; of an access of a move Claim-100 says it
unfoldable pub Claim-113 : Type 0
Claim-113 =
    (b g : MutBor (List ℕ))
    → ((l : Lfts 2) → reset.Asked l (b, (g, tt)) × vsk-reset.Asked l (b, (g, tt))
    × ((i level : ℕ) → wire.Asked l (b, (g, (i, (level, tt))))
    × vsk-wire.Asked l (b, (g, (i, (level, tt)))))
    × ((d a : ℕ) → domain-read.Asked l (b, (g, (d, (a, tt))))
    × vsk-domain-read.Asked l (b, (g, (d, (a, tt)))))
    × ((d a v : ℕ) → domain-write.Asked l (b, (g, (d, (a, (v, tt)))))
    × vsk-domain-write.Asked l (b, (g, (d, (a, (v, tt))))))
    × ((h f a : ℕ) → page-read.Asked l (b, (g, (h, (f, (a, tt)))))
    × vsk-page-read.Asked l (b, (g, (h, (f, (a, tt))))))
    × ((h f a v : ℕ) → page-write.Asked l (b, (g, (h, (f, (a, (v, tt))))))
    × vsk-page-write.Asked l (b, (g, (h, (f, (a, (v, tt)))))))
    × ((h f k s v : ℕ) → register.Asked l (b, (g, (h, (f, (k, (s, (v, tt)))))))
    × vsk-register.Asked l (b, (g, (h, (f, (k, (s, (v, tt))))))))
    × ((h f : ℕ) → top.Asked l (b, (g, (h, (f, tt)))) × vsk-top.Asked l (b, (g, (h, (f, tt)))))
    × ((h f : ℕ) → claim.Asked l (b, (g, (h, (f, tt)))) × vsk-claim.Asked l (b, (g, (h, (f, tt)))))
    × ((h : ℕ) → signals.Asked l (b, (g, (h, tt))) × vsk-signals.Asked l (b, (g, (h, tt)))))
    × ((l : Lfts 3) (s : MutBor (List ℕ)) (c : Call) → apply.Asked l (b, (g, (s, (c, tt)))))

-- ---- the code meets its contract

-- each function that C calls, and the function over the enum of calls: its code does what its contract
-- says, which is the outcome of its call: claims 93, 100 and 90
-- [01 B16 X4]
unfoldable pub Claim-114 : Type 2
Claim-114 =
    (M : Type 1)
    → vsk-reset-code.statement M
    × vsk-wire-code.statement M
    × vsk-domain-read-code.statement M
    × vsk-domain-write-code.statement M
    × vsk-page-read-code.statement M
    × vsk-page-write-code.statement M
    × vsk-register-code.statement M
    × vsk-top-code.statement M
    × vsk-claim-code.statement M
    × vsk-signals-code.statement M
    × vsk-move-code.statement M
    × apply_code.statement M
