-- Claims 113 and 114: no contract has a premise, and each function has its theorem. Assumes nothing.
use Rattle.monitor.proofs.vsk_reset.Met as vsk-reset-code
use Rattle.monitor.proofs.vsk_wire.Met as vsk-wire-code
use Rattle.monitor.proofs.vsk_domain_read.Met as vsk-domain-read-code
use Rattle.monitor.proofs.vsk_domain_write.Met as vsk-domain-write-code
use Rattle.monitor.proofs.vsk_page_read.Met as vsk-page-read-code
use Rattle.monitor.proofs.vsk_page_write.Met as vsk-page-write-code
use Rattle.monitor.proofs.vsk_register.Met as vsk-register-code
use Rattle.monitor.proofs.vsk_top.Met as vsk-top-code
use Rattle.monitor.proofs.vsk_claim.Met as vsk-claim-code
use Rattle.monitor.proofs.vsk_signals.Met as vsk-signals-code
use Rattle.monitor.proofs.vsk_move.Met as vsk-move-code
use Rattle.board.proofs.apply.Met as apply_code
use Rattle.claims_calls.specs.Asked.{Claim-113, Claim-114}

pub claim-113 : Claim-113
unfolding Claim-113
claim-113 b g = (
  (λ l. (
    tt,
    tt,
    (λ i level. (tt, tt)),
    (λ d a. (tt, tt)),
    (λ d a v. (tt, tt)),
    (λ h f a. (tt, tt)),
    (λ h f a v. (tt, tt)),
    (λ h f k s v. (tt, tt)),
    (λ h f. (tt, tt)),
    (λ h f. (tt, tt)),
    (λ h. (tt, tt)),
  )),
  (λ l s c. tt),
)

pub claim-114 : Claim-114
unfolding Claim-114
claim-114 M = (
  vsk-reset-code.met,
  vsk-wire-code.met,
  vsk-domain-read-code.met,
  vsk-domain-write-code.met,
  vsk-page-read-code.met,
  vsk-page-write-code.met,
  vsk-register-code.met,
  vsk-top-code.met,
  vsk-claim-code.met,
  vsk-signals-code.met,
  vsk-move-code.met,
  apply_code.met,
)
