-- Claims 50 to 54, from the laws of sending. Assumes nothing.
use mathlib.Core.Path.{ap}
use native.Mathlib.Omega.{arith}
use Rattle.file_message.specs.Message.{log_word, file_in}
use Rattle.domain_genmsi.specs.Genmsi.{genmsi_message}
use Rattle.domain_sending.specs.Sending.{Sent}
use Rattle.domain_sending.proofs.SendingLaws.{sent-off}
use Rattle.domain_genmsi.proofs.GenmsiLaws.{genmsi-on, genmsi-off}
use Rattle.domain_sending_laws.proofs.SendingEffects.{sent-count, sent-rest, sent-quiet, sent-pending}
use Rattle.domain_sending_laws.proofs.SendingEffects.{sent-messages}
use Rattle.domain_sending_laws.proofs.MessageEffects.{sent-named}
use Rattle.claims_domain.specs.Sending.{Claim-50, Claim-51, Claim-52, Claim-53, Claim-54}

pub claim-50 : Claim-50
unfolding Claim-50
claim-50 c d = (
  (λ on. sent-messages c d on),
  (λ off.
      (ap (λ (r : Sent). r.messages) (sent-off c d off), ap (λ (r : Sent). r.domain) (sent-off c d off))),
)

pub claim-51 : Claim-51
unfolding Claim-51
claim-51 c d on i l h = sent-quiet c d on i l h

pub claim-52 : Claim-52
unfolding Claim-52 file_in
claim-52 c d = (
  sent-count c d,
  λ k l. let x = sent-named c d k l in (x.machine, λ t. (x.child t, omega (arith, x.exists))),
)

pub claim-53 : Claim-53
unfolding Claim-53
claim-53 c d = let x = sent-rest c d in
    (x.source, x.target, x.enable, x.delivery, λ on i l h. sent-pending c d on i l (omega arith))

pub claim-54 : Claim-54
unfolding Claim-54 genmsi_message log_word
claim-54 c d v = (genmsi-on c d v, genmsi-off c d v)
