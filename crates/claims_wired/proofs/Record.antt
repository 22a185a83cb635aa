-- Claim-179: each function has its theorem, and the definition that its contract names is the three numbers.
-- Assumes nothing.
use Prim.Native.Nat.{ℕ}
use mathlib.Core.Path.{◌≡◌, ap, ◌∙◌}
use base.Logic.{id⊢, emp}
use contract.Monad.{fact_mono}
use Rattle.domain_delivery.specs.declared.Delivery.{Delivery}
use Rattle.domain_delivery.proofs.DeliveryLaws.{switch-new, switch_kept}
use Rattle.domain_delivery.proofs.DeliveryLaws.{idelivery-written, iforce-written, ithreshold-written}
use Rattle.domain_record.proofs.set_idelivery.Met as set-idelivery-code
use Rattle.domain_record.proofs.set_iforce.Met as set-iforce-code
use Rattle.domain_record.proofs.set_ithreshold.Met as set-ithreshold-code
use Rattle.claims_wired.specs.Record.{Claim-179}

-- a record with one of its first two numbers replaced
abbrev with_first : Delivery → ℕ → Delivery
with_first d x = record { idelivery = x; iforce = d.iforce; ithreshold = d.ithreshold }

abbrev with_second : Delivery → ℕ → Delivery
with_second d x = record { idelivery = d.idelivery; iforce = x; ithreshold = d.ithreshold }

pub claim-179 : Claim-179
unfolding Claim-179
claim-179 M = (
  (set-idelivery-code.met, set-iforce-code.met, set-ithreshold-code.met),
  λ 𝓤 𝓛 m f l r r' v.
      let d = r.now in
      let nothing = id⊢ 𝓤 (emp 𝓤) in (
        (
          nothing,
          fact_mono 𝓤 _ _ (λ e. (
            λ h. e ∙ idelivery-written d v ∙ ap (with_first d) (switch-new d.idelivery v h),
            λ h. e ∙ idelivery-written d v ∙ ap (with_first d) (switch_kept d.idelivery v h),
          )),
        ),
        (
          nothing,
          fact_mono 𝓤 _ _ (λ e. (
            λ h. e ∙ iforce-written d v ∙ ap (with_second d) (switch-new d.iforce v h),
            λ h. e ∙ iforce-written d v ∙ ap (with_second d) (switch_kept d.iforce v h),
          )),
        ),
        (nothing, fact_mono 𝓤 _ _ (λ e. e ∙ ithreshold-written d v)),
      ),
)
