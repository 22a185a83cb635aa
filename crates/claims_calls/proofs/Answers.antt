-- The proof of Claim-177. Assumes nothing.
use mathlib.Core.Path.{refl}
use Rattle.claims_calls.specs.Answers.{Claim-177}

pub claim-177 : Claim-177
unfolding Claim-177
claim-177 = (
  (λ v n. (refl, refl, refl)),
  (refl, refl, refl),
  (refl, refl, refl),
  (refl, refl, refl),
  (refl, refl, refl),
  (refl, refl, refl),
  (refl, refl, refl),
  (λ o r l g s e. (e.number, e.value, e.count, e.block, e.log, e.saved)),
  (λ o r l g s e. (e.refusal, e.value, e.count, e.block, e.log, e.saved)),
  (λ c l g l' g' s r e. let x = e s in (x.number, x.value, x.count, x.block, x.log, x.saved)),
  (λ c l g l' g' s r e. let x = e s in (x.refusal, x.value, x.count, x.block, x.log, x.saved)),
)
