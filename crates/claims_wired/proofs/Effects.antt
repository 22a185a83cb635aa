-- Claims 143 and 144, from the definitions. Assumes nothing.
use mathlib.Core.Path.{◌≡◌, refl, sym, ◌∙◌}
use mathlib.Core.Bool.{Bool, true, false, and-false}
use Rattle.words.specs.Parts.{reversed}
use Rattle.words.proofs.TestsLaws.{tested}
use Rattle.source_mode.specs.Mode.{is_active}
use Rattle.source_laws.proofs.ModeEffects.{level-inactive, rectified-inactive}
use Rattle.domain_region.proofs.RoleLaws.{configures-only}
use Rattle.source.specs.declared.Source.{Source}
use Rattle.source.specs.Pending.{settled, wire_changed, pended, cleared, changed}
use Rattle.domain_registers.specs.Write.{register_written}
use Rattle.wired_state.specs.Wires.{domain_in, with_domain}
use Rattle.wired_registers.proofs.WiredLaws.{written-part}
use Rattle.claims_domain.specs.Causes.{Cause, happens}
use Rattle.claims_domain.specs.Causes.Cause.{wire, setip, clrip, claim, sent}
use Rattle.claims_wired.specs.Effects.{Claim-143, Claim-144}

-- ---- which change a write makes

pub claim-143 : Claim-143
unfolding Claim-143 register_written
claim-143 = (
  λ c d wires v. (
    λ k. (refl, refl, refl, refl),
    refl,
    refl,
    refl,
    refl,
    refl,
    unfold reversed in refl,
    refl,
    λ i. refl,
  ),
  λ w r v n.
      let part : (c : Bool) → _ = λ c. written-part w c r v (λ i e. n i (configures-only r i e)) in
      unfold with_domain domain_in in (part false, part true),
)

-- ---- the pending bit alone

-- the mode and the rest, of a source with another pending bit
module _ (s : Source) (m : Bool) where
  rest-kept : (k : Cause) → let after = happens s m k in
      (after.mode ≡ s.mode) × (after.target ≡ s.target) × (after.enabled ≡ s.enabled)
  unfolding happens wire_changed settled pended cleared
  rest-kept (wire was is) = (refl, refl, refl)
  rest-kept (setip level) =
      tested (is_active s.mode) (λ t. rw t (refl, refl, refl)) (λ f. rw f (refl, refl, refl))
  rest-kept clrip = (refl, refl, refl)
  rest-kept claim = (refl, refl, refl)
  rest-kept sent = (refl, refl, refl)

  module _ (off : is_active s.mode ≡ false) (none : s.pending ≡ false) where
    stays : (k : Cause) → (happens s m k).pending ≡ false
    unfolding happens wire_changed settled pended cleared
    stays (wire was is) =
        simp (level-inactive s.mode off, rectified-inactive s.mode is off, none, and-false)
    stays (setip level) = simp off none
    stays clrip = simp (level-inactive s.mode off)
    stays claim = simp (level-inactive s.mode off)
    stays sent = refl

    source_stays : (k : Cause) → happens s m k ≡ s
    source_stays k =
        let rest = rest-kept k in
        λ j. record {
          mode = rest.0 j;
          target = rest.1 j;
          pending = (stays k ∙ sym none) j;
          enabled = rest.2 j;
        }

pub claim-144 : Claim-144
unfolding Claim-144
claim-144 s m = (
  λ k. let rest = rest-kept s m k in (rest.0, rest.1, rest.2, λ off none. source_stays s m off none k),
  λ x. unfold changed happens in (refl, refl),
)
