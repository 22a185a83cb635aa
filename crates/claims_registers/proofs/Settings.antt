-- Claims 135, 136 and 142, from the laws of direct delivery, of genmsi and of replaced parts. Assumes
-- nothing.
use Prim.Native.Nat.{ℕ, ◌+◌, ◌*◌, ◌/◌, ◌%◌, ◌^◌, ◌≤◌, ◌<◌}
use mathlib.Core.Path.{◌≡◌, refl, ap, ◌∙◌}
use mathlib.Core.Bool.{false}
use mathlib.Core.List.{List}
use native.Mathlib.Omega.{arith}
use Rattle.words.specs.Parts.{field_of}
use Rattle.words.proofs.TestsLaws.{tested}
use Rattle.source_target.specs.Target.{hart_of, number_of}
use Rattle.source_target.proofs.TargetLaws.{number_of-lt}
use Rattle.domain_delivery.specs.declared.Delivery.{Delivery}
use Rattle.domain_delivery.specs.Delivery.{with_idelivery, with_iforce, with_ithreshold, without_force}
use Rattle.domain_delivery.proofs.DeliveryLaws.{switch-new, switch_kept}
use Rattle.domain.specs.Domain.{Domain, by_messages, genmsi_of}
use Rattle.domain.specs.Structure.{structure_at, with_structure}
use Rattle.domain_laws.specs.Shape.{DomainShaped}
use Rattle.domain_laws.proofs.BecameEffects.{became-with_genmsi}
use Rattle.domain_laws.proofs.StructureEffects.{structure_at-with_structure-same}
use Rattle.domain_laws.proofs.StructureEffects.{structure_at-with_structure-other, source_at-with_structure}
use Rattle.domain_laws.proofs.OwnEffects.{domaincfg_of-with_structure, by_messages-with_structure}
use Rattle.domain_laws.proofs.OwnEffects.{genmsi_of-with_structure, by_messages-with_genmsi}
use Rattle.domain_laws.proofs.OwnEffects.{genmsi_of-with_genmsi}
use Rattle.domain_genmsi.specs.Genmsi.{genmsi_read}
use Rattle.domain_genmsi.proofs.GenmsiLaws.{genmsi-messages, genmsi-direct}
use Rattle.domain_direct.specs.declared.Setting.{Setting}
use Rattle.domain_direct.specs.declared.Setting.TheVariants.{Idelivery, Iforce, Ithreshold}
use Rattle.domain_direct.specs.Direct.{number_at, written_at, setting_written}
use Rattle.domain_direct.proofs.DirectLaws.{setting-messages, setting-direct, written-messages}
use Rattle.domain_direct.proofs.DirectLaws.{written-direct}
use Rattle.domain_direct_laws.proofs.ClaimEffects.{claim-zero}
use Rattle.domain_registers.specs.Read.{register_value}
use Rattle.domain_registers.specs.Write.{register_written}
use Rattle.wired_state.specs.Wires.{domain_in}
use Rattle.claims_registers.specs.Settings.{NumbersAre, Claim-135, Claim-136, Claim-142}
use Rattle.claims_registers.proofs.SourceRules.{genmsi-is}
use Rattle.claims_registers.proofs.Writes.{domain-became}
use Rattle.claims_registers.proofs.Registers.{rules-in}

-- ---- the settable numbers

module _ (d : Domain) (wires : List ℕ) (h : ℕ) (shaped : DomainShaped d) (l : h < 4)
    (direct : by_messages d ≡ false) where
  -- a structure put back is stored and read
  numbers-put : (x : Delivery)
      → NumbersAre d (with_structure d h x) wires h x.idelivery x.iforce x.ithreshold
  unfolding register_value number_at
  numbers-put x =
      let d' = with_structure d h x in
      let same = structure_at-with_structure-same d h x shaped l in
      let mode = by_messages-with_structure d h x ∙ direct in
      record {
        idelivery = (
          ap (λ (y : Delivery). y.idelivery) same,
          setting-direct d' h Idelivery mode ∙ ap (λ (y : Delivery). y.idelivery) same,
        );
        iforce = (
          ap (λ (y : Delivery). y.iforce) same,
          setting-direct d' h Iforce mode ∙ ap (λ (y : Delivery). y.iforce) same,
        );
        ithreshold = (
          ap (λ (y : Delivery). y.ithreshold) same,
          setting-direct d' h Ithreshold mode ∙ ap (λ (y : Delivery). y.ithreshold) same,
        );
        others = structure_at-with_structure-other d h x;
        domaincfg = domaincfg_of-with_structure d h x;
        genmsi = genmsi_of-with_structure d h x;
        sources = source_at-with_structure d h x;
      }

  -- a number that is written is that structure put back
  numbers-written : (g : Setting) (v a b t : ℕ)
      → written_at (structure_at d h) g v ≡ record { idelivery = a; iforce = b; ithreshold = t }
      → NumbersAre d (setting_written d h g v) wires h a b t
  numbers-written g v a b t e =
      rw (written-direct d h g v direct, e)
      (numbers-put (record { idelivery = a; iforce = b; ithreshold = t }))

-- what is written to each of the three
module _ (x : Delivery) (v : ℕ) where
  idelivery-low : v ≤ 1
      → written_at x Idelivery v ≡ record { idelivery = v; iforce = x.iforce; ithreshold = x.ithreshold }
  unfolding written_at with_idelivery
  idelivery-low h = rw (switch-new x.idelivery v (omega arith))

  idelivery-high : 1 < v → written_at x Idelivery v ≡ x
  unfolding written_at with_idelivery
  idelivery-high h = rw (switch_kept x.idelivery v h)

  iforce-low : v ≤ 1
      → written_at x Iforce v ≡ record { idelivery = x.idelivery; iforce = v; ithreshold = x.ithreshold }
  unfolding written_at with_iforce
  iforce-low h = rw (switch-new x.iforce v (omega arith))

  iforce-high : 1 < v → written_at x Iforce v ≡ x
  unfolding written_at with_iforce
  iforce-high h = rw (switch_kept x.iforce v h)

  ithreshold-any : written_at x Ithreshold v
      ≡ record { idelivery = x.idelivery; iforce = x.iforce; ithreshold = v % 256 }
  unfolding written_at with_ithreshold
  ithreshold-any = refl

pub claim-135 : Claim-135
unfolding Claim-135 register_value register_written
claim-135 c d wires h v shaped l = (
  λ direct.
      let x = structure_at d h in
      let written = numbers-written d wires h shaped l direct in (
        λ low. written Idelivery v _ _ _ (idelivery-low x v low),
        λ high. written Idelivery v _ _ _ (idelivery-high x v high),
        λ low. written Iforce v _ _ _ (iforce-low x v low),
        λ high. written Iforce v _ _ _ (iforce-high x v high),
        written Ithreshold v _ _ _ (ithreshold-any x v),
      ),
  λ m. (
    setting-messages d h Idelivery m,
    setting-messages d h Iforce m,
    setting-messages d h Ithreshold m,
    written-messages d h Idelivery v m,
    written-messages d h Iforce v m,
    written-messages d h Ithreshold v m,
  ),
)

pub claim-142 : Claim-142
unfolding Claim-142 without_force
claim-142 d wires h shaped l direct none =
    rw (claim-zero d h direct none)
    (numbers-put d wires h shaped l direct (without_force (structure_at d h)))

-- ---- genmsi

genmsi-plain : (v : ℕ) → hart_of v * 2 ^ 18 + number_of v ≡ v / 2 ^ 18 % 4 * 2 ^ 18 + v % 256
unfolding hart_of number_of field_of
genmsi-plain v = omega arith

-- a hart and an identity leave bit 12 free
idle : (t h n : ℕ) → n < 256 → t ≡ h * 2 ^ 18 + n → t / 2 ^ 12 % 2 ≡ 0
idle t h n l e = let above : t / 2 ^ 12 ≡ h * 64 = omega arith in rw above (omega arith)

pub claim-136 : Claim-136
unfolding Claim-136 register_value register_written genmsi_read
claim-136 = (
  λ c d wires v shaped. (
    λ m.
        let word = genmsi-is v ∙ genmsi-plain v in
        rw (genmsi-messages d v m, word) (
          domain-became (became-with_genmsi d _ shaped),
          rw (by_messages-with_genmsi, m) (genmsi_of-with_genmsi d _ shaped),
        ),
    λ f. (genmsi-direct d v f, rw f),
  ),
  λ w sound c.
      let d = domain_in w c in
      tested (by_messages d) (λ m. rw m (idle (genmsi_of d) _ _ (number_of-lt (genmsi_of d))
      (rules-in w sound c).genmsi)) (λ f. rw f),
)
