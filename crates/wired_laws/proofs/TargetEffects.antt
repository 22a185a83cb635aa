-- A write to a target, in a controller that keeps the rules: it changes its own source's target alone, and
-- sends nothing. No contract cites this file. Assumes nothing.
use Prim.Native.Nat.{ℕ, ◌≤◌, ◌<◌}
use mathlib.Core.Path.{◌≡◌, refl, ap, ◌∙◌}
use mathlib.Core.Bool.{Bool, true, false, not}
use mathlib.Core.List.{[]}
use mathlib.Core.Logic.{◌≢◌}
use Rattle.source.specs.Pending.{retargeted}
use Rattle.domain_region.specs.declared.Word.TheVariants.{Target}
use Rattle.domain.specs.Domain.{Domain, by_messages}
use Rattle.domain.specs.Slot.{source_at}
use Rattle.domain_laws.specs.Shape.{DomainShaped}
use Rattle.domain_writes.specs.Writes.{target_written}
use Rattle.domain_writes_laws.proofs.WritesEffects.{source_at-target_written-same}
use Rattle.domain_writes_laws.proofs.WritesEffects.{source_at-target_written-other}
use Rattle.domain_registers.specs.Write.{register_written}
use Rattle.wired_state.specs.Wires.{Wired, domain_in, with_domain}
use Rattle.wired_registers.specs.Wired.{written_as, written_in}
use Rattle.wired_rules_laws.specs.Steady.{WiredSteady, WiredQuiet}
use Rattle.wired_rules_laws.proofs.WiredQuietEffects.{quiet-target, other-with_domain}
use Rattle.wired.specs.Controller.{genmsi_as, genmsi_by, write_call}
use Rattle.wired.proofs.CallLaws.{flushed-quiet}

pub target-call : (w : Wired) → WiredSteady w → WiredQuiet w → (c : Bool) (i : ℕ) → 1 ≤ i → i < 64 → (v : ℕ)
    → write_call w c (Target i) v ≡ record { wired = written_in w c (Target i) v; messages = [] }
unfolding write_call genmsi_by genmsi_as
target-call w s q c i l h v = rw (flushed-quiet (written_in w c (Target i) v) (quiet-target w q s c i l h v))

-- ---- what it leaves

own-with_domain : (w : Wired) (c : Bool) (d : Domain) → domain_in (with_domain w c d) c ≡ d
unfolding domain_in with_domain
own-with_domain w true d = refl
own-with_domain w false d = refl

wires-with_domain : (w : Wired) (c : Bool) (d : Domain) → (with_domain w c d).wires ≡ w.wires
unfolding with_domain
wires-with_domain w true d = refl
wires-with_domain w false d = refl

module _ (w : Wired) (c : Bool) (i v : ℕ) where
  abbrev target-after : Domain
  target-after = target_written c (domain_in w c) i v

  target-part : written_in w c (Target i) v ≡ with_domain w c target-after
  unfolding written_in written_as register_written
  target-part = refl

  target-domain : domain_in (written_in w c (Target i) v) c ≡ target-after
  target-domain = ap (λ (x : Wired). domain_in x c) target-part ∙ own-with_domain w c target-after

  pub target-wires : (written_in w c (Target i) v).wires ≡ w.wires
  target-wires = ap (λ (x : Wired). x.wires) target-part ∙ wires-with_domain w c target-after

  pub target-not : domain_in (written_in w c (Target i) v) (not c) ≡ domain_in w (not c)
  target-not = ap (λ (x : Wired). domain_in x (not c)) target-part ∙ other-with_domain w c target-after

  pub target-own : DomainShaped (domain_in w c) → i < 64
      → source_at (domain_in (written_in w c (Target i) v) c) i
      ≡ retargeted (source_at (domain_in w c) i) c (by_messages (domain_in w c)) v
  target-own shaped h =
      ap (λ (d : Domain). source_at d i) target-domain
      ∙ source_at-target_written-same c (domain_in w c) i v shaped h

  pub target-other : (j : ℕ) → j ≢ i
      → source_at (domain_in (written_in w c (Target i) v) c) j ≡ source_at (domain_in w c) j
  target-other j n =
      ap (λ (d : Domain). source_at d j) target-domain ∙ source_at-target_written-other c
      (domain_in w c) i v j n
