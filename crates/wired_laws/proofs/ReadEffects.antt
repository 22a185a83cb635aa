-- A read of a register that is no claimi: it leaves the controller as it was, and sends nothing where both
-- domains have sent all. No contract cites this file. Assumes nothing.
use Prim.Native.Nat.{ℕ}
use mathlib.Core.Path.{◌≡◌, refl, ap, ◌∙◌}
use mathlib.Core.Bool.{Bool, true, false}
use mathlib.Core.List.{[]}
use mathlib.Core.Logic.{◌≢◌}
use Rattle.domain_region.specs.declared.Word.{Word}
use Rattle.domain_region.specs.declared.role.Role.TheVariants.{Claims}
use Rattle.domain_region.specs.Role.{role_of}
use Rattle.domain_registers.proofs.ReadLaws.{claimed-none}
use Rattle.wired_state.specs.Wires.{Wired, domain_in, with_domain}
use Rattle.wired_registers.specs.Wired.{claimed_in}
use Rattle.wired_rules_laws.specs.Steady.{WiredQuiet}
use Rattle.wired.specs.Controller.{flushed, read_call}
use Rattle.wired.proofs.CallLaws.{flushed-quiet}

-- a domain put where it stands changes nothing
with_domain-domain_in : (w : Wired) (c : Bool) → with_domain w c (domain_in w c) ≡ w
unfolding domain_in with_domain
with_domain-domain_in w true = refl
with_domain-domain_in w false = refl

module _ (w : Wired) (c : Bool) (r : Word) (none : (h : ℕ) → role_of r ≢ Claims h) where
  pub claimed_in-none : claimed_in w c r ≡ w
  claimed_in-none = ap (with_domain w c) (claimed-none (domain_in w c) r none) ∙ with_domain-domain_in w c

  pub read_call-none : WiredQuiet w → read_call w c r ≡ record { wired = w; messages = [] }
  unfolding read_call
  read_call-none q = ap flushed claimed_in-none ∙ flushed-quiet w q
