-- Laws of specs/Read.antt. No contract cites this file. Assumes nothing.
use Prim.Native.Nat.{ℕ}
use mathlib.Core.Path.{◌≡◌, refl, ap, ◌∙◌}
use mathlib.Core.List.{List}
use mathlib.Core.Logic.{◌≢◌}
use Rattle.domain_region.specs.declared.Word.{Word}
use Rattle.domain_region.specs.declared.role.Role.{Role}
use Rattle.domain_region.specs.declared.role.Role.TheVariants.{Claims, Configures, Generates, Plain}
use Rattle.domain_region.specs.Role.{role_of}
use Rattle.domain_region.proofs.RoleLaws.{claims-only}
use Rattle.domain.specs.Domain.{Domain}
use Rattle.domain_direct.specs.Direct.{topi_of, hart_claimed}
use Rattle.domain_values.proofs.ValuesLaws.{claimi-value}
use Rattle.domain_registers.specs.Read.{register_value, claimed_as, claimed_by}

module _ (d : Domain) (w : Word) where
  -- a claimi reads the topi of its hart
  pub claim-value : (ws : List ℕ) (h : ℕ) → role_of w ≡ Claims h → register_value d ws w ≡ topi_of d h
  claim-value ws h e = ap (register_value d ws) (claims-only w h e) ∙ claimi-value d ws h

  pub claimed-by : (h : ℕ) → role_of w ≡ Claims h → claimed_by d w ≡ hart_claimed d h
  unfolding claimed_by claimed_as
  claimed-by h e = ap (claimed_as d) e

  pub claimed-none : ((h : ℕ) → role_of w ≢ Claims h) → claimed_by d w ≡ d
  unfolding claimed_by claimed_as
  claimed-none n = at (role_of w) n
    where
      at : (r : Role) → ((h : ℕ) → r ≢ Claims h) → claimed_as d r ≡ d
      at (Claims h) n = absurd (n h refl)
      at (Configures i) n = refl
      at Generates n = refl
      at Plain n = refl

  -- what holds of d and of d after any claim holds of d after a read
  pub claimed-cases : (P : Domain → Type 0) → P d → ((h : ℕ) → P (hart_claimed d h)) → P (claimed_by d w)
  unfolding claimed_by claimed_as
  claimed-cases P none claim = at (role_of w)
    where
      at : (r : Role) → P (claimed_as d r)
      at (Claims h) = claim h
      at (Configures i) = none
      at Generates = none
      at Plain = none

-- for a read
pub ruleset claims = (claim-value, claimed-by, claimed-none)
