-- Laws of specs/Wired.antt: one of the two domains, and which of the two writes a write is. No contract cites
-- this file. Assumes nothing.
use Prim.Native.Nat.{ℕ, ◌≤◌, ◌<◌}
use mathlib.Core.Path.{◌≡◌, refl, ap}
use mathlib.Core.Bool.{Bool}
use mathlib.Core.Logic.{◌≢◌}
use native.Mathlib.Omega.{arith}
use Rattle.domain_region.specs.Region.{Within}
use Rattle.domain_region.specs.declared.Word.{Word}
use Rattle.domain_region.specs.declared.role.Role.{Role}
use Rattle.domain_region.specs.declared.role.Role.TheVariants.{Claims, Configures, Generates, Plain}
use Rattle.domain_region.specs.Role.{role_of}
use Rattle.domain_region.proofs.RoleLaws.{configures-range}
use Rattle.wired_state.specs.Wires.{Wired}
use Rattle.wired_sourcecfg.specs.Delegation.{source_written}
use Rattle.wired_registers.specs.Wired.{part_written, written_as}
use Rattle.wired_registers.specs.Wired.{written_in}

-- ---- a write to any register

module _ (w : Wired) (c : Bool) (r : Word) (v : ℕ) where
  pub written-source : (i : ℕ) → role_of r ≡ Configures i → written_in w c r v ≡ source_written w c i v
  unfolding written_in written_as
  written-source i e = ap (written_as w c r v) e

  pub written-part : ((i : ℕ) → role_of r ≢ Configures i) → written_in w c r v ≡ part_written w c r v
  unfolding written_in written_as
  written-part n = at (role_of r) n
    where
      at : (x : Role) → ((i : ℕ) → x ≢ Configures i) → written_as w c r v x ≡ part_written w c r v
      at (Claims h) n = refl
      at (Configures i) n = absurd (n i refl)
      at Generates n = refl
      at Plain n = refl

  -- what holds after either write holds after a write
  pub written-cases : (P : Wired → Type 0) → Within r → P (part_written w c r v)
      → ((i : ℕ) → 1 ≤ i → i < 64 → P (source_written w c i v)) → P (written_in w c r v)
  unfolding written_in written_as
  written-cases P q part source = at (role_of r) refl
    where
      at : (x : Role) → role_of r ≡ x → P (written_as w c r v x)
      at (Claims h) e = part
      at (Configures i) e = let range = configures-range r q i e in source i range.0 (omega arith)
      at Generates e = part
      at Plain e = part

-- for a write
pub ruleset written = (written-source, written-part, configures-range)
