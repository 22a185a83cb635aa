-- Laws of specs/Role.antt, and what the last arm of a match, `_`, says. No contract cites this file. Assumes
-- nothing.
--   Means r w    the register w, if r is not Plain, is the one that r names
use Prim.Native.Nat.{ℕ, ◌≤◌, ◌<◌}
use mathlib.Core.Path.{◌≡◌, refl, subst}
use mathlib.Core.Bool.{not}
use mathlib.Core.List.{List}
use mathlib.Core.Logic.{◌≢◌}
use lib.Dec.{T}
use mir.Val.{has_key}
use types.Run.{OneOf, miss}
use Rattle.domain_region.specs.declared.Word.{Word}
use Rattle.domain_region.specs.declared.Word.TheVariants.{Domaincfg, Sourcecfg, Setip, Setipnum}
use Rattle.domain_region.specs.declared.Word.TheVariants.{InClrip}
use Rattle.domain_region.specs.declared.Word.TheVariants.{Clripnum, Setie, Setienum, Clrie, Clrienum}
use Rattle.domain_region.specs.declared.Word.TheVariants.{SetipnumLe, SetipnumBe, Genmsi, Target}
use Rattle.domain_region.specs.declared.Word.TheVariants.{Idelivery}
use Rattle.domain_region.specs.declared.Word.TheVariants.{Iforce, Ithreshold, Topi, Claimi, Unused}
use Rattle.domain_region.specs.declared.role.Role.{Role}
use Rattle.domain_region.specs.declared.role.Role.TheVariants.{Claims, Configures, Generates, Plain}
use Rattle.domain_region.specs.Region.{Within}
use Rattle.domain_region.specs.Role.{role_of}

-- in the arm `_` a value's tag is one of those that no arm before names
pub arm-else : (ks : List ℕ) {x : ℕ} → OneOf ks x → (k : ℕ) → T (not (has_key ks k)) → x ≢ k
arm-else ks one k t e = miss ks k t (subst (OneOf ks) e one)

abbrev Means : Role → Word → Type 0
Means (Claims h) w = w ≡ Claimi h
Means (Configures i) w = w ≡ Sourcecfg i
Means Generates w = w ≡ Genmsi
Means Plain w = Unit {0}

role-means : (w : Word) → Means (role_of w) w
role-means Domaincfg = tt
role-means (Sourcecfg i) = refl
role-means (Setip k) = tt
role-means Setipnum = tt
role-means (InClrip k) = tt
role-means Clripnum = tt
role-means (Setie k) = tt
role-means Setienum = tt
role-means (Clrie k) = tt
role-means Clrienum = tt
role-means SetipnumLe = tt
role-means SetipnumBe = tt
role-means Genmsi = refl
role-means (Target i) = tt
role-means (Idelivery h) = tt
role-means (Iforce h) = tt
role-means (Ithreshold h) = tt
role-means (Topi h) = tt
role-means (Claimi h) = refl
role-means Unused = tt

module _ (w : Word) where
  meant : (r : Role) → role_of w ≡ r → Means r w
  meant r e = subst (λ (x : Role). Means x w) e (role-means w)

  pub claims-only : (h : ℕ) → role_of w ≡ Claims h → w ≡ Claimi h
  claims-only h = meant (Claims h)

  pub configures-only : (i : ℕ) → role_of w ≡ Configures i → w ≡ Sourcecfg i
  configures-only i = meant (Configures i)

  pub generates-only : role_of w ≡ Generates → w ≡ Genmsi
  generates-only = meant Generates

  -- the number that a role carries is in its range
  module _ (q : Within w) where
    pub claims-lt : (h : ℕ) → role_of w ≡ Claims h → h < 4
    claims-lt h e = subst Within (claims-only h e) q

    pub configures-range : (i : ℕ) → role_of w ≡ Configures i → (1 ≤ i) × (i ≤ 63)
    configures-range i e = subst Within (configures-only i e) q

pub plain-else : (w : Word) → ((h : ℕ) → w ≢ Claimi h) → ((i : ℕ) → w ≢ Sourcecfg i) → w ≢ Genmsi
    → role_of w ≡ Plain
plain-else w claims configures generates = at (role_of w) (role-means w)
  where
    at : (r : Role) → Means r w → r ≡ Plain
    at (Claims h) m = absurd (claims h m)
    at (Configures i) m = absurd (configures i m)
    at Generates m = absurd (generates m)
    at Plain m = refl
