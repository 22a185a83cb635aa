-- What a message does to a file: it sets its own pending bit and no other, whatever delivery is. No contract
-- cites this file.
-- Assumes nothing.
use Prim.Native.Nat.{ℕ, ◌*◌, ◌/◌, ◌<◌}
use mathlib.Core.Path.{◌≡◌, sym, ap, ◌∙◌}
use mathlib.Core.Bool.{Bool, true, false, ◌&&◌, ◌||◌, or-false, or-true, and-false}
use native.Mathlib.Decide.{ℕ_discrete}
use native.Mathlib.Omega.{arith}
use lib.Dec.{eqb, leb}
use lib.ListN.{length}
use borrow.Author.Tests.{eq-eqb, ne_eqb, leb-true}
use Rattle.words.specs.Sets.{member, insert}
use Rattle.words.proofs.SetsLaws.{member-insert-same, member-insert-other, length-insert}
use Rattle.words.proofs.TestsLaws.{tested, and_second}
use Rattle.file.specs.declared.File.{File}
use Rattle.file.specs.Parts.{with_delivery, with_pending_set}
use Rattle.file.specs.Page.{arrived}

module _ (n : ℕ) (f : File) (i : ℕ) where
  -- the number i names an identity
  abbrev names : Bool
  names = leb 1 i && leb i n

  arrived-named : names ≡ true → arrived n f i ≡ with_pending_set f (insert f.pending i)
  unfolding arrived
  arrived-named e = simp e

  pub arrived-ignored : names ≡ false → arrived n f i ≡ f
  unfolding arrived
  arrived-ignored e = simp e

  -- bit j after the message: as it was, or j is the identity that came
  pub arrived-pending : (j : ℕ) → n < 32 * length f.pending
      → member (arrived n f i).pending j ≡ (member f.pending j || (eqb j i && names))
  arrived-pending j fits =
      tested names
      (λ t. ap (λ (g : File). member g.pending j) (arrived-named t) ∙ at t (ℕ_discrete j i))
      (λ u. ap (λ (g : File). member g.pending j) (arrived-ignored u)
      ∙ sym (simp (u, and-false, or-false)))
    where
      at : names ≡ true → Dec (j ≡ i)
          → member (insert f.pending i) j ≡ (member f.pending j || (eqb j i && names))
      at t (yes e) =
          let low : i / 32 < length f.pending =
          omega (arith, leb-true i n (and_second (leb 1 i) (leb i n) t)) in
          ap (member (insert f.pending i)) e ∙ member-insert-same f.pending i low
          ∙ sym (simp (eq-eqb j i e, t, or-true))
      at t (no d) = member-insert-other f.pending i j d ∙ sym (simp (ne_eqb j i d, or-false))

  pub arrived-rest : ((arrived n f i).delivery ≡ f.delivery) × ((arrived n f i).threshold ≡ f.threshold)
      × ((arrived n f i).enable ≡ f.enable)
  arrived-rest =
      tested names
      (λ t. (
        ap (λ (g : File). g.delivery) (arrived-named t),
        ap (λ (g : File). g.threshold) (arrived-named t),
        ap (λ (g : File). g.enable) (arrived-named t),
      ))
      (λ u. (
        ap (λ (g : File). g.delivery) (arrived-ignored u),
        ap (λ (g : File). g.threshold) (arrived-ignored u),
        ap (λ (g : File). g.enable) (arrived-ignored u),
      ))

  pub arrived-length : length (arrived n f i).pending ≡ length f.pending
  arrived-length =
      tested names
      (λ t. ap (λ (g : File). length g.pending) (arrived-named t) ∙ length-insert f.pending i)
      (λ u. ap (λ (g : File). length g.pending) (arrived-ignored u))

-- arrival does not look at delivery
pub arrived-delivery : (n : ℕ) (f : File) (i d : ℕ)
    → arrived n (with_delivery f d) i ≡ with_delivery (arrived n f i) d
arrived-delivery n f i d =
    tested (names n f i)
    (λ t. arrived-named n (with_delivery f d) i t
    ∙ sym (ap (λ (g : File). with_delivery g d) (arrived-named n f i t)))
    (λ u. arrived-ignored n (with_delivery f d) i u
    ∙ sym (ap (λ (g : File). with_delivery g d) (arrived-ignored n f i u)))
