-- What the top is, and what a claim takes: the paper's sentences on the top as theorems. No contract cites
-- this file. Assumes nothing.
use Prim.Native.Nat.{ℕ, ◌+◌, ◌*◌, ◌/◌, ◌≤◌, ◌<◌}
use mathlib.Core.Path.{◌≡◌, refl, sym, ap, ◌∙◌}
use mathlib.Core.Bool.{true, false, not, ◌&&◌, and-true, and-false}
use mathlib.Core.Logic.{◌≢◌, ◌↔◌}
use native.Mathlib.Decide.{ℕ_discrete}
use native.Mathlib.Omega.{arith}
use lib.Dec.{eqb}
use lib.ListN.{length}
use borrow.Author.Tests.{eq-eqb, ne_eqb, ltb-true}
use Rattle.words.specs.Sets.{member, remove}
use Rattle.words.proofs.SetsLaws.{member-remove-same, member-remove-other}
use Rattle.file.specs.declared.File.{File}
use Rattle.file.specs.Top.{qualifies, top_identity, top_of, claimed}
use Rattle.file_search.proofs.LowestLaws.{lowest-ge, lowest-found, lowest-first, lowest-none-1, lowest-none-2}
use Rattle.file.proofs.TopLaws.{top_identity-le, top_of-zero-1, top_of-zero-2, claimed-none, claimed-some}
use Rattle.words.proofs.ThresholdLaws.{passes-below}
use Rattle.file.proofs.TopLaws.{qualifies-passes}

module _ (n : ℕ) (f : File) where
  -- the top reads 0 exactly if no identity qualifies
  pub top-zero-iff : (top_of n f ≡ 0) ↔ ((i : ℕ) → 1 ≤ i → i ≤ n → qualifies f i ≡ false)
  unfolding top_identity
  top-zero-iff = (
    (λ z i l h. lowest-none-1 (qualifies f) 1 n (omega arith) (top_of-zero-1 n f z) i l (omega arith)),
    (λ none. top_of-zero-2 n f (lowest-none-2 (qualifies f) 1 n (λ i l h. none i l (omega arith)))),
  )

  -- a top that is not 0 is an identity, twice
  pub top-is : top_of n f ≡ top_identity n f * 65536 + top_identity n f
  unfolding top_of
  top-is = refl

  pub top-qualifies : top_identity n f ≢ 0 → qualifies f (top_identity n f) ≡ true
  unfolding top_identity
  top-qualifies h = lowest-found (qualifies f) 1 n h

  pub top-lowest : (i : ℕ) → 1 ≤ i → i < top_identity n f → qualifies f i ≡ false
  unfolding top_identity
  top-lowest i l h = lowest-first (qualifies f) 1 n i l h

  pub top_within : top_identity n f ≢ 0 → (1 ≤ top_identity n f) × (top_identity n f ≤ n)
  top_within h = (unfold top_identity in lowest-ge (qualifies f) 1 n h, top_identity-le n f)

  -- threshold P shuts out P and all above
  pub top-below-threshold : f.threshold ≢ 0 → top_identity n f < f.threshold
  top-below-threshold h = at (ℕ_discrete (top_identity n f) 0)
    where
      at : Dec (top_identity n f ≡ 0) → top_identity n f < f.threshold
      at (yes z) = omega arith
      at (no d) =
          ltb-true (top_identity n f) f.threshold
          (sym (passes-below f.threshold (top_identity n f) h)
          ∙ qualifies-passes f (top_identity n f) (top-qualifies d))

  -- a claim takes the top's pending bit and no other
  pub claimed-pending : (j : ℕ) → 1 ≤ j → n < 32 * length f.pending
      → member (claimed n f).pending j ≡ (member f.pending j && not (eqb j (top_identity n f)))
  claimed-pending j l fits = at (ℕ_discrete (top_identity n f) 0) (ℕ_discrete j (top_identity n f))
    where
      at : Dec (top_identity n f ≡ 0) → Dec (j ≡ top_identity n f)
          → member (claimed n f).pending j ≡ (member f.pending j && not (eqb j (top_identity n f)))
      at (yes z) d =
          ap (λ (g : File). member g.pending j) (claimed-none n f z)
          ∙ sym (simp (ne_eqb j (top_identity n f) (λ q. omega arith), and-true))
      at (no z) (yes e) =
          let low : top_identity n f / 32 < length f.pending = omega (arith, top_identity-le n f) in
          ap (λ (g : File). member g.pending j) (claimed-some n f z)
          ∙ ap (member (remove f.pending (top_identity n f))) e
          ∙ member-remove-same f.pending (top_identity n f) low
          ∙ sym (simp (eq-eqb j (top_identity n f) e, and-false))
      at (no z) (no e) =
          ap (λ (g : File). member g.pending j) (claimed-some n f z)
          ∙ member-remove-other f.pending (top_identity n f) j e
          ∙ sym (simp (ne_eqb j (top_identity n f) e, and-true))

  pub claimed-rest : ((claimed n f).delivery ≡ f.delivery) × ((claimed n f).threshold ≡ f.threshold)
      × ((claimed n f).enable ≡ f.enable)
  claimed-rest = at (ℕ_discrete (top_identity n f) 0)
    where
      at : Dec (top_identity n f ≡ 0)
          → ((claimed n f).delivery ≡ f.delivery) × ((claimed n f).threshold ≡ f.threshold)
          × ((claimed n f).enable ≡ f.enable)
      at (yes z) = let e =
          claimed-none n f z in (
            ap (λ (g : File). g.delivery) e,
            ap (λ (g : File). g.threshold) e,
            ap (λ (g : File). g.enable) e,
          )
      at (no z) = let e =
          claimed-some n f z in (
            ap (λ (g : File). g.delivery) e,
            ap (λ (g : File). g.threshold) e,
            ap (λ (g : File). g.enable) e,
          )
