-- Laws of specs/Top.antt: what an identity that qualifies has, what the top is and how the code finds it, and
-- what a claim and the signal make of it. No contract cites this file. Assumes nothing.
use Prim.Native.Nat.{ℕ, ◌≤◌}
use mathlib.Core.Path.{◌≡◌, sym, ap, ◌∙◌}
use mathlib.Core.Bool.{Bool, true, false, ◌&&◌}
use mathlib.Core.Logic.{◌≢◌}
use native.Mathlib.Omega.{arith}
use borrow.Author.Tests.{eq-eqb, ne_eqb}
use Rattle.words.specs.Sets.{member, remove}
use Rattle.words.proofs.TestsLaws.{and_first, and_second}
use Rattle.words.proofs.ThresholdLaws.{passes-above}
use Rattle.sizes.specs.Sizes.{identities}
use Rattle.file_search.specs.Search.{lowest, lowest_shared}
use Rattle.file_search.proofs.LowestLaws.{lowest-lt, lowest-under, lowest-shut}
use Rattle.file_search.proofs.SearchLaws.{shared_start}
use Rattle.file.specs.declared.File.{File}
use Rattle.file.specs.Parts.{with_pending_set}
use Rattle.file.specs.Top.{passes, qualifies, top_identity, top_of, claimed, signals}

-- ---- what qualifies

module _ (f : File) (i : ℕ) where
  abbrev pends : Bool
  pends = member f.pending i

  abbrev enabled : Bool
  enabled = member f.enable i

  abbrev passing : Bool
  passing = passes f.threshold i

  pub qualifies-pending : qualifies f i ≡ true → member f.pending i ≡ true
  unfolding qualifies
  qualifies-pending e = and_first pends enabled (and_first (pends && enabled) passing e)

  pub qualifies-enabled : qualifies f i ≡ true → member f.enable i ≡ true
  unfolding qualifies
  qualifies-enabled e = and_second pends enabled (and_first (pends && enabled) passing e)

  pub qualifies-passes : qualifies f i ≡ true → passes f.threshold i ≡ true
  unfolding qualifies
  qualifies-passes e = and_second (pends && enabled) passing e

  pub qualifies-standing : member f.pending i ≡ true → member f.enable i ≡ true
      → qualifies f i ≡ passes f.threshold i
  unfolding qualifies
  qualifies-standing p e = simp (p, e)

-- ---- the top as the code finds it: only the lowest that is pending and enabled meets the threshold

module _ (f : File) where
  abbrev stands : ℕ → Bool
  stands i = member f.pending i && member f.enable i

  abbrev shared : ℕ
  shared = lowest_shared f.pending f.enable

  abbrev lets : ℕ → Bool
  lets i = passes f.threshold i

  start : shared ≡ lowest stands 1 identities
  start = shared_start f.pending f.enable

  pub top_identity-shared : passes f.threshold shared ≡ true → top_identity identities f ≡ shared
  unfolding top_identity qualifies
  top_identity-shared e =
      lowest-under stands lets 1 identities (ap lets (sym start) ∙ e) ∙ sym start

  pub top_identity-shut : passes f.threshold shared ≡ false → top_identity identities f ≡ 0
  unfolding top_identity qualifies
  top_identity-shut e =
      lowest-shut stands lets (passes-above f.threshold) 1 identities (ap lets (sym start) ∙ e)

-- ---- the top

module _ (n : ℕ) (f : File) where
  pub top_identity-le : top_identity n f ≤ n
  unfolding top_identity
  top_identity-le = omega (arith, lowest-lt (qualifies f) 1 n (omega arith))

  -- the top is twice its identity, so one is 0 exactly if the other is
  pub top_of-zero-1 : top_of n f ≡ 0 → top_identity n f ≡ 0
  unfolding top_of
  top_of-zero-1 e = omega arith

  pub top_of-zero-2 : top_identity n f ≡ 0 → top_of n f ≡ 0
  unfolding top_of
  top_of-zero-2 e = omega arith

  pub claimed-none : top_identity n f ≡ 0 → claimed n f ≡ f
  unfolding claimed
  claimed-none e = simp (eq-eqb (top_identity n f) 0 e)

  pub claimed-some : top_identity n f ≢ 0 → claimed n f
      ≡ with_pending_set f (remove f.pending (top_identity n f))
  unfolding claimed
  claimed-some h = simp (ne_eqb (top_identity n f) 0 h)

  pub signals-off : f.delivery ≢ 1 → signals n f ≡ false
  unfolding signals
  signals-off h = simp (ne_eqb f.delivery 1 h)
