-- Which part of a source each of the four families of writes changes. No contract cites this file. Assumes
-- nothing.
use mathlib.Core.Path.{◌≡◌, refl}
use mathlib.Core.Bool.{Bool, true, false}
use Rattle.words.proofs.TestsLaws.{tested}
use Rattle.source_mode.specs.Mode.{is_active}
use Rattle.source.specs.declared.Source.{Source}
use Rattle.source.specs.declared.Change.TheVariants.{Pend, Clear, Enable, Disable}
use Rattle.source.specs.Pending.{with_pending, pended, cleared, switched, changed}

module _ (s : Source) (m wire : Bool) where
  pub changed-pend : changed s Pend m wire ≡ pended s m wire
  unfolding changed
  changed-pend = refl

  pub changed-clear : changed s Clear m wire ≡ cleared s m
  unfolding changed
  changed-clear = refl

  pub changed-enable : changed s Enable m wire ≡ switched s true
  unfolding changed
  changed-enable = refl

  pub changed-disable : changed s Disable m wire ≡ switched s false
  unfolding changed
  changed-disable = refl

  pub pended-part : pended s m wire ≡ with_pending s (pended s m wire).pending
  unfolding pended
  pended-part = tested (is_active s.mode) (λ t. rw t) (λ f. rw f)

  pub cleared-part : cleared s m ≡ with_pending s (cleared s m).pending
  unfolding cleared
  cleared-part = refl
