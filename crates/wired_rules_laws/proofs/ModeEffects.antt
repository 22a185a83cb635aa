-- What happens to a source, but for a write to its sourcecfg, leaves its sourcecfg word; that write stores
-- its own. No contract cites this file. Assumes nothing.
use Prim.Native.Nat.{ℕ}
use mathlib.Core.Path.{◌≡◌, refl}
use mathlib.Core.Bool.{Bool, true, false}
use Rattle.words.proofs.TestsLaws.{tested}
use Rattle.source_mode.specs.Mode.{is_active}
use Rattle.source.specs.declared.Source.{Source}
use Rattle.source.specs.declared.Change.{Change}
use Rattle.source.specs.declared.Change.TheVariants.{Pend, Clear, Enable, Disable}
use Rattle.source.specs.Pending.{settled, wire_changed, pended, cleared, switched, changed, moded}
use Rattle.source.specs.Pending.{redelivered, retargeted}
use Rattle.domain_sending.specs.Sending.{candidate}
use Rattle.domain_sending_laws.specs.Candidates.{spent}

module _ (s : Source) where
  pub wire_changed-mode : (m was is : Bool) → (wire_changed s m was is).mode ≡ s.mode
  unfolding wire_changed settled
  wire_changed-mode m was is = refl

  pub cleared-mode : (m : Bool) → (cleared s m).mode ≡ s.mode
  unfolding cleared
  cleared-mode m = refl

  pended-mode : (m wire : Bool) → (pended s m wire).mode ≡ s.mode
  unfolding pended
  pended-mode m wire = tested (is_active s.mode) (λ t. rw t) (λ f. rw f)

  switched-mode : (on : Bool) → (switched s on).mode ≡ s.mode
  unfolding switched
  switched-mode on = tested (is_active s.mode) (λ t. rw t) (λ f. rw f)

  pub changed-mode : (x : Change) (m wire : Bool) → (changed s x m wire).mode ≡ s.mode
  unfolding changed
  changed-mode Pend m wire = pended-mode m wire
  changed-mode Clear m wire = cleared-mode m
  changed-mode Enable m wire = switched-mode true
  changed-mode Disable m wire = switched-mode false

  pub redelivered-mode : (m wire : Bool) → (redelivered s m wire).mode ≡ s.mode
  unfolding redelivered settled
  redelivered-mode m wire = tested (is_active s.mode) (λ t. rw t) (λ f. rw f)

  pub retargeted-mode : (c m : Bool) (v : ℕ) → (retargeted s c m v).mode ≡ s.mode
  unfolding retargeted
  retargeted-mode c m v = tested (is_active s.mode) (λ t. rw t) (λ f. rw f)

  pub spent-mode : (spent s).mode ≡ s.mode
  unfolding spent
  spent-mode = tested (candidate s) (λ t. rw t) (λ f. rw f)

  pub moded-mode : (m : Bool) (v : ℕ) (wire : Bool) → (moded s m v wire).mode ≡ v
  unfolding moded settled
  moded-mode m v wire =
      tested (is_active v) (λ t. rw t (tested (is_active s.mode) (λ t. rw t) (λ f. rw f))) (λ f. rw f)
