-- What happens to a source keeps the four rules that hold also in the middle of a call: a wire, a write to a
-- register, a new delivery mode, a message sent. No contract cites this file. Assumes nothing.
use Prim.Native.Nat.{ℕ}
use mathlib.Core.Path.{◌≡◌, sym}
use mathlib.Core.Bool.{Bool, true, false, and-false}
use Rattle.words.proofs.TestsLaws.{tested}
use Rattle.source_mode.specs.Mode.{is_active, is_rectified, source_word}
use Rattle.source_target.specs.Target.{start_target, kept_target}
use Rattle.source.specs.declared.Source.{Source}
use Rattle.source.specs.declared.Change.{Change}
use Rattle.source.specs.declared.Change.TheVariants.{Pend, Clear, Enable, Disable}
use Rattle.source.specs.Pending.{with_pending, with_enabled, with_target, with_mode, fresh, settled}
use Rattle.source.specs.Pending.{wire_changed, pended, cleared, switched, changed, moded, redelivered}
use Rattle.source.specs.Pending.{retargeted}
use Rattle.source.proofs.PendingLaws.{pended-inactive, switched-inactive, redelivered-inactive}
use Rattle.source.proofs.PendingLaws.{switched-active, redelivered-active, retargeted-inactive}
use Rattle.source.proofs.PendingLaws.{retargeted-active, moded-inactive, moded-fresh, moded-kept}
use Rattle.source_rules.specs.SourceRules.{level_rule, source_steady}
use Rattle.source_laws.proofs.ModeEffects.{source_word-back}
use Rattle.source_laws.proofs.TargetEffects.{kept_target-back, kept_target-start}
use Rattle.source_laws.proofs.LevelEffects.{raised, level-settled, level-raised, level-cleared}
use Rattle.source_laws.proofs.SteadyParts.{steady-mode, steady-target, steady-level, steady-active}
use Rattle.source_laws.proofs.SteadyParts.{steady-zeros, steady-cases}
use Rattle.source_laws.proofs.SameEffects.{wire_changed-inactive, cleared-inactive}

-- a settled source is steady if its numbers are in range
steady-settled : (c m wire rose : Bool) (s : Source) → is_active s.mode ≡ true
    → s.mode ≡ source_word c true s.mode → s.target ≡ kept_target c m s.target
    → source_steady c m wire (settled s m rose (is_rectified s.mode wire)) ≡ true
unfolding settled
steady-settled c m wire rose s a r t =
    steady-active c m wire (settled s m rose (is_rectified s.mode wire)) a r t (level-settled m wire s rose)

pub steady-wire_changed : (c m was is : Bool) (s : Source) → source_steady c m was s ≡ true
    → source_steady c m is (wire_changed s m was is) ≡ true
unfolding wire_changed
steady-wire_changed c m was is s e =
    steady-cases c m was s e m is (wire_changed s m was is)
    (λ a. steady-settled c m is _ s a (steady-mode c m was s e) (steady-target c m was s e a))
    (wire_changed-inactive s m was is)

module _ (c m wire : Bool) (s : Source) (e : source_steady c m wire s ≡ true) where
  abbrev ranged : s.mode ≡ source_word c true s.mode
  ranged = steady-mode c m wire s e

  abbrev level : level_rule m wire s ≡ true
  level = steady-level c m wire s e

  pub steady-pended : source_steady c m wire (pended s m wire) ≡ true
  unfolding pended
  steady-pended =
      steady-cases c m wire s e m wire (pended s m wire)
      (λ a. rw a (steady-active c m wire (raised m wire s) a ranged (steady-target c m wire s e a)
      (level-raised m wire s level)))
      (pended-inactive s m wire)

  pub steady-cleared : source_steady c m wire (cleared s m) ≡ true
  unfolding cleared
  steady-cleared =
      steady-cases c m wire s e m wire (cleared s m)
      (λ a. steady-active c m wire (cleared s m) a ranged (steady-target c m wire s e a)
      (level-cleared m wire s level))
      (cleared-inactive c m wire s e m)

  -- by messages a pending bit may fall at any time
  pub steady-unpended : m ≡ true → source_steady c m wire (with_pending s false) ≡ true
  unfolding cleared
  steady-unpended t = rw t (simp (t, and-false) at steady-cleared)

  pub steady-switched : (on : Bool) → source_steady c m wire (switched s on) ≡ true
  unfolding level_rule
  steady-switched on =
      steady-cases c m wire s e m wire (switched s on)
      (λ a. rw (switched-active s on a) (steady-active c m wire (with_enabled s on) a ranged
      (steady-target c m wire s e a) level))
      (switched-inactive s on)

  pub steady-changed : (x : Change) → source_steady c m wire (changed s x m wire) ≡ true
  unfolding changed
  steady-changed Pend = steady-pended
  steady-changed Clear = steady-cleared
  steady-changed Enable = steady-switched true
  steady-changed Disable = steady-switched false

  pub steady-retargeted : (v : ℕ) → source_steady c m wire (retargeted s c m v) ≡ true
  unfolding level_rule
  steady-retargeted v =
      steady-cases c m wire s e m wire (retargeted s c m v)
      (λ a. rw (retargeted-active s m c v a) (steady-active c m wire (with_target s (kept_target c m v)) a
      ranged (sym (kept_target-back c m v)) level))
      (retargeted-inactive s m c v)

  -- the target starts anew, so any delivery mode before will do
  pub steady-redelivered : (m' : Bool) → source_steady c m' wire (redelivered s m' wire) ≡ true
  steady-redelivered m' =
      steady-cases c m wire s e m' wire (redelivered s m' wire)
      (λ a. rw (redelivered-active s m' wire a) (steady-settled c m' wire false
      (with_target s (start_target m')) a ranged (sym (kept_target-start c m'))))
      (redelivered-inactive s m' wire)

  module _ (v : ℕ) (r : v ≡ source_word c true v) where
    moded-active : is_active v ≡ true → source_steady c m wire (moded s m v wire) ≡ true
    moded-active a =
        tested (is_active s.mode)
        (λ b. rw (moded-kept s m v wire a b)
        (steady-settled c m wire _ (with_mode s v) a r (steady-target c m wire s e b)))
        (λ f. rw (moded-fresh s m v wire a f)
        (steady-settled c m wire _ (fresh m v) a r (sym (kept_target-start c m))))

    pub steady-moded : source_steady c m wire (moded s m v wire) ≡ true
    steady-moded =
        tested (is_active v) moded-active
        (λ f. rw (moded-inactive s m v wire f) (steady-zeros c m wire v r f))

  -- so for what a write of v stores
  pub steady-source_word : (has : Bool) (v : ℕ)
      → source_steady c m wire (moded s m (source_word c has v) wire) ≡ true
  steady-source_word has v = steady-moded (source_word c has v) (sym (source_word-back c has v))
