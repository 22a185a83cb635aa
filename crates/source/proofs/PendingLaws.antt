-- Laws of specs/Pending.antt, one for each case. No contract cites this file. Assumes nothing.
use Prim.Native.Nat.{ℕ}
use mathlib.Core.Path.{◌≡◌, ◌∙◌}
use mathlib.Core.Bool.{Bool, true, false, not, ◌&&◌, ◌||◌, and_assoc, and-false}
use Rattle.source.specs.declared.Source.{Source}
use Rattle.source_mode.specs.Mode.{is_active, is_level, is_rectified}
use Rattle.source_target.specs.Target.{start_target, kept_target}
use Rattle.source.specs.Pending.{with_pending, with_enabled, with_target, with_mode, inactive, fresh}
use Rattle.source.specs.Pending.{settled, pended, cleared, switched, moded, redelivered, retargeted}
use Rattle.source.specs.Pending.{candidate}

module _ (s : Source) (m : Bool) where
  pub settled-messages : (rose high : Bool) → is_level s.mode ≡ true → m ≡ true
      → settled s m rose high ≡ with_pending s (high && (s.pending || rose))
  unfolding settled
  settled-messages rose high l e = simp (l, e)

  pub settled-direct : (rose high : Bool) → is_level s.mode ≡ true → m ≡ false
      → settled s m rose high ≡ with_pending s high
  unfolding settled
  settled-direct rose high l e = simp (l, e)

  pub settled-other : (rose high : Bool) → is_level s.mode ≡ false
      → settled s m rose high ≡ with_pending s (s.pending || rose)
  unfolding settled
  settled-other rose high l = simp l

  pub pended-inactive : (wire : Bool) → is_active s.mode ≡ false → pended s m wire ≡ s
  unfolding pended
  pended-inactive wire a = simp a

  pub cleared-other : is_level s.mode ≡ false → cleared s m ≡ with_pending s false
  unfolding cleared
  cleared-other l = simp l

  pub cleared-direct : is_level s.mode ≡ true → m ≡ false → cleared s m ≡ s
  unfolding cleared
  cleared-direct l e = simp (l, e)

  pub redelivered-inactive : (wire : Bool) → is_active s.mode ≡ false → redelivered s m wire ≡ s
  unfolding redelivered
  redelivered-inactive wire a = simp a

  pub redelivered-active : (wire : Bool) → is_active s.mode ≡ true
      → redelivered s m wire ≡ settled (with_target s (start_target m)) m false (is_rectified s.mode wire)
  unfolding redelivered
  redelivered-active wire a = simp a

  pub retargeted-inactive : (c : Bool) (v : ℕ) → is_active s.mode ≡ false → retargeted s c m v ≡ s
  unfolding retargeted
  retargeted-inactive c v a = simp a

  pub retargeted-active : (c : Bool) (v : ℕ) → is_active s.mode ≡ true
      → retargeted s c m v ≡ with_target s (kept_target c m v)
  unfolding retargeted
  retargeted-active c v a = simp a

  module _ (mode : ℕ) (wire : Bool) where
    abbrev rises : Bool
    rises = not (is_rectified s.mode wire) && is_rectified mode wire

    pub moded-inactive : is_active mode ≡ false → moded s m mode wire ≡ inactive mode
    unfolding moded
    moded-inactive a = simp a

    pub moded-fresh : is_active mode ≡ true → is_active s.mode ≡ false
        → moded s m mode wire ≡ settled (fresh m mode) m rises (is_rectified mode wire)
    unfolding moded
    moded-fresh a b = simp (a, b)

    pub moded-kept : is_active mode ≡ true → is_active s.mode ≡ true
        → moded s m mode wire ≡ settled (with_mode s mode) m rises (is_rectified mode wire)
    unfolding moded
    moded-kept a b = simp (a, b)

pub switched-inactive : (s : Source) (on : Bool) → is_active s.mode ≡ false → switched s on ≡ s
unfolding switched
switched-inactive s on a = simp a

pub switched-active : (s : Source) (on : Bool) → is_active s.mode ≡ true → switched s on ≡ with_enabled s on
unfolding switched
switched-active s on a = simp a

-- a source that is not both pending and enabled is not to be sent
pub not-candidate : (s : Source) → (s.pending && s.enabled) ≡ false → candidate s ≡ false
unfolding candidate
not-candidate s e =
    and_assoc (is_active s.mode) s.pending s.enabled ∙ rw e (and-false (is_active s.mode))
