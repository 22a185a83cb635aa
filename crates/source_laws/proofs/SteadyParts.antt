-- The four rules of a steady source taken apart and put together. An active source is steady by its ranges
-- and the rule of level sources, an inactive one is all zeros. No contract cites this file. Assumes nothing.
use Prim.Native.Nat.{ℕ}
use mathlib.Core.Path.{◌≡◌, refl}
use mathlib.Core.Bool.{Bool, true, false, not, ◌&&◌}
use lib.Dec.{eqb}
use borrow.Author.Tests.{eqb-true, eq-eqb, not-true}
use Rattle.words.proofs.TestsLaws.{tested, and_first, and_second}
use Rattle.source_mode.specs.Mode.{is_active, source_word}
use Rattle.source_mode.proofs.ModeLaws.{active-zero}
use Rattle.source_target.specs.Target.{kept_target}
use Rattle.source.specs.declared.Source.{Source}
use Rattle.source.specs.Pending.{inactive}
use Rattle.source_rules.specs.SourceRules.{mode_range, target_range, inactive_rule, level_rule, source_steady}
use Rattle.source_laws.proofs.ModeEffects.{range-zero, range-delegated, active-delegated}
use Rattle.source_laws.proofs.ModeEffects.{level-inactive}

and-three : (a b c : Bool) → (a && b && c) ≡ true → (a ≡ true) × (b ≡ true) × (c ≡ true)
and-three a b c e =
    let ab = and_first (a && b) c e in (and_first a b ab, and_second a b ab, and_second (a && b) c e)

-- ---- taken apart

module _ (c m wire : Bool) (s : Source) (e : source_steady c m wire s ≡ true) where
  parts : ((mode_range c s && target_range c m s) ≡ true) × (inactive_rule s ≡ true)
      × (level_rule m wire s ≡ true)
  unfolding source_steady
  parts = and-three (mode_range c s && target_range c m s) (inactive_rule s) (level_rule m wire s) e

  pub steady-mode : s.mode ≡ source_word c true s.mode
  unfolding mode_range
  steady-mode =
      eqb-true s.mode (source_word c true s.mode)
      (and_first (mode_range c s) (target_range c m s) parts.0)

  pub steady-target : is_active s.mode ≡ true → s.target ≡ kept_target c m s.target
  unfolding target_range
  steady-target a =
      eqb-true s.target (kept_target c m s.target)
      (rw a at (and_second (mode_range c s) (target_range c m s) parts.0))

  zeros : is_active s.mode ≡ false
      → (eqb s.target 0 ≡ true) × (not s.pending ≡ true) × (not s.enabled ≡ true)
  unfolding inactive_rule
  zeros f = and-three (eqb s.target 0) (not s.pending) (not s.enabled) (rw f at parts.1)

  -- an inactive source is all zeros
  pub steady-inactive : is_active s.mode ≡ false → s ≡ inactive s.mode
  steady-inactive f = λ k. record {
    mode = s.mode;
    target = eqb-true s.target 0 (zeros f).0 k;
    pending = not-true s.pending (zeros f).1 k;
    enabled = not-true s.enabled (zeros f).2 k;
  }

  pub steady-level : level_rule m wire s ≡ true
  steady-level = parts.2

-- ---- put together

pub steady-active : (c m wire : Bool) (s : Source) → is_active s.mode ≡ true
    → s.mode ≡ source_word c true s.mode → s.target ≡ kept_target c m s.target
    → level_rule m wire s ≡ true → source_steady c m wire s ≡ true
unfolding source_steady mode_range target_range inactive_rule
steady-active c m wire s a r t l = rw (eq-eqb _ _ r, eq-eqb _ _ t, a) l

-- an inactive word with zeros
pub steady-zeros : (c m wire : Bool) (w : ℕ) → w ≡ source_word c true w → is_active w ≡ false
    → source_steady c m wire (inactive w) ≡ true
unfolding source_steady mode_range target_range inactive_rule level_rule
steady-zeros c m wire w r f = simp (eq-eqb _ _ r, f, level-inactive w f)

module _ (c m wire : Bool) where
  -- as a source starts
  pub steady-start : source_steady c m wire (inactive 0) ≡ true
  steady-start = steady-zeros c m wire 0 (range-zero c) (active-zero 0 refl)

  pub steady-delegated : c ≡ false → source_steady c m wire (inactive 1024) ≡ true
  steady-delegated e = steady-zeros c m wire 1024 (range-delegated c e) active-delegated

module _ (c m wire : Bool) (s : Source) (e : source_steady c m wire s ≡ true) (m' wire' : Bool) where
  -- an inactive source that is steady is so whatever the delivery mode and the wire are
  pub steady-other : is_active s.mode ≡ false → source_steady c m' wire' s ≡ true
  steady-other f =
      rw (steady-inactive c m wire s e f) (steady-zeros c m' wire' s.mode (steady-mode c m wire s e) f)

  -- what becomes of a source is steady if it is so of an active one, and an inactive one stays
  pub steady-cases : (t : Source) → (is_active s.mode ≡ true → source_steady c m' wire' t ≡ true)
      → (is_active s.mode ≡ false → t ≡ s) → source_steady c m' wire' t ≡ true
  steady-cases t active other =
      tested (is_active s.mode) active (λ f. rw (other f) (steady-other f))
