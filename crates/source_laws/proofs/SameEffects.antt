-- What changes nothing in a steady source: its wire put to what it is, and its own sourcecfg word; in an
-- inactive one any wire, and a write of the in_clrip family. No contract cites this file. Assumes nothing.
use mathlib.Core.Path.{◌≡◌, sym, ap, ◌∙◌}
use mathlib.Core.Bool.{Bool, true, false, or-false, not-and_self}
use Rattle.words.proofs.TestsLaws.{tested}
use Rattle.source_mode.specs.Mode.{is_active}
use Rattle.source.specs.declared.Source.{Source}
use Rattle.source.specs.Pending.{with_pending, settled, wire_changed, cleared, moded}
use Rattle.source.proofs.PendingLaws.{cleared-other, moded-inactive, moded-kept}
use Rattle.source_rules.specs.SourceRules.{source_steady}
use Rattle.source_laws.proofs.ModeEffects.{level-inactive, rectified-inactive}
use Rattle.source_laws.proofs.LevelEffects.{settled_same}
use Rattle.source_laws.proofs.SteadyParts.{steady-inactive, steady-level}

pub wire_changed-inactive : (s : Source) (m was is : Bool) → is_active s.mode ≡ false
    → wire_changed s m was is ≡ s
unfolding wire_changed settled
wire_changed-inactive s m was is f =
    ap (with_pending s)
    (simp (
      level-inactive s.mode f,
      rectified-inactive s.mode was f,
      rectified-inactive s.mode is f,
      or-false,
    ))

module _ (c m wire : Bool) (s : Source) (e : source_steady c m wire s ≡ true) where
  pub cleared-inactive : (m' : Bool) → is_active s.mode ≡ false → cleared s m' ≡ s
  cleared-inactive m' f =
      cleared-other s m' (level-inactive s.mode f)
      ∙ ap (with_pending s) (ap (λ (t : Source). t.pending) (sym (steady-inactive c m wire s e f)))

  pub wire_changed-same : wire_changed s m wire wire ≡ s
  unfolding wire_changed
  wire_changed-same = rw not-and_self (settled_same m wire s (steady-level c m wire s e))

  pub moded-same : moded s m s.mode wire ≡ s
  moded-same =
      tested (is_active s.mode)
      (λ a. moded-kept s m s.mode wire a a
      ∙ rw not-and_self (settled_same m wire s (steady-level c m wire s e)))
      (λ f. moded-inactive s m s.mode wire f ∙ sym (steady-inactive c m wire s e f))
