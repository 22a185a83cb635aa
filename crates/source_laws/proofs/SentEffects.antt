-- What gives a domain nothing new to send. No contract cites this file. Assumes nothing.
use Prim.Native.Nat.{ℕ}
use mathlib.Core.Path.{◌≡◌, refl}
use mathlib.Core.Bool.{Bool, true, false, not, ◌&&◌, and-false}
use Rattle.words.proofs.TestsLaws.{tested}
use Rattle.source_mode.specs.Mode.{is_active, is_level}
use Rattle.source_mode.proofs.ModeLaws.{active-zero}
use Rattle.source.specs.declared.Source.{Source}
use Rattle.source.specs.Pending.{inactive, cleared, switched, retargeted, candidate}
use Rattle.source.proofs.PendingLaws.{switched-active, switched-inactive, retargeted-active}
use Rattle.source.proofs.PendingLaws.{retargeted-inactive}
use Rattle.source_rules.specs.SourceRules.{sent_rule}

-- a domain that sends
pub sent-sends : (s : Source) → sent_rule true s ≡ not (candidate s)
unfolding sent_rule
sent-sends s = refl

-- a domain that does not
pub sent-silent : (s : Source) → sent_rule false s ≡ true
unfolding sent_rule
sent-silent s = refl

-- less is pending than was
fewer : (sends a p e b : Bool) → not (sends && (a && p && e)) ≡ true
    → not (sends && (a && (b && p) && e)) ≡ true
fewer sends a p e true h = h
fewer sends a p e false h = simp and-false

module _ (sends : Bool) (s : Source) where
  pub sent-inactive : is_active s.mode ≡ false → sent_rule sends s ≡ true
  unfolding sent_rule candidate
  sent-inactive f = simp (f, and-false)

  pub sent-switched : sent_rule sends (switched s false) ≡ true
  sent-switched =
      tested (is_active s.mode)
      (λ a. rw (switched-active s false a) (unfold sent_rule candidate in simp and-false))
      (λ f. rw (switched-inactive s false f) (sent-inactive f))

  module _ (e : sent_rule sends s ≡ true) where
    pub sent-cleared : (m : Bool) → sent_rule sends (cleared s m) ≡ true
    unfolding sent_rule candidate cleared
    sent-cleared m =
        fewer sends (is_active s.mode) s.pending s.enabled (is_level s.mode && not m) e

    pub sent-retargeted : (c m : Bool) (v : ℕ) → sent_rule sends (retargeted s c m v) ≡ true
    sent-retargeted c m v =
        tested (is_active s.mode) (λ a. rw (retargeted-active s m c v a) (unfold sent_rule candidate in e))
        (λ f. rw (retargeted-inactive s m c v f) e)

-- as a source starts
pub sent-start : (sends : Bool) → sent_rule sends (inactive 0) ≡ true
sent-start sends = sent-inactive sends (inactive 0) (active-zero 0 refl)
