-- Laws of specs/Domaincfg.antt. No contract cites this file. Assumes nothing.
--   source-..         what is stored for one source: nothing if it is inactive, its target and pending bit if
--                     it is a level source, else its target alone
--   redelivered-..    the loop over the sources
--   mode-..           whether DM changed
use Prim.Native.Nat.{ℕ, suc, ◌+◌, ◌-◌, ◌≤◌, ◌<◌}
use mathlib.Core.Path.{◌≡◌, sym, ap, ap₂, ◌∙◌}
use mathlib.Core.Bool.{Bool, beq, true, false, or-false}
use mathlib.Core.List.{List}
use native.Mathlib.Omega.{arith}
use lib.ListN.{set}
use Rattle.words.specs.Sets.{member, put}
use Rattle.words.proofs.TestsLaws.{tested}
use Rattle.source_mode.specs.Mode.{is_active, is_level, is_rectified}
use Rattle.source_target.specs.Target.{start_target}
use Rattle.source.specs.declared.Source.{Source}
use Rattle.source.specs.Pending.{with_pending, with_target, redelivered}
use Rattle.source.proofs.PendingLaws.{settled-messages, settled-direct, settled-other}
use Rattle.source.proofs.PendingLaws.{redelivered-inactive, redelivered-active}
use Rattle.domain.specs.Domain.{Domain, by_messages, with_targets, with_pendings, with_genmsi}
use Rattle.domain.specs.Slot.{source_at, with_source}
use Rattle.domain_laws.proofs.SlotEffects.{with_source-back, with_source-target, with_source-target-pending}
use Rattle.domain_laws.proofs.OwnEffects.{by_messages-with_source}
use Rattle.domain_domaincfg.specs.Domaincfg.{redelivered_at, redelivered_from, mode_settled}

-- ---- one source

module _ (s : Source) (m wire : Bool) (active : is_active s.mode ≡ true) where
  abbrev started : Source
  started = with_target s (start_target m)

  abbrev settled : Source
  settled = redelivered s m wire

  other-started : is_level s.mode ≡ false → settled ≡ started
  other-started f =
      redelivered-active s m wire active ∙ settled-other started m false (is_rectified s.mode wire) f
      ∙ ap (with_pending started) (or-false s.pending)

  -- a source that has s but for its target and pending bit has its own
  two-parts : (t : Source) (p : Bool) → t ≡ with_pending started p
      → t ≡ with_pending (with_target s t.target) t.pending
  two-parts t p e =
      e ∙ ap₂ (λ (v : ℕ) (b : Bool). with_pending (with_target s v) b) (sym (ap (λ (x : Source). x.target) e))
      (sym (ap (λ (x : Source). x.pending) e))

  level-parts : is_level s.mode ≡ true
      → settled ≡ with_pending (with_target s settled.target) settled.pending
  level-parts l =
      let high = is_rectified s.mode wire in
      let act = redelivered-active s m wire active in
      tested m (λ t. two-parts settled _ (act ∙ settled-messages started m false high l t))
      (λ f. two-parts settled _ (act ∙ settled-direct started m false high l f))

module _ (d : Domain) (ws : List ℕ) (i : ℕ) where
  pub source-inactive : is_active (source_at d i).mode ≡ false → d ≡ redelivered_at d ws i
  unfolding redelivered_at
  source-inactive a =
      sym (ap (with_source d i) (redelivered-inactive _ (by_messages d) (member ws i) a)
      ∙ with_source-back d i)

  module _ (active : is_active (source_at d i).mode ≡ true) where
    -- e is the domain after its target, and e' after its pending bit too
    pub source-level : is_level (source_at d i).mode ≡ true → (t : Source)
        → t ≡ redelivered (source_at d i) (by_messages d) (member ws i)
        → (e e' : Domain) → e ≡ with_targets d (set d.target i t.target)
        → e' ≡ with_pendings e (put e.pending i t.pending) → e' ≡ redelivered_at d ws i
    unfolding redelivered_at
    source-level v t q e e' he he' =
        he' ∙ ap (λ (x : Domain). with_pendings x (put x.pending i t.pending)) he
        ∙ with_source-target-pending d i t.target t.pending
        ∙ ap (with_source d i)
        (ap (λ (x : Source). with_pending (with_target (source_at d i) x.target) x.pending) q
        ∙ sym (level-parts (source_at d i) (by_messages d) (member ws i) active v))

    pub source-other : is_level (source_at d i).mode ≡ false → (v : ℕ) → v ≡ start_target (by_messages d)
        → with_targets d (set d.target i v) ≡ redelivered_at d ws i
    unfolding redelivered_at
    source-other f v e =
        with_source-target d i v
        ∙ ap (λ (x : ℕ). with_source d i (with_target (source_at d i) x)) e
        ∙ ap (with_source d i) (sym (other-started (source_at d i) (by_messages d) (member ws i) active f))

-- ---- all sources

module _ (d : Domain) (ws : List ℕ) where
  -- source i stored leaves the delivery mode
  pub redelivered-messages : (i : ℕ) → 1 ≤ i → by_messages (redelivered_at d ws i) ≡ by_messages d
  unfolding redelivered_at
  redelivered-messages i h =
      by_messages-with_source d i (redelivered (source_at d i) (by_messages d) (member ws i)) h

  -- one turn of the loop up to m, and its end
  pub redelivered-next : (i m : ℕ) → i < m
      → redelivered_from d ws i (m - i) ≡ redelivered_from (redelivered_at d ws i) ws (i + 1) (m - (i + 1))
  unfolding redelivered_from
  redelivered-next i m h =
      let more : m - i ≡ suc (m - (i + 1)) = omega arith in
      let next : suc i ≡ i + 1 = omega arith in
      ap (redelivered_from d ws i) more
      ∙ ap (λ (k : ℕ). redelivered_from (redelivered_at d ws i) ws k (m - (i + 1))) next

  pub redelivered-end : (i m : ℕ) → m ≤ i → redelivered_from d ws i (m - i) ≡ d
  unfolding redelivered_from
  redelivered-end i m h =
      let none : m - i ≡ 0 = omega arith in
      ap (redelivered_from d ws i) none

  pub mode-same : (e : Domain) → beq (by_messages d) (by_messages e) ≡ true → mode_settled d e ws ≡ e
  unfolding mode_settled
  mode-same e q = simp q

  pub mode-changed : (e : Domain) → beq (by_messages d) (by_messages e) ≡ false
      → mode_settled d e ws ≡ redelivered_from (with_genmsi e 0) ws 1 63
  unfolding mode_settled
  mode-changed e q = simp q
