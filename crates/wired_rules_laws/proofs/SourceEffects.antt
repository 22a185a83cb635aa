-- A wire and a sourcecfg word of one source: what they leave of the rules of a domain, and of its other
-- sources. No contract cites this file. Assumes nothing.
use Prim.Native.Nat.{ℕ, ◌≤◌, ◌<◌}
use mathlib.Core.Path.{◌≡◌, ap, ◌∙◌}
use mathlib.Core.Bool.{Bool, true, false, and-false}
use mathlib.Core.List.{List}
use mathlib.Core.Logic.{◌≢◌}
use native.Mathlib.Omega.{arith}
use lib.ListN.{length}
use borrow.Author.Tests.{le-ltb}
use Rattle.words.specs.Sets.{member, put}
use Rattle.words.proofs.SetsLaws.{member-put-same, member-put-other}
use Rattle.source_mode.specs.Mode.{is_active, source_word}
use Rattle.source.specs.declared.Source.{Source}
use Rattle.source.specs.Pending.{inactive, wire_changed, moded}
use Rattle.domain.specs.Domain.{Domain, by_messages}
use Rattle.domain.specs.Slot.{source_at, with_source}
use Rattle.domain_laws.specs.Shape.{DomainShaped}
use Rattle.domain_laws.proofs.SlotEffects.{source_at-with_source-same, source_at-with_source-other}
use Rattle.domain_laws.proofs.SlotEffects.{with_source-back}
use Rattle.wired_state.specs.Wires.{source_wired}
use Rattle.wired_sourcecfg.specs.Delegation.{source_moded}
use Rattle.source_laws.proofs.SteadyParts.{steady-start}
use Rattle.source_laws.proofs.SteadyEffects.{steady-wire_changed, steady-moded, steady-source_word}
use Rattle.source_laws.proofs.SameEffects.{wire_changed-inactive, wire_changed-same, moded-same}
use Rattle.wired_rules_laws.specs.Steady.{Steady, DomainKept}
use Rattle.wired_rules_laws.proofs.ModeEffects.{wire_changed-mode, moded-mode}
use Rattle.wired_rules_laws.proofs.SteadyEffects.{steady-replaced, modes-replaced, steady-with_source}

-- ---- the rules are kept

module _ (c : Bool) (ws : List ℕ) (d : Domain) (s : Steady c ws d) (i : ℕ) (l : 1 ≤ i) (h : i < 64) where
  pub kept-source_wired : length ws ≡ 2 → (level : Bool)
      → DomainKept c (put ws i level) d (source_wired d i (member ws i) level)
  unfolding source_wired
  kept-source_wired long level =
      let x = source_at d i in
      let y = wire_changed x (by_messages d) (member ws i) level in
      let steady = steady-wire_changed c (by_messages d) (member ws i) level x (s.source i l h) in
      record {
        steady =
            steady-replaced c ws (put ws i level) d s i y l h
            (rw (member-put-same ws i level (omega arith)) steady) (member-put-other ws i level);
        modes =
            modes-replaced d i y (wire_changed-mode x (by_messages d) (member ws i) level) s.shaped l h;
      }

  -- the word of source i becomes one that a write stores
  pub steady-source_moded : (v : ℕ) → v ≡ source_word c true v → Steady c ws
      (source_moded d i v (member ws i))
  unfolding source_moded
  steady-source_moded v e =
      steady-with_source c ws d s i (moded (source_at d i) (by_messages d) v (member ws i)) l h
      (steady-moded c (by_messages d) (member ws i) (source_at d i) (s.source i l h) v e)

  pub steady-source_moded-word : (has : Bool) (v : ℕ)
      → Steady c ws (source_moded d i (source_word c has v) (member ws i))
  unfolding source_moded
  steady-source_moded-word has v =
      steady-with_source c ws d s i
      (moded (source_at d i) (by_messages d) (source_word c has v) (member ws i)) l
      h (steady-source_word c (by_messages d) (member ws i) (source_at d i) (s.source i l h) has v)

  -- the source starts anew
  pub steady-started : Steady c ws (with_source d i (inactive 0))
  steady-started =
      steady-with_source c ws d s i (inactive 0) l h (steady-start c (by_messages d) (member ws i))

  -- ---- what changes nothing: the wire as it is, and the sourcecfg word as it is

  pub source_wired-same : source_wired d i (member ws i) (member ws i) ≡ d
  unfolding source_wired
  source_wired-same =
      rw (wire_changed-same c (by_messages d) (member ws i) (source_at d i) (s.source i l h))
      (with_source-back d i)

  pub source_moded-same : (v : ℕ) → (source_at d i).mode ≡ v → source_moded d i v (member ws i) ≡ d
  unfolding source_moded
  source_moded-same v e =
      rw (← e, moded-same c (by_messages d) (member ws i) (source_at d i) (s.source i l h))
      (with_source-back d i)

-- ---- a wire of an inactive source changes nothing

pub active-high : (m : ℕ) → 1024 ≤ m → is_active m ≡ false
unfolding is_active
active-high m h = rw (le-ltb m 1024 h, and-false)

pub source_wired-inactive : (d : Domain) (i : ℕ) (was is : Bool) → is_active (source_at d i).mode ≡ false
    → source_wired d i was is ≡ d
unfolding source_wired
source_wired-inactive d i was is f =
    rw (wire_changed-inactive (source_at d i) (by_messages d) was is f) (with_source-back d i)

-- ---- the sourcecfg words after a write to one

module _ (d : Domain) (i v : ℕ) (wire : Bool) where
  pub mode-source_moded : DomainShaped d → i < 64 → (source_at (source_moded d i v wire) i).mode ≡ v
  unfolding source_moded
  mode-source_moded shaped h =
      ap (λ (x : Source). x.mode) (source_at-with_source-same d i _ shaped h)
      ∙ moded-mode (source_at d i) (by_messages d) v wire

  pub source_at-source_moded-other : (j : ℕ) → j ≢ i → source_at (source_moded d i v wire) j ≡ source_at d j
  unfolding source_moded
  source_at-source_moded-other = source_at-with_source-other d i _
