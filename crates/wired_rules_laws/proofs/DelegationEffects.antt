-- A write to a sourcecfg of either domain keeps the rules of the controller, that of delegation with them,
-- and so does a write to any register. No contract cites this file. Assumes nothing.
use Prim.Native.Nat.{ℕ, ◌≤◌, ◌<◌}
use mathlib.Core.Path.{◌≡◌, refl, sym, ap, ◌∙◌}
use mathlib.Core.Bool.{Bool, true, false, beq}
use mathlib.Core.Logic.{◌≢◌}
use native.Mathlib.Decide.{ℕ_discrete}
use lib.Dec.{leb}
use Rattle.words.specs.Sets.{member}
use Rattle.words.proofs.TestsLaws.{tested, beq-true}
use Rattle.source_mode.specs.Mode.{source_word}
use Rattle.source_mode.proofs.ModeLaws.{word-child-not}
use Rattle.domain_region.specs.Region.{Within}
use Rattle.domain_region.specs.declared.Word.{Word}
use Rattle.source.specs.declared.Source.{Source}
use Rattle.source.specs.Pending.{inactive}
use Rattle.domain.specs.Domain.{Domain}
use Rattle.domain.specs.Slot.{source_at, with_source}
use Rattle.domain_laws.proofs.SlotEffects.{source_at-with_source-same, source_at-with_source-other}
use Rattle.wired_state.specs.Wires.{Wired, is_delegated}
use Rattle.wired_sourcecfg.specs.Delegation.{source_moded, child_written, machine_written, source_written}
use Rattle.wired_registers.specs.Wired.{written_in}
use Rattle.wired_sourcecfg.proofs.DelegationLaws.{machine-stays, machine-moves, written-child}
use Rattle.wired_sourcecfg.proofs.DelegationLaws.{written-machine}
use Rattle.wired_registers.proofs.WiredLaws.{written-cases}
use Rattle.wired_rules.specs.Rules.{delegated_rule}
use Rattle.wired_rules_laws.specs.Steady.{Steady, WiredSteady}
use Rattle.wired_rules_laws.proofs.SourceEffects.{steady-source_moded-word, steady-started}
use Rattle.wired_rules_laws.proofs.SourceEffects.{mode-source_moded, source_at-source_moded-other}
use Rattle.wired_rules_laws.proofs.WiredEffects.{delegated-yes, delegated-zero, delegated-same}
use Rattle.wired_rules_laws.proofs.WiredEffects.{steady-part_written}

-- two domains have the sourcecfg words of all sources but i in common
abbrev But : ℕ → Domain → Domain → Type 0
But i d e = (j : ℕ) → j ≢ i → (source_at e j).mode ≡ (source_at d j).mode

module _ (i v : ℕ) (wire : Bool) (d : Domain) where
  modes-source_moded : But i d (source_moded d i v wire)
  modes-source_moded j n = ap (λ (x : Source). x.mode) (source_at-source_moded-other d i v wire j n)

  modes-started : But i d (with_source d i (inactive 0))
  modes-started j n = ap (λ (x : Source). x.mode) (source_at-with_source-other d i (inactive 0) j n)

-- a controller with other domains
abbrev holding : Wired → Domain → Domain → Wired
holding w r c = record { wires = w.wires; machine = r; child = c }

module _ (w : Wired) (s : WiredSteady w) (i : ℕ) where
  delegated-at : (r c : Domain) → But i w.machine r → But i w.child c
      → delegated_rule (holding w r c) i ≡ true
      → (j : ℕ) → 1 ≤ j → j < 64 → Dec (j ≡ i) → delegated_rule (holding w r c) j ≡ true
  delegated-at r c mr mc here j a b (yes e) = rw e here
  delegated-at r c mr mc here j a b (no n) =
      delegated-same w j (holding w r c) (mr j n) (mc j n) ∙ s.delegated j a b

  -- a change to source i
  wired-replaced : (r c : Domain) → Steady false w.wires r → Steady true w.wires c
      → But i w.machine r → But i w.child c → delegated_rule (holding w r c) i ≡ true
      → WiredSteady (holding w r c)
  wired-replaced r c sr sc mr mc here =
      record {
        long = s.long;
        zero = s.zero;
        machine = sr;
        child = sc;
        delegated = λ j a b. delegated-at r c mr mc here j a b (ℕ_discrete j i);
      }

module _ (w : Wired) (s : WiredSteady w) (i : ℕ) (l : 1 ≤ i) (h : i < 64) (v : ℕ) where
  abbrev wire : Bool
  wire = member w.wires i

  -- ---- a sourcecfg of the child

  abbrev child_word : ℕ
  child_word = source_word true (is_delegated w i) v

  child-here : delegated_rule (child_written w i v) i ≡ true
  unfolding child_written is_delegated
  child-here =
      tested (is_delegated w i) (delegated-yes (child_written w i v) i)
      (λ f. delegated-zero (child_written w i v) i
      (mode-source_moded w.child i child_word wire s.child.shaped h
      ∙ word-child-not v true (is_delegated w i) refl f))

  pub steady-child_written : WiredSteady (child_written w i v)
  unfolding child_written
  steady-child_written =
      wired-replaced w s i w.machine (source_moded w.child i child_word wire) s.machine
      (steady-source_moded-word true w.wires w.child s.child i l h (is_delegated w i) v) (λ j n. refl)
      (modes-source_moded i child_word wire w.child) child-here

  -- ---- a sourcecfg of the machine domain

  abbrev machine_word : ℕ
  machine_word = source_word false false v

  -- the controller with the child as c
  abbrev with_machine : Domain → Wired
  with_machine c = holding w (source_moded w.machine i machine_word wire) c

  with_machine-steady : (c : Domain) → Steady true w.wires c → But i w.child c
      → delegated_rule (with_machine c) i ≡ true → WiredSteady (with_machine c)
  with_machine-steady c sc mc here =
      wired-replaced w s i (source_moded w.machine i machine_word wire) c
      (steady-source_moded-word false w.wires w.machine s.machine i l h false v) sc
      (modes-source_moded i machine_word wire w.machine) mc here

  -- source i is delegated after the write as the word says
  with_machine-here : (c : Domain) → is_delegated (with_machine c) i ≡ leb 1024 machine_word
  unfolding is_delegated
  with_machine-here c = ap (leb 1024) (mode-source_moded w.machine i machine_word wire s.machine.shaped h)

  -- where the delegation stays, the child does
  stays_here : beq (is_delegated w i) (leb 1024 machine_word) ≡ true
      → delegated_rule (with_machine w.child) i ≡ true
  unfolding delegated_rule
  stays_here e =
      let same = with_machine-here w.child ∙ sym (beq-true (is_delegated w i) (leb 1024 machine_word) e) in
      rw same (s.delegated i l h)

  -- where it changes, the child's source starts anew
  abbrev started : Domain
  started = with_source w.child i (inactive 0)

  moves-here : delegated_rule (with_machine started) i ≡ true
  moves-here =
      delegated-zero (with_machine started) i
      (ap (λ (x : Source). x.mode) (source_at-with_source-same w.child i (inactive 0) s.child.shaped h))

  pub steady-machine_written : WiredSteady (machine_written w i v)
  steady-machine_written =
      tested (beq (is_delegated w i) (leb 1024 machine_word))
      (λ t. rw (machine-stays w i v t)
      (with_machine-steady w.child s.child (λ j n. refl) (stays_here t)))
      (λ f. rw (machine-moves w i v f)
      (with_machine-steady started (steady-started true w.wires w.child s.child i l h)
      (modes-started i machine_word wire w.child) moves-here))

  pub steady-source_written : (c : Bool) → WiredSteady (source_written w c i v)
  steady-source_written c =
      tested c (λ t. rw (written-child w i v c t) steady-child_written)
      (λ f. rw (written-machine w i v c f) steady-machine_written)

-- ---- a write to any register

pub steady-written_in : (w : Wired) → WiredSteady w → (c : Bool) (r : Word) → Within r → (v : ℕ)
    → WiredSteady (written_in w c r v)
steady-written_in w s c r q v =
    written-cases w c r v WiredSteady q (steady-part_written w s c r q v)
    (λ i l h. steady-source_written w s i l h v c)
