-- What changes nothing in a steady controller: a wire set as it is, and a delegation written again. No
-- contract cites this file. Assumes nothing.
use Prim.Native.Nat.{ℕ, ◌≤◌, ◌<◌}
use mathlib.Core.Path.{◌≡◌, refl, sym, ◌∙◌}
use mathlib.Core.Bool.{true, false, beq}
use lib.Dec.{leb}
use borrow.Author.Tests.{leb-true}
use Rattle.words.specs.Bits.{has_bit}
use Rattle.words.specs.Sets.{member}
use Rattle.source_mode.specs.Mode.{source_word}
use Rattle.source_mode.proofs.ModeLaws.{word-delegated}
use Rattle.domain.specs.Domain.{by_messages}
use Rattle.domain.specs.Slot.{source_at}
use Rattle.domain_laws.proofs.SetsBack.{put_back}
use Rattle.wired_state.specs.Wires.{Wired, wire_set, is_delegated}
use Rattle.wired_sourcecfg.specs.Delegation.{source_written}
use Rattle.wired_state.proofs.WiresLaws.{wired-path}
use Rattle.wired_sourcecfg.proofs.DelegationLaws.{machine-stays, written-machine}
use Rattle.source_laws.proofs.ModeEffects.{range-greatest}
use Rattle.source_laws.proofs.SteadyParts.{steady-mode}
use Rattle.wired_rules_laws.specs.Steady.{WiredSteady}
use Rattle.wired_rules_laws.proofs.SourceEffects.{source_wired-same, source_moded-same}

module _ (w : Wired) (s : WiredSteady w) (i : ℕ) (l : 1 ≤ i) (h : i < 64) where
  -- a wire set as it is
  pub wire_set-same : wire_set w i (member w.wires i) ≡ w
  unfolding wire_set
  wire_set-same =
      wired-path (put_back w.wires i) (source_wired-same false w.wires w.machine s.machine i l h)
      (source_wired-same true w.wires w.child s.child i l h)

  -- the word of a delegated source is 1024
  pub delegated-word : is_delegated w i ≡ true → (source_at w.machine i).mode ≡ 1024
  unfolding is_delegated
  delegated-word t =
      let x = source_at w.machine i in
      let range =
      steady-mode false (by_messages w.machine) (member w.wires i) x (s.machine.source i l h) in
      range-greatest false x.mode range (leb-true 1024 x.mode t)

  -- a delegation written again
  pub delegated-again : (v : ℕ) → has_bit v 10 ≡ true → is_delegated w i ≡ true → source_written w false i v
      ≡ w
  delegated-again v b t =
      let word = word-delegated v false false refl b in
      let stays : beq (is_delegated w i) (leb 1024 (source_word false false v)) ≡ true = rw (t, word) in
      written-machine w i v false refl ∙ machine-stays w i v stays
      ∙ wired-path refl (source_moded-same false w.wires w.machine s.machine i l h
      (source_word false false v) (delegated-word t ∙ sym word)) refl
