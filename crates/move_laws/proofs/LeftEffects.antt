-- What a move leaves of old: it is silent, no target of the child names it, and so no wire changes it; and
-- it holds what the saved numbers hold, all of which new holds too. No contract cites this file. Assumes
-- nothing.
--   OldLeft m b     b is as a move leaves it: the delivery of old is 0, old signals its hart no more, and no
--                   target of the child names it
--   Held m b s      what old holds of pending and enable bits is what the saved numbers s have, and new has
--                   it too
use Prim.Native.Nat.{ℕ, ◌+◌, ◌/◌, ◌%◌, ◌≤◌, ◌<◌}
use mathlib.Core.Path.{◌≡◌, sym, ap, ap₂, ◌∙◌}
use mathlib.Core.Bool.{Bool, true, false}
use mathlib.Core.List.{List}
use mathlib.Core.Logic.{◌≢◌, ◌⊎◌, inl, inr, ⊎_elim}
use native.Mathlib.Decide.{ℕ_discrete}
use native.Mathlib.Omega.{arith}
use lib.Dec.{eqb}
use lib.ListN.{get_or}
use Rattle.words.specs.Bits.{has_bit}
use Rattle.words.specs.Sets.{member}
use Rattle.sizes.specs.Sizes.{identities, hart_files, source_count}
use Rattle.file.specs.declared.File.{File}
use Rattle.file.proofs.TopLaws.{signals-off}
use Rattle.files.specs.Files.{file_number, the_file, reached, all_reached}
use Rattle.files.proofs.FilesLaws.{the_file-with_file-other}
use Rattle.source_target.specs.Target.{hart_of, message_of}
use Rattle.wired.specs.Controller.{wire_call}
use Rattle.board_move_steps.specs.Names.{names_file}
use Rattle.domain.specs.Slot.{source_at}
use Rattle.board_move_steps.specs.Steps.{accesses, pending_at, enable_at}
use Rattle.board_move_wired_laws.specs.Retargeted.{Same, Rewritten}
use Rattle.board_move_wired_laws.proofs.TargetNames.{names-other, renamed-other, file_of, message-reaches}
use Rattle.board_move_wired_laws.proofs.WireRelated.{wire-both}
use Rattle.board_move_wired_laws.proofs.StepThree.{only-start}
use Rattle.board_block.specs.Block.{Board}
use Rattle.board_call.proofs.RefusalLaws.{accepted-present}
use Rattle.board_call.specs.declared.Call.TheVariants.{Wire}
use Rattle.board_call.specs.Change.{signals_to}
use Rattle.board_call.specs.Numbers.{is_wire}
use Rattle.board_call.specs.Calls.{row_of}
use Rattle.board_call.specs.Refusal.{name_refusal}
use Rattle.board_call_laws.specs.Small.{Small}
use Rattle.board_call_laws.specs.Fit.{Fit}
use Rattle.board_call_laws.proofs.FitEffects.{fit-steady}
use Rattle.board_call_laws.proofs.HartCallEffects.{signal-bit, signal-guest-own}
use Rattle.board_move_laws.proofs.MoveEffects.{guest-hart, guest-low, guest-high}
use Rattle.board_call_laws.proofs.StepEffects.{sound-quiet, step-wire}
use Rattle.board_call_laws.proofs.WiredCallEffects.{wire-low, wire-high}
use Rattle.board_runs.specs.Runs.{Lent, after, ran}
use Rattle.board_runs.specs.Ready.{board_in, Ready}
use Rattle.board_runs.proofs.RunsEffects.{after-refused, ready-refusal, after-board}
use Rattle.move_laws.specs.Shift.{Stations, Event, with_move}
use Rattle.move_laws.specs.Premises.{TwoGuests, Premises}
use Rattle.move_laws.specs.Moved.{old_number, old_in, new_in}
use Rattle.move_laws.proofs.Invariant.{machine-apart, different}
use Rattle.move_laws.proofs.ShiftEffects.{lent_from, move-beside, move-keeps}

pub record OldLeft (m : Stations) (b : Board) : Type 0 where
  pub silent : (old_in m b).delivery ≡ 0
  pub signal : has_bit (signals_to b m.old_hart hart_files) m.old_file ≡ false
  pub unnamed : (i : ℕ) → 1 ≤ i → i ≤ source_count
      → names_file (source_at b.wired.child i).target m.old_hart m.old_file ≡ false

pub record Held (m : Stations) (b : Board) (s : List ℕ) : Type 0 where
  pub pending : (i : ℕ) → 1 ≤ i → i ≤ identities
      → member (old_in m b).pending i ≡ has_bit (get_or s (pending_at (i / 64)) 0) (i % 64)
  pub enable : (i : ℕ) → 1 ≤ i → i ≤ identities
      → member (old_in m b).enable i ≡ has_bit (get_or s (enable_at (i / 64)) 0) (i % 64)
  pub kept : (i : ℕ) → 1 ≤ i → i ≤ identities → member (old_in m b).pending i ≡ true
      → member (new_in m b).pending i ≡ true
  pub enables : (old_in m b).enable ≡ (new_in m b).enable
  pub threshold : (old_in m b).threshold ≡ (new_in m b).threshold

module _ (m : Stations) (g : TwoGuests m) where
  -- a guest's file that is silent signals nothing
  silent-signal : (b : Board) → (old_in m b).delivery ≡ 0
      → has_bit (signals_to b m.old_hart 5) m.old_file ≡ false
  silent-signal b off =
      signal-bit b m.old_hart 5 m.old_file (guest-high _ _ g.old)
      ∙ signal-guest-own b m.old_hart m.old_file (guest-low _ _ g.old)
      ∙ signals-off identities (old_in m b) (λ e. omega arith)

  -- a target whose turn has passed does not name old: it never did, or it names new
  unnamed-then : (n i t t' : ℕ) → i + 8 ≤ n
      → Same m.old_hart m.old_file m.new_hart m.new_file n i t t'
      ⊎ Rewritten m.old_hart m.old_file m.new_hart m.new_file n i t t'
      → names_file t m.old_hart m.old_file ≡ false
  unnamed-then n i t t' h (inl q) = rw q.same (q.not-old h)
  unnamed-then n i t t' h (inr q) =
      rw q.now-new
      (renamed-other t' m.new_hart m.new_file (guest-hart _ _ g.new)
      (omega (arith, guest-low _ _ g.new)) (guest-high _ _ g.new) m.old_hart m.old_file
      (λ a b. different m g (ap₂ file_number a b)))

  -- a message to another file leaves old
  message-apart : (c : Bool) (t : ℕ) (fs : List File) → file_number (hart_of t) (file_of c t) ≢ old_number m
      → the_file (reached fs (message_of c t)) (old_number m) ≡ the_file fs (old_number m)
  message-apart c t fs d =
      rw (message-reaches c t fs) (the_file-with_file-other fs _ _ (old_number m) (λ e. d (sym e)))

  -- the message of a wire goes to a machine file, or where a target of the child says
  wire-apart : (b : Board) → Fit b → OldLeft m b → (i : ℕ) → 1 ≤ i → i < 64 → (level : Bool)
      → the_file (all_reached b.files (wire_call b.wired i level).messages) (old_number m) ≡ old_in m b
  unfolding all_reached
  wire-apart b fit left i l h level =
      let steady = fit-steady b fit in
      let calm = sound-quiet b fit.sound in
      ⊎_elim (λ q. rw q.0)
      (⊎_elim (λ q. rw q.0 (message-apart false _ b.files
      (machine-apart _ m.old_hart m.old_file g.old)))
      (λ q. rw q.0 (message-apart true _ b.files
      (names-other _ m.old_hart m.old_file (guest-high _ _ g.old) (left.unnamed i l (omega arith))))))
      (wire-both (only-start b.wired) steady calm steady calm i l h level)

  pub wire-leaves : (x : Lent) → Ready x → OldLeft m (board_in x) → (i level : ℕ)
      → old_in m (board_in (after (Wire i level) x)) ≡ old_in m (board_in x)
  wire-leaves x ready left i level = at (ℕ_discrete (name_refusal (Wire i level) (board_in x)) 0)
    where
      at : Dec (name_refusal (Wire i level) (board_in x) ≡ 0)
          → old_in m (board_in (after (Wire i level) x)) ≡ old_in m (board_in x)
      at (yes e) =
          let there : is_wire i level ≡ true = unfold row_of in
          accepted-present (row_of (Wire i level)).tests (board_in x) e in
          let small : Small (Wire i level) = unfold row_of in tt in
          rw (after-board (Wire i level) x ready e small, step-wire (board_in x) i level x.saved)
          (wire-apart (board_in x) ready.fit left i (wire-low i level there) (wire-high i level there)
          (eqb level 1))
      at (no d) =
          ap (λ (y : Lent). old_in m (board_in y))
          (after-refused (Wire i level) x (λ q. d (sym (ready-refusal (Wire i level) x ready) ∙ q)))

module _ (m : Stations) (l s : List ℕ) (es : List Event) (p : Premises m l s es) where
  abbrev end : Lent
  end = ran (with_move m 0 es) (lent_from l s)

  pub move-leaves : OldLeft m (board_in end)
  move-leaves =
      let r = (move-beside m l s es p).middle in
      let off = r.files.related.untouched.silent (omega arith) in
      record {
        silent = off;
        signal = silent-signal m p.guests _ off;
        unnamed = λ i a h. unnamed-then m p.guests accesses i _ _ (omega arith)
            (r.targets i a (omega arith));
      }

  pub move-held : Held m (board_in end) end.saved
  move-held =
      let r = (move-beside m l s es p).middle.files.related in
      let station = (move-keeps m l s es p).station in
      let old = old_in m (board_in end) in
      let small : (i : ℕ) → i ≤ identities → i / 64 ≤ 3 = λ i h. omega arith in
      record {
        pending = λ i a h. sym (r.noted.pending i (a, h) (omega (arith, small i h)));
        enable = λ i a h. ap (λ (ws : List ℕ). member ws i) r.untouched.enable
            ∙ sym (r.noted.enable i (a, h) (omega (arith, small i h)));
        kept = λ i a h e. r.shared.settled i (a, h) (omega (arith, small i h))
            ∙ r.shared.joined (omega arith) i (a, h) ∙ rw e;
        enables = r.untouched.enable ∙ ap (λ (f : File). f.enable) (sym station);
        threshold = r.untouched.threshold ∙ ap (λ (f : File). f.threshold) (sym station);
      }
