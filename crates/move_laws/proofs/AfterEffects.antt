-- Two files that are the same answer the same to every call, and stay the same: so the station's shift goes
-- on after the move. No contract cites this file. Assumes nothing.
--   refusal_in c    the refusal of a call on a file that is there
use Prim.Native.Nat.{ℕ}
use mathlib.Core.Path.{◌≡◌, sym, ap, ap₂, ◌∙◌}
use mathlib.Core.Bool.{Bool, true, cond}
use native.Mathlib.Decide.{ℕ_discrete}
use lib.Dec.{ltb}
use Rattle.words.specs.Bits.{has_bit}
use Rattle.sizes.specs.Sizes.{identities, hart_files}
use Rattle.file_select.specs.Select.{select_legal}
use Rattle.file.specs.declared.File.{File}
use Rattle.file.specs.Top.{top_of, claimed, signals}
use Rattle.files.specs.Files.{is_guest}
use Rattle.board_block.specs.Block.{Board}
use Rattle.board_call.specs.declared.Call.{Call}
use Rattle.board_call.specs.Change.{signals_to}
use Rattle.board_call.specs.Numbers.{is_page_address, is_guest_file}
use Rattle.board_call.specs.Calls.{row_of}
use Rattle.board_call.specs.Refusal.{first_failed, name_tests, name_refusal, name_refusal_by}
use Rattle.board_call_laws.specs.Small.{Small}
use Rattle.board_call_laws.proofs.HartCallEffects.{signal-bit, signal-guest-own}
use Rattle.board_move_laws.proofs.MoveCallEffects.{guest-there}
use Rattle.board_move_laws.proofs.MoveEffects.{guest-low, guest-high}
use Rattle.board_runs.specs.Runs.{Said, said_of, Lent, outcome_on, after}
use Rattle.board_runs.specs.Ready.{board_in, Ready}
use Rattle.move_laws.specs.Shift.{Stations}
use Rattle.move_laws.specs.Premises.{TwoGuests}
use Rattle.move_laws.specs.Moved.{old_number, new_number, old_in, new_in}
use Rattle.move_laws.specs.After.{FileCall, call_on}
use Rattle.move_laws.proofs.ActedEffects.{guest-is}
use Rattle.move_laws.proofs.OnFileEffects.{leaves, answers, small-on, said-done, said-refused}
use Rattle.move_laws.proofs.OnFileEffects.{file-done, file-refused}

abbrev refusal_in : FileCall → ℕ
refusal_in (FileCall.page_read a) = cond (is_page_address a) 0 5
refusal_in (FileCall.page_write a v) = cond (is_page_address a) 0 5
refusal_in (FileCall.register k s v) = cond (ltb k 4) (cond (select_legal s) 0 6) 4
refusal_in FileCall.top = 0
refusal_in FileCall.claim = 0

abbrev answered : ℕ → Said
answered v = record { number = 0; value = v; count = 0 }

refusal-on : (h f : ℕ) → is_guest_file h f ≡ true → (b : Board) (c : FileCall)
    → name_refusal (call_on h f c) b ≡ refusal_in c
unfolding name_refusal_by name_tests first_failed row_of
refusal-on h f there b (FileCall.page_read a) = simp (guest-there h f there)
refusal-on h f there b (FileCall.page_write a v) = simp (guest-there h f there)
refusal-on h f there b (FileCall.register k s v) = simp (guest-there h f there)
refusal-on h f there b FileCall.top = simp (guest-there h f there)
refusal-on h f there b FileCall.claim = simp (guest-there h f there)

-- ---- the same calls on new here and on old there

module _ (m : Stations) (g : TwoGuests m) where
  abbrev on_new : FileCall → Call
  on_new = call_on m.new_hart m.new_file

  abbrev on_old : FileCall → Call
  on_old = call_on m.old_hart m.old_file

  -- both are guests' files
  both-guests : is_guest (new_number m) ≡ is_guest (old_number m)
  both-guests = guest-is m.new_hart m.new_file g.new ∙ sym (guest-is m.old_hart m.old_file
      g.old)

  module _ (x y : Lent) (ready : Ready x) (ready' : Ready y)
      (same : new_in m (board_in x) ≡ old_in m (board_in y))
      (c : FileCall) where
    refusal-new : name_refusal (on_new c) (board_in x) ≡ refusal_in c
    refusal-new = refusal-on m.new_hart m.new_file g.new (board_in x) c

    refusal-both : name_refusal (on_new c) (board_in x) ≡ name_refusal (on_old c) (board_in y)
    refusal-both = refusal-new ∙ sym (refusal-on m.old_hart m.old_file g.old (board_in y) c)

    pub said_same : said_of (outcome_on (on_new c) x) ≡ said_of (outcome_on (on_old c) y)
    said_same = at (ℕ_discrete (name_refusal (on_new c) (board_in x)) 0)
      where
        at : Dec (name_refusal (on_new c) (board_in x) ≡ 0)
            → said_of (outcome_on (on_new c) x) ≡ said_of (outcome_on (on_old c) y)
        at (yes e) =
            said-done m.new_hart m.new_file x ready c e
            ∙ ap₂ (λ (z : File) (i : Bool). answered (answers identities i c z)) same both-guests
            ∙ sym (said-done m.old_hart m.old_file y ready' c (sym refusal-both ∙ e))
        at (no d) =
            said-refused m.new_hart m.new_file x ready c d
            ∙ ap (λ (n : ℕ). record { number = n; value = 0; count = 0 }) refusal-both
            ∙ sym (said-refused m.old_hart m.old_file y ready' c (λ q. d (refusal-both ∙ q)))

    pub file-same : Small (call_on 0 0 c)
        → new_in m (board_in (after (on_new c) x)) ≡ old_in m (board_in (after (on_old c) y))
    file-same small = at (ℕ_discrete (name_refusal (on_new c) (board_in x)) 0)
      where
        at : Dec (name_refusal (on_new c) (board_in x) ≡ 0)
            → new_in m (board_in (after (on_new c) x)) ≡ old_in m (board_in (after (on_old c) y))
        at (yes e) =
            file-done m.new_hart m.new_file x ready c e (small-on m.new_hart m.new_file c small)
            ∙ ap₂ (λ (z : File) (i : Bool). leaves identities i c z) same both-guests
            ∙ sym (file-done m.old_hart m.old_file y ready' c (sym refusal-both ∙ e)
            (small-on m.old_hart m.old_file c small))
        at (no d) =
            file-refused m.new_hart m.new_file x ready c d ∙ same
            ∙ sym (file-refused m.old_hart m.old_file y ready' c (λ q. d (refusal-both ∙ q)))

  -- a claim on new answers its top
  pub claim-said : (x : Lent) → Ready x
      → said_of (outcome_on (on_new FileCall.claim) x)
      ≡ record { number = 0; value = top_of identities (new_in m (board_in x)); count = 0 }
  claim-said x ready =
      said-done m.new_hart m.new_file x ready FileCall.claim
      (refusal-on m.new_hart m.new_file g.new (board_in x) FileCall.claim)

  -- and clears it
  pub claim-left : (x : Lent) → Ready x
      → new_in m (board_in (after (on_new FileCall.claim) x)) ≡ claimed identities (new_in m (board_in x))
  claim-left x ready =
      file-done m.new_hart m.new_file x ready FileCall.claim
      (refusal-on m.new_hart m.new_file g.new (board_in x) FileCall.claim) (unfold row_of in tt)

  -- ---- the signals

  pub same-signal : (b b' : Board) → new_in m b ≡ old_in m b'
      → has_bit (signals_to b m.new_hart hart_files) m.new_file
      ≡ has_bit (signals_to b' m.old_hart hart_files) m.old_file
  same-signal b b' same =
      signal-bit b m.new_hart 5 m.new_file (guest-high _ _ g.new)
      ∙ signal-guest-own b m.new_hart m.new_file (guest-low _ _ g.new)
      ∙ ap (signals identities) same
      ∙ sym (signal-guest-own b' m.old_hart m.old_file (guest-low _ _ g.old))
      ∙ sym (signal-bit b' m.old_hart 5 m.old_file (guest-high _ _ g.old))
