-- The two runs side by side, and the signals of a hart that has neither old nor new: they are the same in
-- both. No contract cites this file. Assumes nothing.
use Prim.Native.Nat.{ℕ, zero, suc, ◌≤◌, ◌<◌}
use mathlib.Core.Path.{◌≡◌, refl, sym, ap, ap₂, ◌∙◌}
use mathlib.Core.Bool.{Bool, true, false, ◌&&◌, ◌||◌}
use mathlib.Core.Logic.{◌≢◌}
use native.Mathlib.Decide.{ℕ_discrete}
use native.Mathlib.Omega.{arith}
use lib.Dec.{eqb, ltb}
use borrow.Author.Tests.{ltb-true}
use Rattle.words.specs.Bits.{put_bit}
use Rattle.words.proofs.TestsLaws.{tested, and_first, not_same}
use Rattle.sizes.specs.Sizes.{identities, hart_files, first_guest}
use Rattle.file_select.specs.Deliveries.{from_wired}
use Rattle.file.specs.declared.File.{File}
use Rattle.file.specs.Top.{signals}
use Rattle.files.specs.Files.{file_number}
use Rattle.domain.specs.Domain.{Domain}
use Rattle.domain_direct.specs.Direct.{signal_of}
use Rattle.domain_direct.proofs.DirectLaws.{signal-messages}
use Rattle.wired_state.specs.Wires.{domain_in}
use Rattle.board_move_wired_laws.proofs.WireRelated.{only-messages}
use Rattle.board_block.specs.Block.{Board}
use Rattle.board_call.specs.declared.Call.TheVariants.{Signals}
use Rattle.board_call.specs.Calls.{row_of}
use Rattle.board_call.specs.Change.{signal_at, signals_to}
use Rattle.board_call.specs.Outcome.{Stepped, done_as}
use Rattle.board_call.specs.Refusal.{name_tests, name_refusal, name_refusal_by}
use Rattle.board_call.proofs.RefusalLaws.{accepted-present}
use Rattle.board_call_laws.proofs.HartCallEffects.{step-signals}
use Rattle.board_call_laws.proofs.OutcomeEffects.{outcome-refused, outcome-done}
use Rattle.board_runs.specs.Runs.{said_of, Lent, outcome_on}
use Rattle.board_runs.specs.Ready.{board_in, Ready}
use Rattle.board_runs.proofs.RunsEffects.{ready-refusal}
use Rattle.move_laws.specs.Shift.{Stations, has_neither}
use Rattle.move_laws.specs.Premises.{TwoGuests}
use Rattle.move_laws.specs.Moved.{old_number, new_number}
use Rattle.move_laws.proofs.Invariant.{is-new, is-old, number-below}
use Rattle.move_laws.proofs.BesideEffects.{Beside}

-- what the call answers
module _ (x : Lent) (ready : Ready x) (h : ℕ) where
  signals-done : name_refusal (Signals h) (board_in x) ≡ 0
      → said_of (outcome_on (Signals h) x)
      ≡ record { number = 0; value = signals_to (board_in x) h hart_files; count = 0 }
  signals-done e =
      ap said_of (outcome-done (Signals h) x.block x.log x.saved
      (ready-refusal (Signals h) x ready ∙ e))
      ∙ ap (λ (s : Stepped). said_of (done_as s x.log))
      (step-signals (board_in x) ready.fit.sound h x.saved)

  signals-refused : name_refusal (Signals h) (board_in x) ≢ 0
      → said_of (outcome_on (Signals h) x)
      ≡ record { number = name_refusal (Signals h) (board_in x); value = 0; count = 0 }
  signals-refused d =
      ap said_of (outcome-refused (Signals h) x.block x.log x.saved _
      (ready-refusal (Signals h) x ready) d)

module _ (m : Stations) (g : TwoGuests m) (n : ℕ) (x y : Lent) (r : Beside m g n x y) (h : ℕ) where
  abbrev b : Board
  b = board_in x

  abbrev b' : Board
  b' = board_in y

  -- the domains: the machine domain is the same, and the child sends messages
  domain-same : (c : Bool) → signal_of (domain_in b.wired c) h ≡ signal_of (domain_in b'.wired c) h
  unfolding domain_in
  domain-same true =
      signal-messages b.wired.child h (only-messages r.middle.only ∙ r.middle.messages)
      ∙ sym (signal-messages b'.wired.child h r.middle.messages)
  domain-same false = ap (λ (d : Domain). signal_of d h) r.middle.only.machine

  -- a file that is neither old nor new signals the same
  pub file-signals : (f : ℕ) → h < 4 → f < 5 → file_number h f ≢ old_number m → file_number h f ≢ new_number m
      → signal_at b h f ≡ signal_at b' h f
  unfolding signal_at
  file-signals f there low not_old not_the_new =
      ap₂ (λ (z : File) (p : Bool). signals identities z
      || (ltb f first_guest && eqb z.delivery from_wired && p))
      (r.middle.files.others (file_number h f) (number-below h f there low) not_old not_the_new)
      (domain-same (eqb f 1))

module _ (m : Stations) (g : TwoGuests m) (n : ℕ) (x y : Lent) (r : Beside m g n x y) (h : ℕ)
    (apart : has_neither m h ≡ true) where
  same : name_refusal (Signals h) (board_in x) ≡ name_refusal (Signals h) (board_in y)
  same = unfold name_refusal_by name_tests row_of in refl

  not-old : (f : ℕ) → f < 5 → file_number h f ≢ old_number m
  not-old f low q =
      not_same _ apart (rw (and_first (eqb h m.old_hart) (eqb f m.old_file) (is-old m g h f low q)))

  not_new : (f : ℕ) → f < 5 → file_number h f ≢ new_number m
  not_new f low q =
      not_same _ apart
      (rw (and_first (eqb h m.new_hart) (eqb f m.new_file) (is-new m g h f low q))
      (tested (eqb h m.old_hart) (λ t. rw t refl) (λ e. rw e refl)))

  module _ (there : h < 4) where
    signals-same : (k : ℕ) → k ≤ 5 → signals_to (board_in x) h k ≡ signals_to (board_in y) h k
    unfolding signals_to
    signals-same zero l = refl
    signals-same (suc k) l =
        ap₂ (λ (w : ℕ) (p : Bool). put_bit w k p) (signals-same k (omega arith))
        (file-signals m g n x y r h k there (omega arith) (not-old k (omega arith)) (not_new k (omega arith)))

  pub watch-said : said_of (outcome_on (Signals h) x) ≡ said_of (outcome_on (Signals h) y)
  watch-said = at (ℕ_discrete (name_refusal (Signals h) (board_in x)) 0)
    where
      there : name_refusal (Signals h) (board_in x) ≡ 0 → h < 4
      there e = ltb-true h 4 (unfold row_of in accepted-present (row_of (Signals h)).tests (board_in x) e)

      at : Dec (name_refusal (Signals h) (board_in x) ≡ 0)
          → said_of (outcome_on (Signals h) x) ≡ said_of (outcome_on (Signals h) y)
      at (yes e) =
          signals-done x r.ready h e
          ∙ ap (λ (v : ℕ). record { number = 0; value = v; count = 0 })
          (signals-same (there e) hart_files (omega arith))
          ∙ sym (signals-done y r.ready' h (sym same ∙ e))
      at (no q) =
          signals-refused x r.ready h q
          ∙ ap (λ (i : ℕ). record { number = i; value = 0; count = 0 }) same
          ∙ sym (signals-refused y r.ready' h (λ z. q (same ∙ z)))
