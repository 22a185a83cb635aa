-- The two runs side by side, and one event: what holds after n accesses holds after a wire, a page write and
-- the next access. No contract cites this file. Assumes nothing.
--   Beside n x y    x, in the shift with the move, and y, in the one without it, are ready for a call, and
--                   their boards are those of a move after n accesses
use Prim.Native.Nat.{ℕ, suc, ◌≤◌, ◌<◌}
use mathlib.Core.Path.{◌≡◌, refl, sym, ap, ap₂, ◌∙◌}
use mathlib.Core.Bool.{Bool, true, cond}
use native.Mathlib.Decide.{ℕ_discrete}
use native.Mathlib.Omega.{arith}
use lib.Dec.{eqb}
use Rattle.words.proofs.TestsLaws.{tested, and_both}
use Rattle.board_move_steps.specs.Steps.{accesses}
use Rattle.board_move_wired_laws.proofs.WireRelated.{only-messages}
use Rattle.board_call.specs.declared.Call.{Call}
use Rattle.board_call.specs.declared.Call.TheVariants.{Wire, PageWrite}
use Rattle.board_call.specs.Outcome.{Stepped, step, done_as}
use Rattle.board_call.specs.Numbers.{is_wire, is_file, is_page_address, is_move}
use Rattle.board_call.specs.Calls.{row_of}
use Rattle.board_call.specs.Refusal.{first_failed, name_tests, name_refusal, name_refusal_by}
use Rattle.board_call.proofs.RefusalLaws.{numbers-name, accepted-present}
use Rattle.board_call_laws.specs.Small.{Small}
use Rattle.board_call_laws.proofs.FileCallEffects.{step-page_write}
use Rattle.board_move_laws.proofs.MoveEffects.{step_move}
use Rattle.board_call_laws.proofs.OutcomeEffects.{outcome-done}
use Rattle.board_call_laws.proofs.StepEffects.{step-wire}
use Rattle.board_call_laws.proofs.WiredCallEffects.{wire-low, wire-high}
use Rattle.board_runs.specs.Runs.{said_of, Lent, outcome_on, after}
use Rattle.board_runs.specs.Ready.{board_in, Ready}
use Rattle.board_runs.proofs.RunsEffects.{after-refused, ready-refusal, after-board}
use Rattle.board_runs.proofs.RunsEffects.{after-saved}
use Rattle.board_runs.proofs.RunsEffects.{ready-after}
use Rattle.move_laws.specs.Shift.{Stations, access_of, is_old, is_new}
use Rattle.move_laws.specs.Premises.{TwoGuests}
use Rattle.board_move_laws.proofs.MoveCallEffects.{guest-there}
use Rattle.move_laws.proofs.Invariant.{new-parts, move-there, Middle, middle-page}
use Rattle.move_laws.proofs.Invariant.{middle-wire}
use Rattle.move_laws.proofs.Invariant.{middle-access}

module _ (m : Stations) (g : TwoGuests m) where
  pub record Beside (n : ℕ) (x y : Lent) : Type 0 where
    pub ready : Ready x
    pub ready' : Ready y
    pub middle : Middle m g n (board_in x) (board_in y) x.saved

  -- ---- one call on each

  module _ (n : ℕ) (x y : Lent) (r : Beside n x y) where
    -- two calls that are both refused, or both done
    pub both : (c c' : Call) → name_refusal c (board_in x) ≡ name_refusal c' (board_in y)
        → (name_refusal c (board_in x) ≡ 0 → name_refusal c' (board_in y) ≡ 0 → Beside n (after c x)
        (after c' y))
        → Beside n (after c x) (after c' y)
    both c c' same done = at (ℕ_discrete (name_refusal c (board_in x)) 0)
      where
        at : Dec (name_refusal c (board_in x) ≡ 0) → Beside n (after c x) (after c' y)
        at (yes e) = done e (sym same ∙ e)
        at (no d) =
            rw (
              after-refused c x (λ q. d (sym (ready-refusal c x r.ready) ∙ q)),
              after-refused c' y (λ q. d (same ∙ sym (ready-refusal c' y r.ready') ∙ q)),
            )
            r

    -- two calls that are done, from what they do
    pub done : (n' : ℕ) (c c' : Call) → Small c → Small c' → name_refusal c (board_in x) ≡ 0
        → name_refusal c' (board_in y) ≡ 0
        → Middle m g n' (step c (board_in x) x.saved).board (step c' (board_in y) y.saved).board
        (step c (board_in x) x.saved).saved → Beside n' (after c x) (after c' y)
    done n' c c' small small' e e' t =
        record {
          ready = ready-after c x r.ready small;
          ready' = ready-after c' y r.ready' small';
          middle =
              rw (
                after-board c x r.ready e small,
                after-board c' y r.ready' e' small',
                after-saved c x r.ready e small,
              )
              t;
        }

    -- ---- a wire

    pub beside-wire : (i level : ℕ) → Beside n (after (Wire i level) x) (after (Wire i level) y)
    beside-wire i level = both (Wire i level) (Wire i level) same wired
      where
        same : name_refusal (Wire i level) (board_in x) ≡ name_refusal (Wire i level) (board_in y)
        same = unfold name_refusal_by name_tests row_of in refl

        wired : name_refusal (Wire i level) (board_in x) ≡ 0 → name_refusal (Wire i level) (board_in y) ≡ 0
            → Beside n (after (Wire i level) x) (after (Wire i level) y)
        wired e e' =
            let there : is_wire i level ≡ true = unfold row_of in
            accepted-present (row_of (Wire i level)).tests (board_in x) e in
            done n (Wire i level) (Wire i level) (unfold row_of in tt)
            (unfold row_of in tt) e e'
            (rw (step-wire (board_in x) i level x.saved, step-wire (board_in y) i level y.saved)
            (middle-wire m g n (board_in x) (board_in y) x.saved r.ready.fit r.ready'.fit
            r.middle i
            (wire-low i level there) (wire-high i level there) (eqb level 1)))

    -- ---- a page write, to new here and to old there, or to one file of both

    module _ (h f a v : ℕ) (to_new : is_new m h f ≡ true → 8 ≤ n)
        (to_old : is_old m h f ≡ true → n < 72) where
      abbrev h' : ℕ
      h' = cond (is_new m h f) m.old_hart h

      abbrev f' : ℕ
      f' = cond (is_new m h f) m.old_file f

      -- old is there, and so is new
      same-file : is_file h f ≡ is_file h' f'
      same-file =
          tested (is_new m h f)
          (λ t. rw t (new-there t ∙ sym (guest-there m.old_hart m.old_file g.old))) (λ u. rw u)
        where
          new-there : is_new m h f ≡ true → is_file h f ≡ true
          new-there t =
              let parts = new-parts m h f t in
              ap₂ is_file parts.0 parts.1 ∙ guest-there m.new_hart m.new_file g.new

      pub beside-page : Beside n (after (PageWrite h f a v) x) (after (PageWrite h' f' a v) y)
      beside-page = both (PageWrite h f a v) (PageWrite h' f' a v) same written
        where
          same : name_refusal (PageWrite h f a v) (board_in x) ≡ name_refusal (PageWrite h' f' a v)
              (board_in y)
          same =
              unfold name_refusal_by name_tests first_failed row_of in
              ap (λ (b : Bool). cond b (cond (is_page_address a) 0 5) 4) same-file

          written : name_refusal (PageWrite h f a v) (board_in x) ≡ 0
              → name_refusal (PageWrite h' f' a v) (board_in y) ≡ 0
              → Beside n (after (PageWrite h f a v) x) (after (PageWrite h' f' a v) y)
          written e e' =
              let there : is_file h f ≡ true = unfold row_of in
              accepted-present (row_of (PageWrite h f a v)).tests
              (board_in x) e in
              done n (PageWrite h f a v) (PageWrite h' f' a v) (unfold row_of in tt)
              (unfold row_of in tt) e e'
              (rw (
                step-page_write (board_in x) r.ready.fit.sound h f _ refl a v x.saved,
                step-page_write (board_in y) r.ready'.fit.sound h' f' _ refl a v y.saved,
              )
              (middle-page m g n (board_in x) (board_in y) x.saved r.ready.fit r.ready'.fit
              r.middle h f
              a v there to_new to_old))

    -- ---- the next access

    module _ (more : n < accesses) where
      abbrev next : Call
      next = access_of m (suc n)

      access-there : is_move m.old_hart m.old_file m.new_hart m.new_file (suc n) ≡ true
      access-there = move-there m g (suc n) (omega arith) more

      pub access-accepted : name_refusal next (board_in x) ≡ 0
      unfolding row_of
      access-accepted =
          numbers-name (row_of next).tests (board_in x)
          (and_both _ _ access-there (only-messages r.middle.only ∙ r.middle.messages)) refl refl

      pub beside-access : Beside (suc n) (after next x) y
      beside-access =
          let small : Small next = unfold row_of in tt in
          let moved = step_move (board_in x) r.ready.fit m.old_hart m.old_file m.new_hart
          m.new_file
          (suc n) access-there x.saved in
          record {
            ready = ready-after next x r.ready small;
            ready' = r.ready';
            middle =
                rw (
                  after-board next x r.ready access-accepted small,
                  after-saved next x r.ready access-accepted small,
                  moved,
                )
                (middle-access m g n (board_in x) (board_in y) x.saved r.ready.fit r.ready'.fit
                r.middle
                more);
          }

      -- it is done, and answers 0 and 0
      pub access-said : said_of (outcome_on next x) ≡ record { number = 0; value = 0; count = 0 }
      access-said =
          ap said_of (outcome-done next x.block x.log x.saved
          (ready-refusal next x r.ready ∙ access-accepted))
          ∙ ap (λ (s : Stepped). said_of (done_as s x.log))
          (step_move (board_in x) r.ready.fit m.old_hart m.old_file m.new_hart m.new_file (suc n)
          access-there x.saved)
