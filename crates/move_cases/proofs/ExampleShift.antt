-- The shift of specs/Example.antt, computed: its premises, what arrives where, and how it ends. No contract
-- cites this file. Assumes nothing.
use mathlib.Core.Path.{◌≡◌, refl, sym, ap, ◌∙◌}
use mathlib.Core.Bool.{true, false, false≢true}
use mathlib.Core.List.{List, ◌++◌}
use native.Mathlib.Omega.{arith}
use lib.ListN.{get_or}
use Rattle.words.specs.Bits.{put_bit}
use Rattle.file.specs.Top.{signals}
use Rattle.domain_delivery.specs.Delivery.{structure_signals}
use Rattle.domain_direct.specs.Direct.{signal_of}
use Rattle.domain_sending.specs.Sending.{logged}
use Rattle.board_block.specs.Block.{Board}
use Rattle.board_call.specs.declared.Call.{Call}
use Rattle.board_call.specs.declared.Call.TheVariants.{Top, Claim, Signals}
use Rattle.board_call.specs.Move as call
use Rattle.board_call.specs.Change.{signal_at, signals_to}
use Rattle.board_call.specs.Calls.{row_of}
use Rattle.board_call.specs.Outcome.{Stepped, step, Outcome, done_as}
use Rattle.board_call.specs.Refusal.{name_refusal}
use Rattle.board_call_laws.specs.Small.{Small}
use Rattle.board_call_laws.proofs.OutcomeEffects.{outcome-done}
use Rattle.board_runs.specs.Runs.{said_where, Lent, outcome_on, after, ran, handing}
use Rattle.board_runs.specs.Handed.{is_access}
use Rattle.board_runs.specs.Ready.{board_in, Ready}
use Rattle.board_runs.specs.Reading.{only_reads}
use Rattle.board_runs.proofs.RunsEffects.{ready-refusal, ready-ran, after-board}
use Rattle.move_laws.specs.Shift.{Event, elsewhere, with_move, without_move}
use Rattle.move_laws.specs.Premises.{TwoGuests, accesses_in, AllAccesses, PagesKept, CallsKept, Premises}
use Rattle.move_laws.specs.Moved.{old_in, new_in}
use Rattle.move_laws.proofs.ShiftEffects.{lent_from, move-done}
use Rattle.move_laws.proofs.EndEffects.{EventsSmall, small-with, small-without}
use Rattle.move_cases.specs.Board.{stations, stale, wired_to, board_with, lent}
use Rattle.move_cases.specs.Example.{start, early, edge_over, level_over, looked_on, late, shift, so_far}
use Rattle.move_cases.specs.Example.{claiming, over, rises, station_end, old_end, board_end, Example}
use Rattle.move_cases.proofs.BoardRun.{held_by, board_run}
use Rattle.move_cases.proofs.Starts.{block_tests, fresh_test, start_of, lent-ready, lent-messages}
use Rattle.move_cases.proofs.Starts.{lent-fresh, lent-started, lent-ran, good_old}

abbrev pub board : Board
board = board_with (wired_to 0 2)

-- ---- the premises

pub other : {A : Type 0} → false ≡ true → A
other e = absurd (false≢true e)

pub two-guests : TwoGuests stations
unfolding board_run
two-guests = record { old = refl; new = refl; different = refl }

late-pages : PagesKept stations 48 late
unfolding late PagesKept
late-pages = (
  (λ e. omega arith),
  other,
  ((λ e. omega arith), other, ((λ e. omega arith), other, ((λ e. omega arith), other, tt))),
)

example-premises : Premises stations start.block start.saved shift
unfolding start shift early edge_over level_over looked_on late AllAccesses accesses_in PagesKept CallsKept
    only_reads elsewhere fresh_test block_tests board_run
example-premises =
    record {
      started = lent-started board good_old 63;
      guests = two-guests;
      messages = lent-messages board good_old 63 refl;
      fresh = lent-fresh board good_old 63 stations refl;
      all = refl;
      pages = (
        other,
        (λ e. omega arith),
        ((λ e. omega arith), other, (other, (λ e. omega arith), (other, other, late-pages))),
      );
      calls = (refl, omega arith, (refl, tt, (refl, tt, tt)));
    }

-- ---- the run so far, and the rise of a wire after it

module _ (es : List Event) (small : EventsSmall es) where
  abbrev computed : call.Acted
  computed = board_run (with_move stations 0 es) (start_of board)

  so-far : held_by (so_far es) ≡ computed
  unfolding start
  so-far = lent-ran board good_old (with_move stations 0 es) (small-with stations es 0 small)

  -- what is read of the board
  seen : {A : Type 0} (t : Board → A) → t (board_in (so_far es)) ≡ t computed.board
  seen t = ap (λ (y : call.Acted). t y.board) so-far

  ready : Ready (so_far es)
  unfolding start
  ready =
      ready-ran (with_move stations 0 es) (lent board 63)
      (lent-ready board good_old) (small-with stations es 0 small)

module _ (es : List Event) (small : EventsSmall es) (c : Call) (still : Small c)
    (accepted : name_refusal c (board_in (so_far es)) ≡ 0) where
  abbrev next : Stepped
  next = step c (computed es small).board (computed es small).saved

  next-is : step c (board_in (so_far es)) (so_far es).saved ≡ next
  next-is = ap (λ (y : call.Acted). step c y.board y.saved) (so-far es small)

  next-outcome : outcome_on c (so_far es) ≡ done_as next (so_far es).log
  next-outcome =
      outcome-done c (so_far es).block (so_far es).log (so_far es).saved
      (ready-refusal c (so_far es) (ready es small) ∙ accepted)
      ∙ ap (λ (x : Stepped). done_as x (so_far es).log) next-is

  next-board : board_in (after c (so_far es)) ≡ next.board
  next-board =
      after-board c (so_far es) (ready es small) accepted still ∙ ap (λ (x : Stepped). x.board) next-is

-- ---- the end, with the move and without it

early-small : EventsSmall early
unfolding early EventsSmall
early-small = tt

edge-small : EventsSmall (early ++ edge_over)
unfolding early edge_over EventsSmall
edge-small = tt

claiming-small : EventsSmall claiming
unfolding early edge_over level_over EventsSmall row_of
claiming-small = (omega arith, tt)

over-small : EventsSmall over
unfolding early edge_over level_over looked_on EventsSmall row_of
over-small = (omega arith, (tt, (tt, tt)))

pub shift_small : EventsSmall shift
unfolding shift early edge_over level_over looked_on late EventsSmall row_of
shift_small = (omega arith, (tt, (tt, tt)))

ran-with : (computed shift shift_small).board ≡ board_end old_end station_end (wired_to 1 3)
unfolding shift early edge_over level_over looked_on late old_end station_end board_end with_move block_tests
    board_run
ran-with = refl

abbrev alone : call.Acted
alone = board_run (without_move stations shift) (start_of board)

ran-without : alone.board ≡ board_end station_end stale (wired_to 0 2)
unfolding shift early edge_over level_over looked_on late station_end board_end without_move block_tests
    board_run
ran-without = refl

without : held_by (ran (without_move stations shift) start) ≡ alone
unfolding start
without = lent-ran board good_old (without_move stations shift) (small-without stations shift shift_small)

-- ---- the example

pub start-ready : Ready start
unfolding start
start-ready = lent-ready board good_old

begins : lent_from start.block start.saved ≡ start
unfolding start lent
begins = refl

-- each equation that ends in refl computes
pub example : Example
unfolding shift early edge_over level_over looked_on late old_end station_end logged with_move row_of
    block_tests
    board_run signals_to signal_at signal_of structure_signals signals put_bit
example =
    record {
      premises = example-premises;
      early-old = seen early early-small (old_in stations) ∙ refl;
      early-new = seen early early-small (new_in stations) ∙ refl;
      edge_count =
          ap (λ (o : Outcome). o.count) (next-outcome (early ++ edge_over) edge-small (rises 1) tt refl)
          ∙ refl;
      edge-word =
          ap (λ (o : Outcome). get_or o.log 0 0)
          (next-outcome (early ++ edge_over) edge-small (rises 1) tt refl)
          ∙ refl;
      over-old = seen over over-small (old_in stations) ∙ refl;
      over-new = seen over over-small (new_in stations) ∙ refl;
      other-claim =
          ap (λ (o : Outcome). o.value) (next-outcome claiming claiming-small (Claim 0 3) tt refl) ∙ refl;
      level-count = ap (λ (o : Outcome). o.count) (next-outcome over over-small (rises 40) tt refl) ∙ refl;
      level-word =
          ap (λ (o : Outcome). get_or o.log 0 0) (next-outcome over over-small (rises 40) tt refl) ∙ refl;
      level-new = ap (new_in stations) (next-board over over-small (rises 40) tt refl) ∙ refl;
      done =
          ap (λ (x : Lent). said_where is_access (handing (with_move stations 0 shift) x) start.block)
          (sym begins)
          ∙ move-done stations start.block start.saved shift example-premises;
      ends = seen shift shift_small (λ b. b) ∙ ran-with;
      unmoved = ap (λ (y : call.Acted). y.board) without ∙ ran-without;
      top = ap (λ (o : Outcome). o.value) (next-outcome shift shift_small (Top 1 3) tt refl) ∙ refl;
      heard = ap (λ (o : Outcome). o.value) (next-outcome shift shift_small (Signals 1) tt refl) ∙ refl;
      silent = ap (λ (o : Outcome). o.value) (next-outcome shift shift_small (Signals 0) tt refl) ∙ refl;
    }
