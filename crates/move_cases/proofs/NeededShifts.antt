-- For each premise of a move a shift that meets the others and does not end as it should, computed. No
-- contract cites this file. Assumes nothing.
use Prim.Native.Nat.{ℕ, suc}
use mathlib.Core.Path.{◌≡◌, refl, sym, ap, ◌∙◌}
use mathlib.Core.Bool.{not, false≢true}
use mathlib.Core.List.{List, [], ◌∷◌, ◌++◌}
use mathlib.Core.Logic.{◌≢◌, ◌↔◌}
use native.Mathlib.Omega.{arith}
use lib.Dec.{eqb}
use lib.ListN.{length, replicate}
use Rattle.sizes.specs.Sizes.{block_size}
use Rattle.words.specs.Sets.{member}
use Rattle.file.specs.declared.File.{File}
use Rattle.board_block.specs.Block.{Board}
use Rattle.board_block.specs.Start.{start_board}
use Rattle.board_call.specs.declared.Call.{Call}
use Rattle.board_call.specs.Calls.{tests_rules, row_of}
use Rattle.board_call.proofs.RefusalLaws.{refused-log, refused-blocks}
use Rattle.board_runs.specs.Runs.{Lent, ran}
use Rattle.board_runs.specs.Ready.{board_in}
use Rattle.board_runs.proofs.RunsEffects.{after-refused}
use Rattle.move_laws.specs.Shift.{Stations, Event, with_move, without_move}
use Rattle.move_laws.specs.Shift.Event.{wire, page, access, call}
use Rattle.move_laws.specs.Premises.{ByMessages, NoneNamesNew, accesses_in, AllAccesses, PagesKept}
use Rattle.move_laws.specs.Premises.{CallsKept}
use Rattle.move_laws.specs.Moved.{old_in, new_in}
use Rattle.move_laws.proofs.EndEffects.{EventsSmall}
use Rattle.move_cases.specs.Board.{stations, wired_to, board_with, lent}
use Rattle.move_cases.specs.Needed.{LogLong, PagesWithin, NeedsAll, NeedsPagesNew}
use Rattle.move_cases.specs.Needed.{NeedsPagesOld, NeedsFresh, NeedsMessages, NeedsGuestOld}
use Rattle.move_cases.specs.Needed.{NeedsGuestNew, NeedsLogLong}
use Rattle.move_cases.proofs.BoardRun.{board_run}
use Rattle.move_cases.proofs.Starts.{block_tests, fresh_test, lent-board, lent-messages, lent-fresh}
use Rattle.move_cases.proofs.Starts.{lent-started, lent-breaks, good_old, good_new}
use Rattle.move_cases.proofs.Starts.{good-direct}
use Rattle.move_cases.proofs.ExampleShift.{board, other, two-guests}

-- ---- the bounds of the pages are 8 and 72

pub pages-are : (m : Stations) (n : ℕ) (es : List Event) → PagesKept m n es ↔ PagesWithin 8 72 m n es
unfolding PagesWithin PagesKept
pages-are m n es = (to n es, back n es)
  where
    to : (n : ℕ) (es : List Event) → PagesKept m n es → PagesWithin 8 72 m n es
    to n [] p = tt
    to n (wire i level ∷ es) p = to n es p
    to n (page h f a v ∷ es) p = (p.0, p.1, to n es p.2)
    to n (access ∷ es) p = to (suc n) es p
    to n (call c ∷ es) p = to n es p

    back : (n : ℕ) (es : List Event) → PagesWithin 8 72 m n es → PagesKept m n es
    back n [] p = tt
    back n (wire i level ∷ es) p = back n es p
    back n (page h f a v ∷ es) p = (p.0, p.1, back n es p.2)
    back n (access ∷ es) p = back (suc n) es p
    back n (call c ∷ es) p = back n es p

-- ---- what the start of the example meets

abbrev pub start : Lent
start = lent board 63

pub messages : ByMessages start.block
unfolding block_tests
messages = lent-messages board good_old 63 refl

pub fresh : NoneNamesNew stations start.block
unfolding fresh_test block_tests board_run
fresh = lent-fresh board good_old 63 stations refl

-- ---- old signals, and new does not signal again before access 89

pub needs-all : NeedsAll
unfolding NeedsAll accesses_in PagesKept CallsKept LogLong lent EventsSmall with_move without_move block_tests
    board_run
needs-all =
    record {
      m = stations;
      x = start;
      es = replicate 88 access;
      meets = (lent-started board good_old 63, refl, two-guests, messages, fresh, refl, tt, tt);
      breaks = lent-breaks board good_old stations (replicate 88 access) tt (λ f. eqb f.delivery 1) refl
          refl;
    }

-- ---- access 8 clears identity 200 in new

abbrev too_early : List Event
too_early = replicate 7 access ++ (page 1 3 0 200 ∷ replicate 82 access)

pub needs-pages-new : NeedsPagesNew
unfolding NeedsPagesNew AllAccesses accesses_in PagesWithin CallsKept LogLong lent EventsSmall with_move
    without_move block_tests board_run
needs-pages-new =
    record {
      m = stations;
      x = start;
      es = too_early;
      meets = (
        lent-started board good_old 63,
        refl,
        two-guests,
        messages,
        fresh,
        refl,
        ((λ e. omega arith), other, tt),
        tt,
      );
      breaks = lent-breaks board good_old stations too_early tt (λ f. member f.pending 200) refl refl;
    }

-- ---- access 72 has read identity 3 in old

abbrev too_late : List Event
too_late = replicate 72 access ++ (page 0 2 0 3 ∷ replicate 17 access)

pub needs-pages-old : NeedsPagesOld
unfolding NeedsPagesOld AllAccesses accesses_in PagesWithin CallsKept LogLong lent EventsSmall with_move
    without_move block_tests board_run
needs-pages-old =
    record {
      m = stations;
      x = start;
      es = too_late;
      meets = (
        lent-started board good_old 63,
        refl,
        two-guests,
        messages,
        fresh,
        refl,
        (other, (λ e. omega arith), tt),
        tt,
      );
      breaks = lent-breaks board good_old stations too_late tt (λ f. member f.pending 3) refl refl;
    }

-- ---- new has got identity 7, which was never sent to old

abbrev naming_new : Board
naming_new = board_with (wired_to 1 3)

abbrev sent_to_new : List Event
sent_to_new = replicate 8 access ++ (wire 1 1 ∷ replicate 81 access)

pub needs-fresh : NeedsFresh
unfolding NeedsFresh AllAccesses accesses_in PagesKept CallsKept LogLong lent EventsSmall with_move
    without_move
    block_tests board_run
needs-fresh =
    record {
      m = stations;
      x = lent naming_new 63;
      es = sent_to_new;
      meets = (
        lent-started naming_new good_new 63,
        refl,
        two-guests,
        lent-messages naming_new good_new 63 refl,
        refl,
        tt,
        tt,
      );
      breaks = lent-breaks naming_new good_new stations sent_to_new tt (λ f. not (member f.pending 7)) refl
          refl;
    }

-- ---- every access is refused, and identity 5 stays in old

abbrev accesses_only : List Event
accesses_only = replicate 89 access

abbrev direct : Board
direct = board_with start_board.wired

pub needs-messages : NeedsMessages
unfolding NeedsMessages AllAccesses accesses_in PagesKept CallsKept LogLong lent EventsSmall with_move
    without_move fresh_test block_tests board_run
needs-messages =
    record {
      m = stations;
      x = lent direct 63;
      es = accesses_only;
      meets = (
        lent-started direct good-direct 63,
        refl,
        two-guests,
        lent-fresh direct good-direct 63 stations refl,
        refl,
        tt,
        tt,
      );
      breaks = lent-breaks direct good-direct stations accesses_only tt (λ f. member f.pending 5) refl refl;
    }

-- ---- every access is refused, and identity 3 stays in old, the supervisor's file

abbrev from_file_one : Stations
from_file_one = record { old_hart = 0; old_file = 1; new_hart = 1; new_file = 3 }

abbrev supervised : List Event
supervised = page 0 1 0 3 ∷ accesses_only

pub needs-guest-old : NeedsGuestOld
unfolding NeedsGuestOld AllAccesses accesses_in PagesKept CallsKept LogLong lent EventsSmall with_move
    without_move fresh_test block_tests board_run
needs-guest-old =
    record {
      m = from_file_one;
      x = start;
      es = supervised;
      meets = (
        lent-started board good_old 63,
        refl,
        record { old = refl; new = refl; different = refl },
        messages,
        lent-fresh board good_old 63 from_file_one refl,
        refl,
        (other, (λ e. omega arith), tt),
        tt,
      );
      breaks = lent-breaks board good_old from_file_one supervised tt (λ f. member f.pending 3) refl refl;
    }

-- ---- every access is refused, and new, the supervisor's file, has not got identity 5

abbrev to_file_one : Stations
to_file_one = record { old_hart = 0; old_file = 2; new_hart = 1; new_file = 1 }

pub needs-guest-new : NeedsGuestNew
unfolding NeedsGuestNew AllAccesses accesses_in PagesKept CallsKept LogLong lent EventsSmall with_move
    without_move fresh_test block_tests board_run
needs-guest-new =
    record {
      m = to_file_one;
      x = start;
      es = accesses_only;
      meets = (
        lent-started board good_old 63,
        refl,
        record { old = refl; new = refl; different = refl },
        messages,
        lent-fresh board good_old 63 to_file_one refl,
        refl,
        tt,
        tt,
      );
      breaks = lent-breaks board good_old to_file_one accesses_only tt (λ f. member f.pending 5) refl refl;
    }

-- ---- every call is refused

-- a log of another length than 63
refused-ran : (cs : List Call) (x : Lent) → length x.block ≡ block_size → length x.log ≢ 63
    → ran cs x ≡ x
unfolding ran
refused-ran [] x long short = refl
refused-ran (c ∷ cs) x long short =
    let two = refused-log (tests_rules c) x.block x.log long short in
    let no = refused-blocks (row_of c).tests x.block x.log 2 (sym two) (λ e. omega arith) in
    ap (ran cs) (after-refused c x (λ e. omega arith)) ∙ refused-ran cs x long short

abbrev short_log : Lent
short_log = lent board 62

stays : (cs : List Call) → board_in (ran cs short_log) ≡ board
unfolding lent
stays cs =
    ap board_in (refused-ran cs short_log (lent-started board good_old 62).block (λ e. omega arith))
    ∙ lent-board board good_old 62

pub needs-log-long : NeedsLogLong
unfolding NeedsLogLong AllAccesses accesses_in PagesKept CallsKept LogLong lent EventsSmall fresh_test
    block_tests board_run
needs-log-long =
    record {
      m = stations;
      x = short_log;
      es = accesses_only;
      meets = (
        lent-started board good_old 62,
        two-guests,
        lent-messages board good_old 62 refl,
        lent-fresh board good_old 62 stations refl,
        refl,
        tt,
        tt,
      );
      breaks = λ e. false≢true
          (ap (λ (f : File). member f.pending 5)
          (ap (new_in stations) (sym (stays _)) ∙ e.station ∙ ap (old_in stations) (stays _)));
    }
