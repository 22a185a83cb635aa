-- For each call that a move does not let in a shift with it that does not end as it should, computed. No
-- contract cites this file. Assumes nothing.
--   alike    the board of the examples, but that new has identity 5 enabled, and nothing pending
use mathlib.Core.Path.{◌≡◌, refl}
use mathlib.Core.Bool.{Bool, true, false, not}
use mathlib.Core.List.{List, [], ◌∷◌, ◌++◌}
use mathlib.Core.Logic.{inr}
use native.Mathlib.Omega.{arith}
use lib.ListN.{replicate}
use Rattle.words.specs.Sets.{member}
use Rattle.words.specs.Every.{every}
use Rattle.file.specs.declared.File.{File}
use Rattle.source.specs.Pending as source
use Rattle.domain.specs.Domain.{by_messages, with_domaincfg, with_genmsi}
use Rattle.domain_domaincfg.specs.Domaincfg.{redelivered_at, redelivered_from, mode_settled}
use Rattle.domain_domaincfg.specs.Domaincfg.{domaincfg_written}
use Rattle.board_block.specs.Block.{Board}
use Rattle.board_call.specs.declared.Call.{Call}
use Rattle.board_call.specs.declared.Call.TheVariants.{Reset, DomainWrite, Register, Claim, Move}
use Rattle.board_call.specs.Calls.{row_of}
use Rattle.move_laws.specs.Shift.{Stations, Event, with_move, without_move}
use Rattle.move_laws.specs.Shift.Event.{wire, page, access, call}
use Rattle.move_laws.specs.Premises.{accesses_in, AllAccesses, PagesKept}
use Rattle.move_laws.specs.Moved.{old_in, new_in}
use Rattle.move_laws.proofs.EndEffects.{EventsSmall}
use Rattle.move_cases.specs.Board.{stations, station, file_with, board_having, wired_to, lent}
use Rattle.move_cases.specs.Needed.{LogLong, Besides, on_old, station_there, Letting, NeedsNoClaimOld}
use Rattle.move_cases.specs.Needed.{NeedsNoClaimNew, NeedsNoWriteOld, NeedsNoWriteNew, NeedsNoTarget}
use Rattle.move_cases.specs.Needed.{NeedsNoDomaincfg, NeedsNoOtherMove, NeedsNoReset}
use Rattle.move_cases.proofs.BoardRun.{board_run}
use Rattle.move_cases.proofs.Starts.{Good, block_tests, fresh_test, start_of, lent-started, lent-messages}
use Rattle.move_cases.proofs.Starts.{lent-fresh, lent-differs, good_old}
use Rattle.move_cases.proofs.ExampleShift.{board, other, two-guests}

abbrev alike : Board
alike = board_having station (file_with 1 9 [] (5 ∷ [])) (wired_to 0 2)

good-alike : Good alike
unfolding block_tests
good-alike = record { back = refl; tests = refl }

-- ---- a shift that is computed, with the call d in it

module _ (d : Stations → Call) (b : Board) (good : Good b) (messages : by_messages b.wired.child ≡ true)
    (fresh : every (fresh_test stations b) 1 63 ≡ true) (es : List Event) (all : AllAccesses es)
    (pages : PagesKept stations 0 es) (besides : Besides (d stations) stations 0 es)
    (small : EventsSmall es) (small' : EventsSmall (station_there stations es)) (t : File → Bool) where
  abbrev ends : List Call → Board
  ends cs = (board_run cs (start_of b)).board

  letting : t (new_in stations (ends (with_move stations 0 es))) ≡ false
      → t (old_in stations (ends (without_move stations (station_there stations es)))) ≡ true → Letting d
  unfolding LogLong lent
  letting lost kept =
      record {
        m = stations;
        x = lent b 63;
        es = es;
        started = lent-started b good 63;
        log = refl;
        guests = two-guests;
        messages = lent-messages b good 63 messages;
        fresh = lent-fresh b good 63 stations fresh;
        all = all;
        pages = pages;
        besides = besides;
        breaks = lent-differs b good stations es (station_there stations es) small small' t lost kept;
      }

-- ---- access 72 has read identity 5: the claim takes it from old, and new gets it again

abbrev claimed_old : List Event
claimed_old = replicate 72 access ++ (call (Claim 0 2) ∷ replicate 17 access)

pub needs-no-claim-old : NeedsNoClaimOld
unfolding NeedsNoClaimOld AllAccesses accesses_in PagesKept Besides on_old station_there EventsSmall row_of
    with_move without_move fresh_test block_tests board_run
needs-no-claim-old =
    letting _ board good_old refl refl claimed_old refl tt (inr (refl, omega arith, omega arith), tt, tt)
    (tt, tt) (tt, tt) (λ f. not (member f.pending 5)) refl refl

-- ---- identity 5 is pending in both: the claim takes it from new, and access 80 sets it there again

abbrev claimed_new : List Event
claimed_new = replicate 8 access ++ (page 1 3 0 5 ∷ call (Claim 1 3) ∷ replicate 81 access)

pub needs-no-claim-new : NeedsNoClaimNew
unfolding NeedsNoClaimNew AllAccesses accesses_in PagesKept Besides on_old station_there EventsSmall row_of
    with_move without_move fresh_test block_tests board_run
needs-no-claim-new =
    letting _ alike good-alike refl refl claimed_new refl
    ((λ e. omega arith), other, tt) (inr (refl, omega arith, omega arith), tt, tt)
    (tt, tt) (tt, tt) (λ f. not (member f.pending 5)) refl refl

-- ---- access 76 has read the enable bits that are then cleared in old

abbrev written_old : List Event
written_old = replicate 76 access ++ (call (Register 0 2 1 0xC0 0) ∷ replicate 13 access)

pub needs-no-write-old : NeedsNoWriteOld
unfolding NeedsNoWriteOld AllAccesses accesses_in PagesKept Besides on_old station_there EventsSmall row_of
    with_move without_move fresh_test block_tests board_run
needs-no-write-old =
    letting _ board good_old refl refl written_old refl
    tt (inr (refl, omega arith, omega arith), omega arith, tt)
    (omega arith, tt) (omega arith, tt) (λ f. not (member f.enable 5)) refl refl

-- ---- the enable bits are cleared in new before access 84 writes there those that old had

abbrev written_new : List Event
written_new = replicate 80 access ++ (call (Register 1 3 1 0xC0 0) ∷ replicate 9 access)

pub needs-no-write-new : NeedsNoWriteNew
unfolding NeedsNoWriteNew AllAccesses accesses_in PagesKept Besides on_old station_there EventsSmall row_of
    with_move without_move fresh_test block_tests board_run
needs-no-write-new =
    letting _ board good_old refl refl written_new refl
    tt (inr (refl, omega arith, omega arith), omega arith, tt)
    (omega arith, tt) (omega arith, tt) (λ f. not (member f.enable 5)) refl refl

-- ---- the target names old again, and so does not follow the station

abbrev target_written : List Event
target_written =
    replicate 9 access ++ (call (DomainWrite 1 0x3004 0x1007) ∷ replicate 80 access) ++ (wire 1 1 ∷ [])

pub needs-no-target : NeedsNoTarget
unfolding NeedsNoTarget AllAccesses accesses_in PagesKept Besides on_old station_there EventsSmall row_of
    with_move without_move fresh_test block_tests board_run
needs-no-target =
    letting _ board good_old refl refl target_written refl tt (inr (refl, omega arith, omega arith), tt, tt)
    (tt, tt) (tt, tt) (λ f. member f.pending 7) refl refl

-- ---- the accesses after the child's mode changed are refused, and identity 9 stays in old

abbrev made_direct : List Event
made_direct = replicate 40 access ++ (call (DomainWrite 1 0 0) ∷ page 0 2 0 9 ∷ replicate 49 access)

pub needs-no-domaincfg : NeedsNoDomaincfg
unfolding NeedsNoDomaincfg AllAccesses accesses_in PagesKept Besides on_old station_there EventsSmall row_of
    domaincfg_written mode_settled redelivered_from redelivered_at source.redelivered with_domaincfg
    with_genmsi
    with_move without_move fresh_test block_tests board_run
needs-no-domaincfg =
    letting _ board good_old refl refl made_direct refl
    (other, (λ e. omega arith), tt) (inr (refl, omega arith, omega arith), tt, tt)
    (tt, tt) (tt, tt) (λ f. member f.pending 9) refl refl

-- ---- access 80 has set identity 5 in new, and the other move clears it there

abbrev moved_besides : List Event
moved_besides = replicate 80 access ++ (call (Move 2 2 1 3 5) ∷ replicate 9 access)

pub needs-no-other-move : NeedsNoOtherMove
unfolding NeedsNoOtherMove AllAccesses accesses_in PagesKept Besides on_old station_there EventsSmall row_of
    with_move without_move fresh_test block_tests board_run
needs-no-other-move =
    letting _ board good_old refl refl moved_besides refl tt (inr (refl, omega arith, omega arith), tt, tt)
    (tt, tt) (tt, tt) (λ f. member f.pending 5) refl refl

-- ---- the accesses after a reset are refused, and identity 9 stays in old

abbrev was_reset : List Event
was_reset = replicate 40 access ++ (call Reset ∷ page 0 2 0 9 ∷ replicate 49 access)

pub needs-no-reset : NeedsNoReset
unfolding NeedsNoReset AllAccesses accesses_in PagesKept Besides on_old station_there EventsSmall row_of
    with_move without_move fresh_test block_tests board_run
needs-no-reset =
    letting _ board good_old refl refl was_reset refl
    (other, (λ e. omega arith), tt) (inr (refl, omega arith, omega arith), tt, tt)
    (tt, tt) (tt, tt) (λ f. member f.pending 9) refl refl
