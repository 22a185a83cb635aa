-- A move whose state breaks a rule, and one whose accesses are not given the saved numbers, computed. No
-- contract cites this file. Assumes nothing.
--   broken           the board of the examples, but with a delivery of 2 in old, which breaks a rule
--   forgetful c      the call c with a log of zeros, and zeros as the saved numbers
--   forget_run cs b  what such calls make of the board b, in order
use Prim.Native.Nat.{ℕ, zero, suc, ◌^◌}
use mathlib.Core.Path.{◌≡◌, refl, sym, ap, ◌∙◌}
use mathlib.Core.Bool.{true, false, false≢true}
use mathlib.Core.List.{List, [], ◌∷◌, map}
use native.Mathlib.Omega.{arith}
use lib.ListN.{length, replicate, length-replicate}
use Rattle.sizes.specs.Sizes.{block_size, log_size, saved_size}
use Rattle.words.specs.Sets.{member, WordsFit}
use Rattle.file.specs.declared.File.{File}
use Rattle.board_block.specs.Block.{Board, board_of, block_of, board_sound}
use Rattle.board_call.specs.declared.Call.{Call}
use Rattle.board_call.specs.Calls.{tests_rules, row_of}
use Rattle.board_call.specs.Move as call
use Rattle.board_call.proofs.RefusalLaws.{refused-rules, refused-blocks}
use Rattle.board_call_laws.specs.Fit.{SavedFit}
use Rattle.board_runs.specs.Runs.{Made, left_by, Lent, after, ran}
use Rattle.board_runs.specs.Handed.{LogsLong}
use Rattle.board_runs.specs.Ready.{board_in, Ready, AllSmall}
use Rattle.board_runs.proofs.RunsEffects.{after-refused, ready-after}
use Rattle.words.proofs.TestsLaws.{not_same}
use Rattle.move_laws.specs.Shift.{Stations, Event, access_of, with_move, without_move}
use Rattle.move_laws.specs.Shift.Event.{access}
use Rattle.move_laws.specs.Premises.{ByMessages, NoneNamesNew, accesses_in, AllAccesses, PagesKept, CallsKept}
use Rattle.move_laws.specs.Moved.{old_in, new_in}
use Rattle.move_laws.proofs.EndEffects.{EventsSmall, small-with}
use Rattle.move_cases.specs.Board.{stations, file_with, enabled, stale, wired_to, board_having, lent}
use Rattle.move_cases.specs.Needed.{LogLong, NeedsRules, NeedsHandedOn}
use Rattle.move_cases.proofs.BoardRun.{step_on, board_run, step-on}
use Rattle.move_cases.proofs.Starts.{all_below, below_each, block_tests, fresh_test, back-messages}
use Rattle.move_cases.proofs.Starts.{back-fresh, lent-ready, lent-started, good_old}
use Rattle.move_cases.proofs.ExampleShift.{board, two-guests}
use Rattle.move_cases.proofs.NeededShifts.{messages, fresh}

abbrev accesses_only : List Event
accesses_only = replicate 89 access

-- ---- every access is refused by the rules

abbrev broken : Board
broken = board_having (file_with 2 200 (5 ∷ []) enabled) stale (wired_to 0 2)

abbrev broken_start : Lent
broken_start = lent broken 63

broken-back : board_of (block_of broken) ≡ broken
unfolding block_tests
broken-back = refl

broken-long : length (block_of broken) ≡ block_size
unfolding block_tests
broken-long = refl

broken-words : all_below (2 ^ 32) (block_of broken) ≡ true
unfolding block_tests
broken-words = refl

broken-rules : board_sound (board_of (block_of broken)) ≡ false
unfolding block_tests
broken-rules = ap board_sound broken-back ∙ refl

-- accesses leave such a state as it is
refused-accesses : (m : Stations) (n k : ℕ) (x : Lent) → length x.block ≡ block_size → length x.log ≡ 63
    → board_sound (board_in x) ≡ false → ran (with_move m n (replicate k access)) x ≡ x
unfolding ran with_move row_of
refused-accesses m n zero x long full bad = refl
refused-accesses m n (suc k) x long full bad =
    let c = access_of m (suc n) in
    let three = refused-rules (tests_rules c) x.block x.log long full refl bad in
    let no = refused-blocks (row_of c).tests x.block x.log 3 (sym three) (λ e. omega arith) in
    ap (ran (with_move m (suc n) (replicate k access))) (after-refused c x (λ e. omega arith))
    ∙ refused-accesses m (suc n) k x long full bad

stays : board_in (ran (with_move stations 0 accesses_only) broken_start) ≡ broken
unfolding lent
stays =
    ap board_in (refused-accesses stations 0 89 broken_start broken-long (length-replicate {A = ℕ} 63 0)
    broken-rules)
    ∙ broken-back

unmoved : board_in (ran (without_move stations accesses_only) broken_start) ≡ broken
unfolding lent without_move ran
unmoved = broken-back

broken-messages : ByMessages broken_start.block
unfolding block_tests
broken-messages = back-messages broken broken-back 63 refl

broken-fresh : NoneNamesNew stations broken_start.block
unfolding fresh_test block_tests board_run
broken-fresh = back-fresh broken broken-back 63 stations refl

pub needs-rules : NeedsRules
unfolding NeedsRules AllAccesses accesses_in PagesKept CallsKept LogLong lent WordsFit block_tests
needs-rules =
    record {
      m = stations;
      x = broken_start;
      es = accesses_only;
      meets = (
        record {
          block = broken-long;
          words = below_each (2 ^ 32) (block_of broken) (omega arith) broken-words;
          saved-long = refl;
          saved-fit = below_each (2 ^ 64) (replicate saved_size 0) (omega arith) refl;
        },
        refl,
        two-guests,
        broken-messages,
        broken-fresh,
        refl,
        tt,
        tt,
      );
      breaks = λ e. false≢true
          (ap (λ (f : File). member f.pending 5)
          (ap (new_in stations) (sym stays) ∙ e.station ∙ ap (old_in stations) unmoved));
    }

-- ---- each access is given zeros

abbrev zeros : List ℕ
zeros = replicate saved_size 0

abbrev forgetful : Call → Made
forgetful c = record { call = c; log = replicate log_size 0; saved = zeros }

unfoldable forget_run : List Call → Board → Board
unfolding step_on board_run
forget_run [] b = b
forget_run (c ∷ cs) b = forget_run cs (step_on c (record { board = b; saved = zeros })).board

zeros-fit : SavedFit zeros
unfolding block_tests
zeros-fit = below_each (2 ^ 64) zeros (omega arith) refl

forgotten : (cs : List Call) (l : List ℕ) → AllSmall cs
    → Ready (record { block = l; log = replicate log_size 0; saved = zeros })
    → board_of (left_by (map forgetful cs) l) ≡ forget_run cs (board_of l)
unfolding left_by forget_run after
forgotten [] l small ready = refl
forgotten (c ∷ cs) l small ready =
    let x : Lent = record { block = l; log = replicate log_size 0; saved = zeros } in
    let next = ready-after c x ready small.0 in
    forgotten cs (after c x).block small.1
    (record {
      long = next.long;
      full = length-replicate {A = ℕ} log_size 0;
      fit = next.fit;
      saved = zeros-fit;
    })
    ∙ ap (λ (y : call.Acted). forget_run cs y.board) (step-on c x ready small.0)

forgetful-calls : (cs : List Call) → map (λ m. m.call) (map forgetful cs) ≡ cs
forgetful-calls [] = refl
forgetful-calls (c ∷ cs) = ap (λ (ds : List Call). c ∷ ds) (forgetful-calls cs)

forgetful-logs : (cs : List Call) → LogsLong (map forgetful cs)
unfolding LogsLong
forgetful-logs [] = tt
forgetful-logs (c ∷ cs) = (length-replicate {A = ℕ} log_size 0, forgetful-logs cs)

abbrev block : List ℕ
block = (lent board 63).block

only-small : EventsSmall accesses_only
unfolding EventsSmall
only-small = tt

forgot : board_of (left_by (map forgetful (with_move stations 0 accesses_only)) block)
    ≡ forget_run (with_move stations 0 accesses_only) board
unfolding lent
forgot =
    forgotten (with_move stations 0 accesses_only) block (small-with stations accesses_only 0 only-small)
    (lent-ready board good_old)
    ∙ ap (forget_run (with_move stations 0 accesses_only)) good_old.back

lost : member (new_in stations (forget_run (with_move stations 0 accesses_only) board)).pending 5 ≡ false
unfolding with_move block_tests board_run forget_run
lost = refl

kept : member (old_in stations board).pending 5 ≡ true
unfolding block_tests board_run
kept = refl

pub needs-handed-on : NeedsHandedOn
unfolding AllAccesses accesses_in PagesKept CallsKept without_move left_by LogsLong lent
needs-handed-on =
    record {
      m = stations;
      l = block;
      s = zeros;
      es = accesses_only;
      ms = map forgetful (with_move stations 0 accesses_only);
      ns = [];
      premises =
          record {
            started = lent-started board good_old 63;
            guests = two-guests;
            messages = messages;
            fresh = fresh;
            all = refl;
            pages = tt;
            calls = tt;
          };
      with =
          record {
            calls = forgetful-calls (with_move stations 0 accesses_only);
            logs = forgetful-logs (with_move stations 0 accesses_only);
          };
      without = record { calls = refl; logs = tt };
      breaks = λ e. not_same _ kept
          (sym (ap (λ (b : Board). member (old_in stations b).pending 5) good_old.back)
          ∙ ap (λ (f : File). member f.pending 5) (sym e.station)
          ∙ ap (λ (b : Board). member (new_in stations b).pending 5) forgot ∙ lost);
    }
