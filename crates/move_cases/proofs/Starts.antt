-- The starts that are given in full meet what Started and NoneNamesNew ask, by tests that compute; and what
-- is then known of the runs from them. No contract cites this file. Assumes nothing.
--   all_below n ws      each of the numbers ws is below n
--   block_tests b       the block of b has 650 words of 32 bits, and b keeps the state rules
--   fresh_test m b i    source i of the child is not active, or does not name new
--   start_of b          the board b, and ten zeros as the saved numbers
--   Good b              b passes block_tests, and is the board of its block
-- To unfold block_tests is to unfold all that the state rules compute with, and the words of a board.
use Prim.Native.Nat.{ℕ, zero, suc, ◌^◌, ◌<◌}
use mathlib.Core.Path.{◌≡◌, refl, sym, ap, ◌∙◌}
use mathlib.Core.Bool.{Bool, true, false, not, ◌&&◌, false≢true}
use mathlib.Core.List.{List, [], ◌∷◌}
use native.Mathlib.Omega.{arith}
use lib.Dec.{eqb, ltb}
use lib.ListN.{length, get_or, replicate}
use borrow.Author.Tests.{ltb-true, eqb-true}
use Rattle.words.specs.Bits.{bit_of, has_bit, with_bit}
use Rattle.words.specs.Sets.{member, insert, WordsFit}
use Rattle.words.specs.Parts.{field_of, packed}
use Rattle.words.specs.Every.{every}
use Rattle.words.proofs.TestsLaws.{and_first, and_second, not_same}
use Rattle.words.proofs.EveryLaws.{every-each}
use Rattle.file_select.specs.Deliveries.{delivery_legal}
use Rattle.file.specs.declared.File.{File}
use Rattle.file.specs.Rules as file
use Rattle.file_words.specs.Stored.{file_words, file_at}
use Rattle.files.specs.Files.{file_number, is_guest, files_from, files_of, words_of, the_file, with_file}
use Rattle.files.specs.Files.{sound_at}
use Rattle.files.specs.Files.{files_sound}
use Rattle.source_mode.specs.Mode.{is_active, is_level, is_rectified, kept_mode, source_word}
use Rattle.source_target.specs.Target.{hart_of, guest_of, number_of, receiver_of, kept_target}
use Rattle.domain_genmsi.specs.Genmsi.{kept_genmsi}
use Rattle.domain_delivery.specs.Delivery.{delivery_sound}
use Rattle.domain.specs.Domain.{domain_of, domaincfg_of, is_enabled, by_messages, genmsi_of}
use Rattle.domain.specs.Slot.{source_at}
use Rattle.domain.specs.Structure.{structure_at}
use Rattle.domain_domaincfg.specs.Domaincfg.{kept_domaincfg}
use Rattle.wired_state.specs.Wires.{wired_of, is_delegated}
use Rattle.source_rules.specs.SourceRules.{mode_range, target_range, inactive_rule, level_rule, source_steady}
use Rattle.source.specs.Pending.{candidate}
use Rattle.source_rules.specs.SourceRules.{sent_rule, source_sound}
use Rattle.wired_rules.specs.Rules.{domaincfg_range, genmsi_range, structure_range, source_zero_rule}
use Rattle.wired_rules.specs.Rules.{genmsi_rule}
use Rattle.wired_rules.specs.Rules.{source_rule, domain_sound, delegated_rule, wired_sound}
use Rattle.board_move_steps.specs.Names.{names_file, renamed}
use Rattle.sizes.specs.Sizes.{block_size, log_size, saved_size}
use Rattle.board_block.specs.Block.{Board, board_of, domain_words, wired_words, block_of, board_sound}
use Rattle.board_block.specs.Start.{start_file, start_files_from, start_domain, start_board}
use Rattle.board_call.specs.declared.Call.{Call}
use Rattle.board_call.specs.Move as call
use Rattle.board_call_laws.proofs.FitEffects.{fit-block}
use Rattle.board_runs.specs.Runs.{Lent, ran}
use Rattle.board_runs.specs.Ready.{board_in, Ready, AllSmall}
use Rattle.move_laws.specs.Shift.{Stations, Event, with_move, without_move}
use Rattle.move_laws.specs.Premises.{Started, ByMessages, NoneNamesNew}
use Rattle.move_laws.specs.Moved.{old_in, new_in, Moved}
use Rattle.move_cases.specs.Board.{holding, station, stale, machine_domain, child_to, wired_to}
use Rattle.move_cases.specs.Board.{board_having, board_with, lent}
use Rattle.move_laws.proofs.EndEffects.{EventsSmall, small-with, small-without}
use Rattle.move_cases.proofs.BoardRun.{held_by, board_run, board-run}

-- ---- the tests

unfoldable pub all_below : ℕ → List ℕ → Bool
all_below n [] = true
all_below n (w ∷ ws) = ltb w n && all_below n ws

pub below_each : (n : ℕ) (ws : List ℕ) → 0 < n → all_below n ws ≡ true → (k : ℕ) → get_or ws k 0 < n
unfolding all_below
below_each n [] h e k = h
below_each n (w ∷ ws) h e zero = ltb-true w n (and_first (ltb w n) (all_below n ws) e)
below_each n (w ∷ ws) h e (suc k) = below_each n ws h (and_second (ltb w n) (all_below n ws) e) k

unfoldable pub block_tests : Board → Bool
unfolding all_below every words_of file_words domain_words wired_words block_of file.file_sound
    file.delivery_rule
    file.threshold_rule file.zero_rule sound_at files_sound kept_mode source_word kept_genmsi delivery_sound
    genmsi_of structure_at kept_domaincfg is_delegated mode_range target_range inactive_rule level_rule
    source_steady
    sent_rule candidate source_sound domaincfg_range genmsi_range structure_range source_zero_rule genmsi_rule
    source_rule domain_sound delegated_rule wired_sound board_sound source_at domaincfg_of is_enabled
    by_messages
    hart_of guest_of number_of receiver_of kept_target is_active is_level is_rectified is_guest the_file
    delivery_legal
    field_of packed member bit_of has_bit start_file start_files_from start_domain start_board renamed
    file_number
    with_file insert with_bit holding station stale machine_domain child_to wired_to board_having board_with
    board_of
    files_of files_from file_at wired_of domain_of
block_tests b = eqb (length (block_of b)) block_size && all_below (2 ^ 32) (block_of b) && board_sound b

unfoldable pub fresh_test : Stations → Board → ℕ → Bool
fresh_test m b i =
    let s = source_at b.wired.child i in
    not (is_active s.mode && names_file s.target m.new_hart m.new_file)

barred : (p q : Bool) → not (p && q) ≡ true → p ≡ true → q ≡ false
barred true true e h = absurd (false≢true e)
barred true false e h = refl
barred false q e h = absurd (false≢true h)

-- ---- what is lent, where the board of its block is the board that it was made of

abbrev pub start_of : Board → call.Acted
start_of b = record { board = b; saved = replicate saved_size 0 }

pub ready-started : (x : Lent) → Started x.block x.saved → length x.log ≡ log_size → Ready x
ready-started x s full =
    record {
      long = s.block;
      full = full;
      fit = fit-block x.block s.block s.words s.rules;
      saved = s.saved-fit;
    }

pub record Good (b : Board) : Type 0 where
  pub back : board_of (block_of b) ≡ b
  pub tests : block_tests b ≡ true

module _ (b : Board) (back : board_of (block_of b) ≡ b) (n : ℕ) where
  pub back-messages : by_messages b.wired.child ≡ true → ByMessages (lent b n).block
  unfolding ByMessages lent
  back-messages e = rw back e

  pub back-fresh : (m : Stations) → every (fresh_test m b) 1 63 ≡ true → NoneNamesNew m (lent b n).block
  unfolding NoneNamesNew fresh_test lent
  back-fresh m e i l h = rw back (barred _ _ (every-each (fresh_test m b) 1 63 e i l (omega arith)))

module _ (b : Board) (good : Good b) (n : ℕ) where
  pub lent-board : board_in (lent b n) ≡ b
  unfolding lent
  lent-board = good.back

  pub lent-messages : by_messages b.wired.child ≡ true → ByMessages (lent b n).block
  lent-messages = back-messages b good.back n

  pub lent-fresh : (m : Stations) → every (fresh_test m b) 1 63 ≡ true → NoneNamesNew m (lent b n).block
  lent-fresh = back-fresh b good.back n

  pub lent-started : Started (lent b n).block (lent b n).saved
  unfolding lent block_tests WordsFit
  lent-started =
      let long : Bool = eqb (length (block_of b)) block_size in
      let fit : Bool = all_below (2 ^ 32) (block_of b) in
      let both = and_first (long && fit) (board_sound b) good.tests in
      record {
        block = eqb-true (length (block_of b)) block_size (and_first long fit both);
        words = below_each (2 ^ 32) (block_of b) (omega arith) (and_second long fit both);
        rules = ap board_sound good.back ∙ and_second (long && fit) (board_sound b) good.tests;
        saved-long = refl;
        saved-fit = below_each (2 ^ 64) (replicate saved_size 0) (omega arith) refl;
      }

module _ (b : Board) (good : Good b) where
  pub lent-ready : Ready (lent b 63)
  unfolding lent
  lent-ready = ready-started (lent b 63) (lent-started b good 63) refl

  -- what calls leave of it
  pub lent-ran : (cs : List Call) → AllSmall cs → held_by (ran cs (lent b 63)) ≡ board_run cs (start_of b)
  unfolding lent
  lent-ran cs small =
      board-run cs (lent b 63) lent-ready small
      ∙ ap (λ (c : Board). board_run cs (start_of c)) good.back

  -- a shift that ends with another file, by a test of both files; es' is the compared shift
  pub lent-differs : (m : Stations) (es es' : List Event) → EventsSmall es → EventsSmall es' →
      (t : File → Bool)
      → t (new_in m (board_run (with_move m 0 es) (start_of b)).board) ≡ false
      → t (old_in m (board_run (without_move m es') (start_of b)).board) ≡ true
      → Moved m (board_in (ran (with_move m 0 es) (lent b 63)))
      (board_in (ran (without_move m es') (lent b 63)))
      → ⊥
  lent-differs m es es' small small' t new old e =
      let w = lent-ran (with_move m 0 es) (small-with m es 0 small) in
      let u = lent-ran (without_move m es') (small-without m es' small') in
      not_same _ old
      (sym (ap (λ (y : call.Acted). t (old_in m y.board)) u) ∙ sym (ap t e.station)
      ∙ ap (λ (y : call.Acted). t (new_in m y.board)) w ∙ new)

  pub lent-breaks : (m : Stations) (es : List Event) → EventsSmall es → (t : File → Bool)
      → t (new_in m (board_run (with_move m 0 es) (start_of b)).board) ≡ false
      → t (old_in m (board_run (without_move m es) (start_of b)).board) ≡ true
      → Moved m (board_in (ran (with_move m 0 es) (lent b 63)))
      (board_in (ran (without_move m es) (lent b 63)))
      → ⊥
  lent-breaks m es small = lent-differs m es es small small

-- ---- the three starts

pub good_old : Good (board_with (wired_to 0 2))
unfolding block_tests
good_old = record { back = refl; tests = refl }

pub good_new : Good (board_with (wired_to 1 3))
unfolding block_tests
good_new = record { back = refl; tests = refl }

pub good-direct : Good (board_with start_board.wired)
unfolding block_tests
good-direct = record { back = refl; tests = refl }
