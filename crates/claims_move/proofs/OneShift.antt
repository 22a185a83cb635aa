-- Claim-111, by the shift that is computed in full in Rattle.move_cases. Assumes nothing.
use Prim.Native.Nat.{ℕ}
use mathlib.Core.Path.{◌≡◌, refl, sym, ap, subst, ◌∙◌}
use mathlib.Core.List.{List, ◌∷◌, ◌++◌}
use lib.ListN.{get_or, replicate, take}
use Rattle.words.specs.Bits.{bit_of, has_bit, with_bit}
use Rattle.words.specs.Sets.{insert}
use Rattle.words.specs.Parts.{field_of, packed}
use Rattle.file.specs.declared.File.{File}
use Rattle.source_target.specs.Target.{number_of}
use Rattle.files.specs.Files.{file_number, is_guest, the_file, with_file}
use Rattle.files.proofs.FilesLaws.{the_file-with_file-other}
use Rattle.board_move_steps.specs.Names.{renamed}
use Rattle.board_block.specs.Block.{Board}
use Rattle.board_block.specs.Start.{start_file, start_files_from, start_domain, start_board}
use Rattle.board_call.specs.declared.Call.TheVariants.{Wire, Claim}
use Rattle.board_runs.specs.Runs.{Lent, outcome_on, after, ran}
use Rattle.board_runs.specs.Ready.{board_in}
use Rattle.move_laws.specs.Shift.{Event, with_move}
use Rattle.move_laws.specs.Moved.{old_in, new_in}
use Rattle.move_cases.specs.Board.{stations, holding, station, stale, machine_domain, child_to, wired_to}
use Rattle.move_cases.specs.Board.{board_having, board_with, lent}
use Rattle.move_cases.specs.Example.{start, early, edge_over, level_over, looked_on, late, shift, so_far}
use Rattle.move_cases.specs.Example.{claiming, over, station_end, old_end, board_end}
use Rattle.move_cases.proofs.Starts.{lent-board, good_old}
use Rattle.move_cases.proofs.ExampleShift.{board, example}
use Rattle.claims_move.specs.OneShift.{file_having, Arranged, station_before, station_after}
use Rattle.claims_move.specs.OneShift.{left_old, held_before, Claim-111}

-- ---- a board of the shift, in plain numbers

abbrev idle : File
idle = file_having 0 0 (replicate 8 0) (replicate 8 0)

abbrev other : File
other = file_having 0 0 (replicate 8 0) (0x40 ∷ replicate 7 0)

abbrev before : File
before = file_having 1 9 held_before held_before

-- with any files as old and new, and sources that send to file i of hart h
module _ (f g : File) (h i : ℕ) where
  abbrev fs : List File
  fs = start_board.files

  stands-first : Arranged (board_having f g (wired_to h i)) f idle g (renamed 7 h i) (renamed 70 h i)
  unfolding file_number is_guest the_file with_file start_board start_files_from start_file start_domain
      board_having
      wired_to machine_domain child_to
  stands-first =
      record {
        old-file = refl;
        other-file = refl;
        new-file = refl;
        files = λ k l a b c. the_file-with_file-other (with_file fs 2 f) 8 g k c
            ∙ the_file-with_file-other fs 2 f k a;
        wires = refl;
        machine = refl;
        child = refl;
      }

  stands-last : Arranged (board_end f g (wired_to h i)) f other g (renamed 7 h i) (renamed 70 h i)
  unfolding file_number is_guest the_file with_file start_board start_files_from start_file start_domain
      board_having
      board_end wired_to machine_domain child_to holding insert with_bit has_bit bit_of
  stands-last =
      record {
        old-file = refl;
        other-file = refl;
        new-file = refl;
        files = λ k l a b c. the_file-with_file-other (with_file (with_file fs 2 f) 8 g) 3 other k b
            ∙ stands-first.files k l a b c;
        wires = refl;
        machine = refl;
        child = refl;
      }

begins : board_in start ≡ board
unfolding start
begins = lent-board board good_old 63

-- ---- the shift as it goes

-- after accesses 8, 9 and 48, and when both sources have changed over
parts : (take 11 shift ≡ early) × (take 14 shift ≡ early ++ edge_over) × (take 58 shift ≡ claiming)
    × (take 61 shift ≡ over)
unfolding shift early edge_over level_over looked_on late
parts = (refl, refl, refl, refl)

-- the event after that
rise : ran (with_move stations 0 (take 62 shift)) start ≡ after (Wire 40 1) (so_far over)
unfolding shift early edge_over level_over looked_on late with_move ran
rise = refl

-- what is read after the first events
seen : {A : Type 0} (t : Lent → A) {es fs : List Event} → es ≡ fs → t (so_far es) ≡ t (so_far fs)
seen t e = ap (λ (gs : List Event). t (so_far gs)) e

pub claim-111 : Claim-111
unfolding Claim-111 file_number station stale old_end station_end board_with renamed packed number_of field_of
    holding insert with_bit has_bit bit_of
claim-111 = (
  refl,
  subst (λ (b : Board). Arranged b station_before idle before 0x1007 0x1046) (sym begins)
      (stands-first station stale 0 2),
  (unfold start lent in refl),
  (unfold start lent in refl),
  (unfold shift early edge_over level_over looked_on late in refl),
  example.premises,
  subst (λ (b : Board). Arranged b left_old other station_after 0x42007 0x42046) (sym example.ends)
      (stands-last old_end station_end 1 3),
  subst (λ (b : Board). Arranged b station_after other before 0x1007 0x1046) (sym example.unmoved)
      (stands-last station_end stale 0 2),
  example.done,
  seen (λ x. old_in stations (board_in x)) parts.0 ∙ example.early-old,
  seen (λ x. new_in stations (board_in x)) parts.0 ∙ example.early-new,
  (
    seen (λ x. (outcome_on (Wire 1 1) x).count) parts.1 ∙ example.edge_count,
    seen (λ x. get_or (outcome_on (Wire 1 1) x).log 0 0) parts.1 ∙ example.edge-word,
  ),
  seen (λ x. (outcome_on (Claim 0 3) x).value) parts.2 ∙ example.other-claim,
  seen (λ x. old_in stations (board_in x)) parts.3 ∙ example.over-old,
  seen (λ x. new_in stations (board_in x)) parts.3 ∙ example.over-new,
  (
    seen (λ x. (outcome_on (Wire 40 1) x).count) parts.3 ∙ example.level-count,
    seen (λ x. get_or (outcome_on (Wire 40 1) x).log 0 0) parts.3 ∙ example.level-word,
  ),
  ap (λ (x : Lent). new_in stations (board_in x)) rise ∙ example.level-new,
  (example.top, example.heard, example.silent),
)
