-- A shift that meets every premise of a move, in full. Two wires and two devices bring messages, to old
-- before they change over and to new after it; new holds bits of its own before, and they are lost. 01, "The
-- move, with its premises". Assumes nothing.
--   start         both sources send to old: 1, an edge source, sends 7, and 40, a level source, sends 70
--   early         accesses 1 to 8: in step 1 wire 1 rises, and in step 2 a device writes 3 to old and wire 40
--                 falls
--   edge_over      the device has changed over and writes 4 to new; wire 1 falls, and access 9 rewrites the
--                 target of source 1
--   level_over     wire 1 rises; accesses 10 to 47; wire 40 rises, a second device writes 8 to old, and a
--                 third one 6 to another station, file 3 of hart 0, which enables it; access 48 rewrites the
--                 target of source 40
--   claiming      all so far
--   looked_on      the other station claims; somebody looks at the top of new; wire 40 falls
--   late          wire 40 rises; accesses 49 to 89: the second device, which has changed over, writes 9, 201
--                 and 100, this at offset 4, to new, in the middle of steps 4, 5 and 6, and in two of them a
--                 wire falls and rises too; after them it writes 10, and wire 1 falls
--   shift         all of it
--   so_far es      what the events es, with the accesses among them, leave of the start
--   over          the events until both sources have changed over
--   rises i       the call that lets wire i rise
--   station_end    the file of the station at the end: 5, 130 and 250 are pending, which it had at the start,
--                 and all that the shift brought it
--   old_end        the file old then, as access 72 found it
--   board_end f g w   the board then, with f as old, g as new and the wired controller w: the other station
--                 has 6 enabled, and claimed, and all else is as at the start
--   Example       the premises hold, the messages arrive as said, and the shift ends as it should: with the
--                 move new is station_end, whatever it held before, and without it old is
use Rattle.std.specs.Prelude.{ℕ, ◌+◌, ◌*◌, ◌^◌, ◌≡◌, List, [], ◌∷◌, ◌++◌, get_or, replicate}
use Rattle.file.specs.declared.File.{File}
use Rattle.files.specs.Files.{with_file}
use Rattle.wired_state.specs.Wires.{Wired}
use Rattle.board_block.specs.Block.{Board, with_files}
use Rattle.board_call.specs.declared.Call.{Call}
use Rattle.board_call.specs.declared.Call.TheVariants.{Wire, Register, Top, Claim, Signals}
use Rattle.board_runs.specs.Runs.{said_where, Lent, outcome_on, after, ran, handing}
use Rattle.board_runs.specs.Handed.{is_access}
use Rattle.board_runs.specs.Ready.{board_in}
use Rattle.move_laws.specs.Shift.{Event, with_move, without_move}
use Rattle.move_laws.specs.Shift.Event.{wire, page, access, call}
use Rattle.move_laws.specs.Premises.{Premises}
use Rattle.move_laws.specs.Moved.{old_in, new_in}
use Rattle.move_cases.specs.Board.{stations, file_with, enabled, stale_bits, stale, wired_to}
use Rattle.move_cases.specs.Board.{board_having, board_with, lent}

-- ---- the shift

unfoldable pub start : Lent
start = lent (board_with (wired_to 0 2)) 63

unfoldable pub early : List Event
early =
    replicate 2 access ++ (wire 1 1 ∷ replicate 4 access) ++ (page 0 2 0 3 ∷ wire 40 0 ∷ replicate 2 access)

unfoldable pub edge_over : List Event
edge_over = page 1 3 0 4 ∷ wire 1 0 ∷ access ∷ []

unfoldable pub level_over : List Event
level_over =
    (wire 1 1 ∷ replicate 38 access)
    ++ (wire 40 1 ∷ page 0 2 0 8 ∷ page 0 3 0 6 ∷ call (Register 0 3 1 0xC0 0x40) ∷ access ∷ [])

unfoldable pub looked_on : List Event
looked_on = call (Claim 0 3) ∷ call (Top 1 3) ∷ wire 40 0 ∷ []

unfoldable pub late : List Event
late =
    (wire 40 1 ∷ replicate 24 access)
    ++ (wire 1 0 ∷ wire 1 1 ∷ page 1 3 0 9 ∷ replicate 8 access)
    ++ (wire 40 0 ∷ wire 40 1 ∷ page 1 3 0 201 ∷ replicate 8 access)
    ++ (page 1 3 4 0x64000000 ∷ access ∷ page 1 3 0 10 ∷ wire 1 0 ∷ [])

unfoldable pub shift : List Event
shift = early ++ edge_over ++ level_over ++ looked_on ++ late

abbrev pub so_far : List Event → Lent
so_far es = ran (with_move stations 0 es) start

abbrev pub claiming : List Event
claiming = early ++ edge_over ++ level_over

abbrev pub over : List Event
over = early ++ edge_over ++ level_over ++ looked_on

abbrev pub rises : ℕ → Call
rises i = Wire i 1

-- ---- its end

unfoldable pub station_end : File
station_end = file_with 1 200 (3 ∷ 4 ∷ 5 ∷ 7 ∷ 8 ∷ 9 ∷ 10 ∷ 70 ∷ 100 ∷ 130 ∷ 201 ∷ 250 ∷ []) enabled

unfoldable pub old_end : File
old_end = file_with 0 200 (3 ∷ 5 ∷ 7 ∷ 8 ∷ 70 ∷ 130 ∷ 250 ∷ []) enabled

unfoldable pub board_end : File → File → Wired → Board
board_end f g w =
    let b = board_having f g w in
    with_files b (with_file b.files 3 (file_with 0 0 [] (6 ∷ [])))

pub record Example : Type 0 where
  pub premises : Premises stations start.block start.saved shift
  -- after access 8 old has what the device and wire 1 sent, and no bit is pending in new any more
  pub early-old : old_in stations (board_in (so_far early)) ≡ file_with 0 200
      (3 ∷ 5 ∷ 7 ∷ 130 ∷ 250 ∷ []) enabled
  pub early-new : new_in stations (board_in (so_far early)) ≡ file_with 0 9 [] stale_bits
  -- after access 9 the rise of wire 1 sends one message, 7 to new
  pub edge_count : (outcome_on (rises 1) (so_far (early ++ edge_over))).count ≡ 1
  pub edge-word : get_or (outcome_on (rises 1) (so_far (early ++ edge_over))).log 0 0 ≡ 1 * 2048 + 3 * 256 + 7
  -- until access 48 wire 40 sent to old, and the access sends nothing, though the level is high
  pub over-old : old_in stations (board_in (so_far over)) ≡ old_end
  pub over-new : new_in stations (board_in (so_far over)) ≡ file_with 0 9 (4 ∷ 7 ∷ []) stale_bits
  -- the other station's claim answers the identity that its device wrote
  pub other-claim : (outcome_on (Claim 0 3) (so_far claiming)).value ≡ 0x00060006
  -- after it the rise of wire 40 sends one message, 70 to new
  pub level-count : (outcome_on (rises 40) (so_far over)).count ≡ 1
  pub level-word : get_or (outcome_on (rises 40) (so_far over)).log 0 0 ≡ 1 * 2048 + 3 * 256 + 70
  pub level-new : new_in stations (board_in (after (rises 40) (so_far over)))
      ≡ file_with 0 9 (4 ∷ 7 ∷ 70 ∷ []) stale_bits
  -- no access is refused, and the shift ends as it should
  pub done : said_where is_access (handing (with_move stations 0 shift) start) start.block
      ≡ replicate 89 (record { number = 0; value = 0; count = 0 })
  pub ends : board_in (so_far shift) ≡ board_end old_end station_end (wired_to 1 3)
  pub unmoved : board_in (ran (without_move stations shift) start) ≡ board_end station_end stale
      (wired_to 0 2)
  -- 3 and 4 are not enabled, and 250 is not below the threshold; new signals, and old does not
  pub top : (outcome_on (Top 1 3) (so_far shift)).value ≡ 0x00050005
  pub heard : (outcome_on (Signals 1) (so_far shift)).value ≡ 2 ^ 3
  pub silent : (outcome_on (Signals 0) (so_far shift)).value ≡ 0
