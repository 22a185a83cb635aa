-- Claim-111: a shift in which a station is moved, in full and in plain numbers. 01, "The move, with its
-- premises".
--   file_having d t p e   the file with delivery d, threshold t, p as the words of its pending bits and e of
--                        its enable bits: identity i is bit i mod 32 of word i div 32
--   Arranged b old other new t u   b is the board after a reset, but that file 2 of hart 0 is old, file 3 of
--                        hart 0 is other, and file 3 of hart 1 is new; wire 40 is high, and no other; sources
--                        1 and 40 are delegated to the child, which has IE and DM, and there they are Edge1
--                        with target t and Level1 with target u, both enabled and neither pending
-- Premises: none. No axioms.
use Rattle.std.specs.Prelude.{ℕ, ◌+◌, ◌*◌, ◌^◌, ◌<◌, ◌≡◌, List, [], ◌∷◌, ◌++◌, ◌≢◌, get_or, replicate, take}
use Rattle.file.specs.declared.File.{File}
use Rattle.files.specs.Files.{the_file}
use Rattle.board_block.specs.Block.{Board}
use Rattle.board_block.specs.Start.{start_board}
use Rattle.board_call.specs.declared.Call.TheVariants.{Wire, Register, Top, Claim, Signals}
use Rattle.board_call.specs.Outcome.{outcome}
use Rattle.board_runs.specs.Runs.{said_where, Lent, ran, handing}
use Rattle.board_runs.specs.Handed.{is_access}
use Rattle.board_runs.specs.Ready.{board_in}
use Rattle.move_laws.specs.Shift.{with_move, without_move}
use Rattle.move_laws.specs.Shift.Event.{wire, page, access, call}
use Rattle.move_laws.specs.Premises.{Premises}
use Rattle.move_cases.specs.Board.{stations}
use Rattle.move_cases.specs.Example.{start, shift}

abbrev pub file_having : ℕ → ℕ → List ℕ → List ℕ → File
file_having d t p e = record { delivery = d; threshold = t; pending = p; enable = e }

-- words 0 to 63 of a domain: a at 0, b at source 1, c at source 40, and 0 at every other
abbrev pub words_at : ℕ → ℕ → ℕ → List ℕ
words_at a b c = a ∷ b ∷ (replicate 38 0 ++ (c ∷ replicate 23 0))

pub record Arranged (b : Board) (old other new : File) (t u : ℕ) : Type 0 where
  pub old-file : the_file b.files (5 * 0 + 2) ≡ old
  pub other-file : the_file b.files (5 * 0 + 3) ≡ other
  pub new-file : the_file b.files (5 * 1 + 3) ≡ new
  pub files : (k : ℕ) → k < 20 → k ≢ 5 * 0 + 2 → k ≢ 5 * 0 + 3 → k ≢ 5 * 1 + 3
      → the_file b.files k ≡ the_file start_board.files k
  pub wires : b.wired.wires ≡ 0 ∷ 0x100 ∷ []
  pub machine : b.wired.machine
      ≡ record {
        source = words_at 0 0x400 0x400;
        target = replicate 64 0;
        pending = 0 ∷ 0 ∷ [];
        enable = 0 ∷ 0 ∷ [];
        delivery = replicate 12 0;
      }
  pub child : b.wired.child
      ≡ record {
        source = words_at 0x104 4 6;
        target = words_at 0 t u;
        pending = 0 ∷ 0 ∷ [];
        enable = 2 ∷ 0x100 ∷ [];
        delivery = replicate 12 0;
      }

-- the files of the shift. The station's enable bits are 5, 7, 8, 9, 70, 100, 130, 201 and 250
abbrev pub enabled_words : List ℕ
enabled_words = 0x3A0 ∷ 0 ∷ 0x40 ∷ 0x10 ∷ 4 ∷ 0 ∷ 0x200 ∷ 0x4000000 ∷ []

-- before the shift 5, 130 and 250 are pending for it
abbrev pub station_before : File
station_before = file_having 1 200 (0x20 ∷ 0 ∷ 0 ∷ 0 ∷ 4 ∷ 0 ∷ 0 ∷ 0x4000000 ∷ []) enabled_words

-- after it 3, 4, 5, 7, 8, 9, 10, 70, 100, 130, 201 and 250
abbrev pub station_after : File
station_after = file_having 1 200 (0x7B8 ∷ 0 ∷ 0x40 ∷ 0x10 ∷ 4 ∷ 0 ∷ 0x200 ∷ 0x4000000 ∷ []) enabled_words

-- what is left as old has 3, 5, 7, 8, 70, 130 and 250
abbrev pub left_old : File
left_old = file_having 0 200 (0x1A8 ∷ 0 ∷ 0x40 ∷ 0 ∷ 4 ∷ 0 ∷ 0 ∷ 0x4000000 ∷ []) enabled_words

-- new holds 6, 66, 131 and 255 before, pending and enabled
abbrev pub held_before : List ℕ
held_before = 0x40 ∷ 0 ∷ 4 ∷ 0 ∷ 8 ∷ 0 ∷ 0 ∷ 0x80000000 ∷ []

-- the premises of a move can be met: a start and a shift in full. Two devices, an edge source and a level
-- source bring messages to old before they change over and to new after it, in the middle of steps too, and
-- another station claims; at the end new is the file that the station would have had, with its bits in four
-- words of 64 and its threshold of 200, and has nothing of what it held before
unfoldable pub Claim-111 : Type 0
Claim-111 =
    -- a file with no bit; the other station's, which has 6 enabled; and new before the move
    let none : List ℕ = replicate 8 0 in
    let idle = file_having 0 0 none none in
    let other = file_having 0 0 none (0x40 ∷ replicate 7 0) in
    let before = file_having 1 9 held_before held_before in
    -- after the first k events: access 8 is the 11th, 9 the 14th and 48 the 58th
    let so_far : ℕ → Lent = λ k. ran (with_move stations 0 (take k shift)) start in
    let old : ℕ → File = λ k. the_file (board_in (so_far k)).files (5 * 0 + 2) in
    let new : ℕ → File = λ k. the_file (board_in (so_far k)).files (5 * 1 + 3) in
    -- from file 2 of hart 0 to file 3 of hart 1; both sources send to old, identities 7 and 70
    (stations ≡ record { old_hart = 0; old_file = 2; new_hart = 1; new_file = 3 })
    × Arranged (board_in start) station_before idle before 0x1007 0x1046
    × (start.log ≡ replicate 63 0) × (start.saved ≡ replicate 10 0)
    × (shift
    ≡ access ∷ access ∷ wire 1 1 ∷ access ∷ access ∷ access ∷ access ∷ page 0 2 0 3 ∷ wire 40 0
    ∷ access ∷ access ∷ page 1 3 0 4 ∷ wire 1 0 ∷ access ∷ wire 1 1 ∷ (replicate 38 access
    ++ (wire 40 1 ∷ page 0 2 0 8 ∷ page 0 3 0 6 ∷ call (Register 0 3 1 0xC0 0x40) ∷ access
    ∷ call (Claim 0 3) ∷ call (Top 1 3) ∷ wire 40 0 ∷ wire 40 1 ∷ (replicate 24 access
    ++ (wire 1 0 ∷ wire 1 1 ∷ page 1 3 0 9 ∷ (replicate 8 access
    ++ (wire 40 0 ∷ wire 40 1 ∷ page 1 3 0 201 ∷ (replicate 8 access
    ++ (page 1 3 4 0x64000000 ∷ access ∷ page 1 3 0 10 ∷ wire 1 0 ∷ [])))))))))
    × Premises stations start.block start.saved shift
    -- its end: both sources send to new; without the move old is the station's file, and new is as before
    × Arranged (board_in (ran
    (with_move stations 0 shift) start)) left_old other station_after 0x42007 0x42046
    × Arranged (board_in (ran (without_move stations shift) start)) station_after other before 0x1007 0x1046
    × (said_where is_access (handing (with_move stations 0 shift) start) start.block
    ≡ replicate 89 (record { number = 0; value = 0; count = 0 }))
    -- after access 8 old has 3 and 7 besides, and nothing is pending in new
    × (old 11 ≡ file_having 0 200 (0xA8 ∷ 0 ∷ 0 ∷ 0 ∷ 4 ∷ 0 ∷ 0 ∷ 0x4000000 ∷ []) enabled_words)
    × (new 11 ≡ file_having 0 9 none held_before)
    -- after access 9 the rise of wire 1 sends one message, 7 to new
    × (let o = outcome (Wire 1 1) (so_far 14).block (so_far 14).log (so_far 14).saved in
    (o.count ≡ 1) × (get_or o.log 0 0 ≡ 1 * 2048 + 3 * 256 + 7))
    -- after access 48 the other station claims what its device wrote
    × ((outcome (Claim 0 3) (so_far 58).block (so_far 58).log (so_far 58).saved).value ≡ 0x00060006)
    -- no access sends, though a level is high; after wire 40 fell its rise sends one message, 70 to new
    × (old 61 ≡ left_old) × (new 61 ≡ file_having 0 9 (0x90 ∷ replicate 7 0) held_before)
    × (let o = outcome (Wire 40 1) (so_far 61).block (so_far 61).log (so_far 61).saved in
    (o.count ≡ 1) × (get_or o.log 0 0 ≡ 1 * 2048 + 3 * 256 + 70))
    × (new 62 ≡ file_having 0 9 (0x90 ∷ 0 ∷ 0x40 ∷ replicate 5 0) held_before)
    -- in the end 3 and 4 are not enabled, so 5 is the top; new signals, and old does not
    × (let x = ran (with_move stations 0 shift) start in
    ((outcome (Top 1 3) x.block x.log x.saved).value ≡ 0x00050005)
    × ((outcome (Signals 1) x.block x.log x.saved).value ≡ 2 ^ 3)
    × ((outcome (Signals 0) x.block x.log x.saved).value ≡ 0))
