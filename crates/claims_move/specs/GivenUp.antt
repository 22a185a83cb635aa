-- Claim-189: a move that is given up before access 9, and the write that undoes it. 01, "The move, with its
-- premises".
--   NoneToNew m es     no page write of the shift es goes to new: no device has changed over
-- Premises: those of the claims on whole moves in Station, but 1 to 8 accesses for all 89, and `NoneToNew`
-- for `PagesKept`: up to 7 accesses the two are the same, and after 8 `PagesKept` lets devices write to
-- new; and a log of 63 words for the write. No axioms.
use Rattle.std.specs.Prelude.{ℕ, ◌≤◌, ◌<◌, ◌≡◌, List, [], ◌∷◌, ◌≢◌, ◌↔◌, length, get_or}
use Rattle.files.specs.Files.{file_number, the_file}
use Rattle.board_block.specs.Block.{board_of}
use Rattle.board_call.specs.declared.Call.TheVariants.{Register}
use Rattle.board_call.specs.Outcome.{outcome}
use Rattle.board_runs.specs.Runs.{Made, left_by}
use Rattle.board_runs.specs.Handed.{saved_by, HandedOn, Makes}
use Rattle.move_laws.specs.Shift.{Stations, Event, with_move, without_move}
use Rattle.move_laws.specs.Shift.Event.{wire, page, access, call}
use Rattle.move_laws.specs.Premises.{Started, TwoGuests, ByMessages, NoneNamesNew, accesses_in, PagesKept}
use Rattle.move_laws.specs.Premises.{CallsKept}

unfoldable pub NoneToNew : Stations → List Event → Type 0
NoneToNew m [] = Unit {0}
NoneToNew m (wire i level ∷ es) = NoneToNew m es
NoneToNew m (page h f a v ∷ es) = (h ≡ m.new_hart → f ≡ m.new_file → ⊥) × NoneToNew m es
NoneToNew m (access ∷ es) = NoneToNew m es
NoneToNew m (call c ∷ es) = NoneToNew m es

-- a move that is given up after access 1, before access 9 and before a device has changed over is undone by
-- a write of the first saved number to old's eidelivery, with any log of 63 words. ms is the shift with the
-- accesses that were made, and ns the same shift with none: the write is done, and then old is the file that
-- the station has with no move, every file but old and new is the same, and so is all of the wired
-- controller. What new held is lost: nothing is said of it. Before access 8 no device has changed over if
-- the page writes are those of a move
unfoldable pub Claim-189 : Type 0
Claim-189 =
    ((m : Stations) (l s : List ℕ) (es : List Event) (ms ns : List Made)
    → Started l s → TwoGuests m → ByMessages l → NoneNamesNew m l → 1 ≤ accesses_in es → accesses_in es ≤ 8
    → NoneToNew m es → CallsKept m es → Makes (with_move m 0 es) ms → HandedOn s ms l
    → Makes (without_move m es) ns → (g t : List ℕ) → length g ≡ 63
    → let saved = get_or (saved_by s ms l) 0 0 in
    let o = outcome (Register m.old_hart m.old_file 1 0x70 saved) (left_by ms l) g t in
    let b = board_of o.block in
    let b' = board_of (left_by ns l) in
    (o.number ≡ 0)
    × (the_file b.files (file_number m.old_hart m.old_file)
    ≡ the_file b'.files (file_number m.old_hart m.old_file))
    × ((k : ℕ) → k < 20 → k ≢ file_number m.old_hart m.old_file → k ≢ file_number m.new_hart m.new_file
    → the_file b.files k ≡ the_file b'.files k)
    × (b.wired ≡ b'.wired))
    × ((m : Stations) (es : List Event) → accesses_in es ≤ 7 → (PagesKept m 0 es ↔ NoneToNew m es))
