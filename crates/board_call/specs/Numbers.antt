-- Which numbers name something. 01, "The board", "Calls and their refusals". Assumes nothing.
--   is_wire w level      there is such a wire, 1 to 63, and such a level, 0 or 1
--   is_file h f          there is such a hart, 0 to 3, and such a file, 0 to 4
--   is_guest_file h f    there is such a hart, and f is a guest's file, 2 to 4
--   is_move .. n         old and new, each a hart and a file, are two different guest files, and there is an
--                        access n, 1 to 89
--   is_page_address a    a is a multiple of 4 in a page of 4,096 bytes
use Rattle.std.specs.Prelude.{ℕ, ◌%◌, Bool, not, ◌&&◌, eqb, leb, ltb}
use Rattle.sizes.specs.Sizes.{hart_count, hart_files, first_guest, source_count}
use Rattle.board_move_steps.specs.Steps.{accesses}

-- [01 C21]
unfoldable pub is_wire : ℕ → ℕ → Bool
is_wire w level = leb 1 w && leb w source_count && leb level 1

unfoldable pub is_file : ℕ → ℕ → Bool
is_file h f = ltb h hart_count && ltb f hart_files

-- [01 V10]
unfoldable pub is_guest_file : ℕ → ℕ → Bool
is_guest_file h f = ltb h hart_count && leb first_guest f && ltb f hart_files

-- [01 C14 V9 V10]
unfoldable pub is_move : ℕ → ℕ → ℕ → ℕ → ℕ → Bool
is_move oh of nh nf n =
    is_guest_file oh of && is_guest_file nh nf && not (eqb oh nh && eqb of nf) && leb 1 n && leb n accesses

-- [01 C22]
unfoldable pub is_page_address : ℕ → Bool
is_page_address a = eqb (a % 4) 0 && ltb a 4096
