-- A case by computing: what a message does to its file. 01, "Table cases", T8. No contract cites this file.
-- Assumes nothing.
use Prim.Native.Nat.{◌+◌, ◌*◌}
use mathlib.Core.Path.{◌≡◌, refl}
use mathlib.Core.List.{[], ◌∷◌}
use lib.ListN.{get_or, replicate}
use Rattle.words.specs.Bits.{bit_of, with_bit}
use Rattle.words.specs.Sets.{insert}
use Rattle.file_message.specs.Message.{hart_in, file_in, identity_in}
use Rattle.file.specs.Page.{arrived}
use Rattle.file_words.specs.Stored.{file_words, file_at}
use Rattle.files.specs.Files.{file_number, files_from, files_of, words_of, the_file, with_file, zero_file}
use Rattle.files.specs.Files.{named_by, reached, all_reached}
use Rattle.sizes.specs.Sizes.{file_size, files_size, pending_place}

-- identity 40 is bit 8 of the second pending word of hart 2's file 2, which is file number 12
case-reached : get_or (words_of (all_reached (files_of (replicate files_size 0)) (4648 ∷ [])))
    (file_size * 12 + pending_place + 1) 0 ≡ 256
unfolding all_reached reached named_by file_number hart_in file_in identity_in the_file with_file zero_file
    files_of
    files_from words_of file_words file_at arrived insert with_bit bit_of
case-reached = refl
