-- The 20 message files of the board in their 360 words. 01, "The board"; the standard 3.5. Assumes nothing.
--   file_number h f      the number of file f of hart h: machine 0, supervisor 1, guests 2 to 4
--   is_guest k           file number k is a guest's
--   zero_file            a file with no bit set
--   files_from l k n     n files of the block l from number k on
--   files_of l           the 20 files of the block l: file k stands from word 18 k on
--   words_of fs          the words of the files fs, one after the other
--   the_file fs k        file number k of fs; past the last, zero_file
--   with_file fs k f     fs with f as number k; past the last, fs
--   named_by m           the number of the file that the log word m names
--   reached fs m         fs after the message m arrived at its file; identity 0 changes nothing
--   all_reached fs ms    fs after the messages ms, in order
--   Named l n            the first n words of the log l name files that exist, of 0 to 4
--   sound_at fs k        file number k keeps its own state rules
--   files_sound fs       each of the 20 does
use Rattle.std.specs.Prelude.{ℕ, zero, suc, ◌+◌, ◌*◌, ◌%◌, ◌<◌, Bool, List, [], ◌∷◌, ◌++◌, leb, get_or, set}
use Rattle.std.specs.Prelude.{replicate}
use Rattle.sizes.specs.Sizes.{hart_files, first_guest, file_count, file_set_size, file_size}
use Rattle.words.specs.Every.{every}
use Rattle.sizes.specs.Sizes.{identities}
use Rattle.file_message.specs.Message.{hart_in, file_in, identity_in}
use Rattle.file.specs.declared.File.{File}
use Rattle.file.specs.Page.{arrived}
use Rattle.file.specs.Rules.{file_sound}
use Rattle.file_words.specs.Stored.{file_words, file_at}

unfoldable pub file_number : ℕ → ℕ → ℕ
file_number h f = hart_files * h + f

unfoldable pub is_guest : ℕ → Bool
is_guest k = leb first_guest (k % hart_files)

unfoldable pub zero_file : File
zero_file = record {
  delivery = 0;
  threshold = 0;
  pending = replicate file_set_size 0;
  enable = replicate
      file_set_size 0;
}

unfoldable pub files_from : List ℕ → ℕ → ℕ → List File
files_from l k zero = []
files_from l k (suc n) = file_at l (file_size * k) ∷ files_from l (suc k) n

unfoldable pub files_of : List ℕ → List File
files_of l = files_from l 0 file_count

unfoldable pub words_of : List File → List ℕ
words_of [] = []
words_of (f ∷ fs) = file_words f ++ words_of fs

unfoldable pub the_file : List File → ℕ → File
the_file fs k = get_or fs k zero_file

unfoldable pub with_file : List File → ℕ → File → List File
with_file fs k f = set fs k f

unfoldable pub named_by : ℕ → ℕ
named_by m = file_number (hart_in m) (file_in m)

-- [01 B17]
unfoldable pub reached : List File → ℕ → List File
reached fs m = with_file fs (named_by m) (arrived identities (the_file fs (named_by m)) (identity_in m))

-- [01 B15]
unfoldable pub all_reached : List File → List ℕ → List File
all_reached fs [] = fs
all_reached fs (m ∷ ms) = all_reached (reached fs m) ms

unfoldable pub Named : List ℕ → ℕ → Type 0
Named l n = (k : ℕ) → k < n → file_in (get_or l k 0) < hart_files

unfoldable pub sound_at : List File → ℕ → Bool
sound_at fs k = file_sound identities (is_guest k) (the_file fs k)

unfoldable pub files_sound : List File → Bool
files_sound fs = every (sound_at fs) 0 file_count
