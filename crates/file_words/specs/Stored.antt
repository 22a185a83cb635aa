-- A file's 18 words in a block: delivery, threshold, eight words of pending, eight of enable. Assumes
-- nothing.
--   file_words f        these words
--   file_at l at        the file whose words stand in the block l from at on
--   put_file l at f     the block l with f's words from at on
use Rattle.std.specs.Prelude.{ℕ, ◌+◌, List, ◌∷◌, ◌++◌, get_or, take, drop}
use Rattle.std.proofs.lemmas.List.Edits.{sets}
use Rattle.sizes.specs.Sizes.{file_set_size, threshold_place, pending_place, enable_place}
use Rattle.file.specs.declared.File.{File}

-- [01 F23]
unfoldable pub file_words : File → List ℕ
file_words f = f.delivery ∷ f.threshold ∷ f.pending ++ f.enable

unfoldable pub file_at : List ℕ → ℕ → File
file_at l at =
    record {
      delivery = get_or l at 0;
      threshold = get_or l (at + threshold_place) 0;
      pending = take file_set_size (drop (at + pending_place) l);
      enable = take file_set_size (drop (at + enable_place) l);
    }

unfoldable pub put_file : List ℕ → ℕ → File → List ℕ
put_file l at f = sets l at (file_words f)
