-- The shape of a file. Assumes nothing.
--   Shaped f    what every file has that a program can hold: eight words of 32 bits in each set, and two
--               numbers of 32 bits
--   Long f      of this only that each set has eight words: all that is asked of a file that is stored
use Rattle.std.specs.Prelude.{◌^◌, ◌<◌, ◌≡◌, length}
use Rattle.sizes.specs.Sizes.{file_set_size}
use Rattle.words.specs.Sets.{WordsFit}
use Rattle.file.specs.declared.File.{File}

pub record Shaped (f : File) : Type 0 where
  pub delivery_fit : f.delivery < 2 ^ 32
  pub threshold_fit : f.threshold < 2 ^ 32
  pub pending_long : length f.pending ≡ file_set_size
  pub pending_fit : WordsFit f.pending
  pub enable_long : length f.enable ≡ file_set_size
  pub enable_fit : WordsFit f.enable

pub record Long (f : File) : Type 0 where
  pub pending_long : length f.pending ≡ file_set_size
  pub enable_long : length f.enable ≡ file_set_size
