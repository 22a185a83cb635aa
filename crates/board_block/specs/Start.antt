-- The board as a reset leaves it: files 0 and 1 of every hart have delivery 0x40000000, no wire is high, and
-- all other numbers are 0. 01, "State rules". Assumes nothing.
--   start_file k          file number k
--   start_files_from k n  n files from number k on
--   start_domain          either domain
--   start_board           the board
use Rattle.std.specs.Prelude.{ℕ, zero, suc, cond, List, [], ◌∷◌, replicate}
use Rattle.sizes.specs.Sizes.{file_count, slot_count, file_set_size, source_set_size, structures_size}
use Rattle.file_select.specs.Deliveries.{from_wired}
use Rattle.file.specs.declared.File.{File}
use Rattle.files.specs.Files.{is_guest}
use Rattle.domain.specs.Domain.{Domain}
use Rattle.board_block.specs.Block.{Board}

-- [01 R9]
unfoldable pub start_file : ℕ → File
start_file k =
    record {
      delivery = cond (is_guest k) 0 from_wired;
      threshold = 0;
      pending = replicate file_set_size 0;
      enable = replicate file_set_size 0;
    }

unfoldable pub start_files_from : ℕ → ℕ → List File
start_files_from k zero = []
start_files_from k (suc n) = start_file k ∷ start_files_from (suc k) n

-- [01 R10]
unfoldable pub start_domain : Domain
start_domain =
    record {
      source = replicate slot_count 0;
      target = replicate slot_count 0;
      pending = replicate source_set_size 0;
      enable = replicate source_set_size 0;
      delivery = replicate structures_size 0;
    }

-- [01 R9]
unfoldable pub start_board : Board
start_board =
    record {
      files = start_files_from 0 file_count;
      wired = record { wires = replicate source_set_size 0; machine = start_domain; child = start_domain };
    }
