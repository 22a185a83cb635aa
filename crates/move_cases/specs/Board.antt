-- Where the shifts start that are given in full. 01, "The board", "The move, with its premises". Assumes
-- nothing.
--   stations         the station moves from file 2 of hart 0, old, to file 3 of hart 1, new
--   holding is       a set of 256 bits with the identities is, and with no others
--   file_with d t p e the file with delivery d, threshold t, p pending and e enabled
--   enabled          what the station has enabled
--   station          the file old at the start: 5, 130 and 250 are pending, it signals by 5, and its
--                    threshold 200 bars 250
--   stale            the file new at the start: stale_bits, in each word of 64, are pending and enabled in
--                    it, and it signals
--   slots a b c      words 0 to 63 of a domain: a at 0, b at source 1, c at source 40, and 0 at the others
--   wired_to h f     the child has IE and DM, and sources 1 and 40 are delegated to it, enabled, and send to
--                    file f of hart h: 1, an edge source with its wire low, identity 7; and 40, a level
--                    source with its wire high, which has sent, identity 70; no other source is active
--   board_having f g w   the board after a reset, but with f as old, g as new, and the wired controller w
--   board_with w     the same with station and stale
--   lent b n         the block of b, a log of n zeros, and ten zeros as the saved numbers
use Rattle.std.specs.Prelude.{ℕ, List, [], ◌∷◌, ◌++◌, replicate}
use Rattle.words.specs.Sets.{insert}
use Rattle.file.specs.declared.File.{File}
use Rattle.files.specs.Files.{with_file}
use Rattle.domain.specs.Domain.{Domain}
use Rattle.wired_state.specs.Wires.{Wired}
use Rattle.board_move_steps.specs.Names.{renamed}
use Rattle.sizes.specs.Sizes.{saved_size}
use Rattle.board_block.specs.Block.{Board, block_of}
use Rattle.board_block.specs.Start.{start_board}
use Rattle.board_runs.specs.Runs.{Lent}
use Rattle.move_laws.specs.Shift.{Stations}
use Rattle.move_laws.specs.Moved.{old_number, new_number}

abbrev pub stations : Stations
stations = record { old_hart = 0; old_file = 2; new_hart = 1; new_file = 3 }

-- ---- the files

unfoldable pub holding : List ℕ → List ℕ
holding [] = replicate 8 0
holding (i ∷ is) = insert (holding is) i

abbrev pub file_with : ℕ → ℕ → List ℕ → List ℕ → File
file_with d t p e = record { delivery = d; threshold = t; pending = holding p; enable = holding e }

abbrev pub enabled : List ℕ
enabled = 5 ∷ 7 ∷ 8 ∷ 9 ∷ 70 ∷ 100 ∷ 130 ∷ 201 ∷ 250 ∷ []

unfoldable pub station : File
station = file_with 1 200 (5 ∷ 130 ∷ 250 ∷ []) enabled

abbrev pub stale_bits : List ℕ
stale_bits = 6 ∷ 66 ∷ 131 ∷ 255 ∷ []

unfoldable pub stale : File
stale = file_with 1 9 stale_bits stale_bits

-- ---- the wired controller

abbrev pub slots : ℕ → ℕ → ℕ → List ℕ
slots a b c = a ∷ b ∷ (replicate 38 0 ++ (c ∷ replicate 23 0))

-- it has delegated both
unfoldable pub machine_domain : Domain
machine_domain =
    record {
      source = slots 0 1024 1024;
      target = replicate 64 0;
      pending = replicate 2 0;
      enable = replicate 2 0;
      delivery = replicate 12 0;
    }

-- the modes are Edge1 and Level1
unfoldable pub child_to : ℕ → ℕ → Domain
child_to h f =
    record {
      source = slots 0x104 4 6;
      target = slots 0 (renamed 7 h f) (renamed 70 h f);
      pending = replicate 2 0;
      enable = 2 ∷ 0x100 ∷ [];
      delivery = replicate 12 0;
    }

unfoldable pub wired_to : ℕ → ℕ → Wired
wired_to h f = record { wires = 0 ∷ 0x100 ∷ []; machine = machine_domain; child = child_to h f }

-- ---- the board

unfoldable pub board_having : File → File → Wired → Board
board_having f g w =
    record {
      files = with_file (with_file start_board.files (old_number stations) f) (new_number stations) g;
      wired = w;
    }

unfoldable pub board_with : Wired → Board
board_with w = board_having station stale w

unfoldable pub lent : Board → ℕ → Lent
lent b n = record { block = block_of b; log = replicate n 0; saved = replicate saved_size 0 }
