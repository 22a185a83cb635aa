-- The board, and the block of 650 words that holds it. 01, "The board", "State rules". Assumes nothing.
--   Board              files: the 20 message files; wired: the wired controller
--   with_files b fs    b with fs as its message files; with_wired b w: with w as its wired controller
--   board_of l         the board whose words are l: 360 of the files, then 290 of the wired controller
--   domain_words d     the words of a domain, in their order
--   wired_words w      those of the wired controller
--   block_of b         those of the board: one board has one block
--   board_sound b      the board keeps every state rule
use Rattle.std.specs.Prelude.{ℕ, Bool, ◌&&◌, List, ◌++◌, take, drop}
use Rattle.sizes.specs.Sizes.{files_size, wired_size, wired_place}
use Rattle.file.specs.declared.File.{File}
use Rattle.files.specs.Files.{files_of, words_of, files_sound}
use Rattle.domain.specs.Domain.{Domain}
use Rattle.wired_state.specs.Wires.{Wired, wired_of}
use Rattle.wired_rules.specs.Rules.{wired_sound}

-- [01 B12]
pub record Board : Type 0 where
  pub files : List File
  pub wired : Wired

-- a part is replaced by these alone: what else a board has, it keeps
abbrev pub with_files : Board → List File → Board
with_files b fs = record { files = fs; wired = b.wired }

abbrev pub with_wired : Board → Wired → Board
with_wired b w = record { files = b.files; wired = w }

-- [01 B8 B9]
unfoldable pub board_of : List ℕ → Board
board_of l = record {
  files = files_of (take files_size l);
  wired = wired_of (take wired_size (drop wired_place l));
}

unfoldable pub domain_words : Domain → List ℕ
domain_words d = d.source ++ d.target ++ d.pending ++ d.enable ++ d.delivery

unfoldable pub wired_words : Wired → List ℕ
wired_words w = w.wires ++ domain_words w.machine ++ domain_words w.child

-- [01 B9]
unfoldable pub block_of : Board → List ℕ
block_of b = words_of b.files ++ wired_words b.wired

-- [01 C12]
unfoldable pub board_sound : Board → Bool
board_sound b = files_sound b.files && wired_sound b.wired
