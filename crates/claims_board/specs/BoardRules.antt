-- Claim 118, on the state rules of the whole board, rule by rule and both ways. 01, "State rules".
--   FileKept f x      x, which is file f of its hart, keeps the rules of a file
--   WiredRules w      the wired controller keeps its own, in plain statements: claims_wired, Rules
--   Long w            the lists of w have their lengths
-- Premises: `Long b.wired`, which the board of every block of 650 words has, as the claim says too.
-- No axioms.
use Rattle.std.specs.Prelude.{ℕ, ◌+◌, ◌*◌, ◌≤◌, ◌<◌, ◌≡◌, true, false, List, ◌↔◌, ◌⊎◌, length}
use Rattle.words.specs.Sets.{member}
use Rattle.file.specs.declared.File.{File}
use Rattle.files.specs.Files.{the_file}
use Rattle.board_block.specs.Block.{Board, board_of, board_sound}
use Rattle.claims_registers.specs.Rules.{Long, WiredRules}

pub record FileKept (f : ℕ) (x : File) : Type 0 where
  -- off, on, and in the machine and the supervisor file also from the wired controller
  pub delivery : (x.delivery ≡ 0) ⊎ (x.delivery ≡ 1) ⊎ ((f < 2) × (x.delivery ≡ 0x40000000))
  pub threshold : x.threshold ≤ 255
  -- identity 0 is clear
  pub zero : (member x.pending 0 ≡ false) × (member x.enable 0 ≡ false)

-- a board keeps the state rules exactly if each file f of each hart h keeps those of a file, and the wired
-- controller its own; every block of 650 words has the lengths that this asks
-- [01 B2 C12 R2]
unfoldable pub Claim-118 : Type 0
Claim-118 =
    ((b : Board) → Long b.wired
    → (board_sound b ≡ true)
    ↔ (((h f : ℕ) → h < 4 → f < 5 → FileKept f (the_file b.files (5 * h + f))) × WiredRules b.wired))
    × ((l : List ℕ) → length l ≡ 650 → Long (board_of l).wired)
