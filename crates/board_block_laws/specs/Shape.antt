-- A board whose lists have their lengths, as that of 650 words has. Assumes nothing.
--   BoardShaped b    20 files with eight words in each of their sets, two words of wires, both domains Shaped
use Rattle.std.specs.Prelude.{ℕ, ◌<◌, ◌≡◌, length}
use Rattle.sizes.specs.Sizes.{file_count, source_set_size}
use Rattle.file.specs.Shape.{Long}
use Rattle.files.specs.Files.{the_file}
use Rattle.domain_laws.specs.Shape.{DomainShaped}
use Rattle.board_block.specs.Block.{Board}

pub record BoardShaped (b : Board) : Type 0 where
  pub many : length b.files ≡ file_count
  pub long : (k : ℕ) → k < file_count → Long (the_file b.files k)
  pub wires : length b.wired.wires ≡ source_set_size
  pub machine : DomainShaped b.wired.machine
  pub child : DomainShaped b.wired.child
