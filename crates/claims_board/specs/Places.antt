-- Claim 176, on the block: where each of its 650 words lies in the board, in plain numbers. That a board has
-- one block and a block one board, Claim-88 says. 01, "The board"; docs/LAYOUT.md has it as tables.
--   FilePlaces l at x       x is the file whose 18 words stand in the block l from at on
--   DomainPlaces l at d     d is the domain whose 144 words do
-- Premises: none; what a list has past its end reads as 0. No axioms.
use Rattle.std.specs.Prelude.{ℕ, ◌+◌, ◌*◌, ◌/◌, ◌%◌, ◌≤◌, ◌<◌, ◌≡◌, Bool, cond, List, get_or}
use Rattle.words.specs.Bits.{has_bit}
use Rattle.words.specs.Sets.{member}
use Rattle.file.specs.declared.File.{File}
use Rattle.files.specs.Files.{the_file}
use Rattle.domain.specs.Domain.{Domain, domaincfg_of, genmsi_of}
use Rattle.domain.specs.Slot.{source_at}
use Rattle.domain.specs.Structure.{structure_at}
use Rattle.wired_state.specs.Wires.{domain_in}
use Rattle.board_block.specs.Block.{board_of}

pub record FilePlaces (l : List ℕ) (at : ℕ) (x : File) : Type 0 where
  pub delivery : x.delivery ≡ get_or l at 0
  pub threshold : x.threshold ≡ get_or l (at + 1) 0
  pub pending : (i : ℕ) → i ≤ 255 → member x.pending i ≡ has_bit (get_or l (at + 2 + i / 32) 0) (i % 32)
  pub enable : (i : ℕ) → i ≤ 255 → member x.enable i ≡ has_bit (get_or l (at + 10 + i / 32) 0) (i % 32)

pub record DomainPlaces (l : List ℕ) (at : ℕ) (d : Domain) : Type 0 where
  pub domaincfg : domaincfg_of d ≡ get_or l at 0
  pub mode : (i : ℕ) → 1 ≤ i → i ≤ 63 → (source_at d i).mode ≡ get_or l (at + i) 0
  pub genmsi : genmsi_of d ≡ get_or l (at + 64) 0
  pub target : (i : ℕ) → 1 ≤ i → i ≤ 63 → (source_at d i).target ≡ get_or l (at + 64 + i) 0
  pub pending : (i : ℕ) → i ≤ 63 → member d.pending i ≡ has_bit (get_or l (at + 128 + i / 32) 0) (i % 32)
  pub enable : (i : ℕ) → i ≤ 63 → member d.enable i ≡ has_bit (get_or l (at + 130 + i / 32) 0) (i % 32)
  pub idelivery : (h : ℕ) → h < 4 → (structure_at d h).idelivery ≡ get_or l (at + 132 + 3 * h) 0
  pub iforce : (h : ℕ) → h < 4 → (structure_at d h).iforce ≡ get_or l (at + 133 + 3 * h) 0
  pub ithreshold : (h : ℕ) → h < 4 → (structure_at d h).ithreshold ≡ get_or l (at + 134 + 3 * h) 0

-- where each word of the block lies: file f of hart h from word 18 (5 h + f) on, with delivery, threshold,
-- eight words of pending and eight of enable; the wires at words 360 and 361; the machine domain from word
-- 362 on and the child from word 506 on, with domaincfg, the sourcecfgs, genmsi, the targets, two words of
-- pending, two of enable, and idelivery, iforce and ithreshold of each hart. Number i of a set is bit i mod
-- 32 of the set's word i div 32
-- [01 B7 B8]
unfoldable pub Claim-176 : Type 0
Claim-176 =
    (l : List ℕ)
    → let b = board_of l in
    ((h f : ℕ) → h < 4 → f < 5 → FilePlaces l (18 * (5 * h + f)) (the_file b.files (5 * h + f)))
    × ((i : ℕ) → i ≤ 63 → member b.wired.wires i ≡ has_bit (get_or l (360 + i / 32) 0) (i % 32))
    × ((c : Bool) → DomainPlaces l (cond c 506 362) (domain_in b.wired c))
