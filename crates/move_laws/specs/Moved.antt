-- The answer to the auditor's question: what is the same after a shift with the move and after the same shift
-- without it. 01, "The move, with its premises". Assumes nothing.
--   old_in, new_in         the file old, and the file new, of a board
--   Moved m b b'           b, after the shift with the move, and b', after the one without it: the file new
--                          of b is the file old of b'; every file but these two, every wire and both domains
--                          are the same, but that a target of the child that names old in b' names new in b,
--                          with the same identity
-- Not claimed: what new held before the move is lost; old is left with what it held at access 72, silent, as
-- Claim-180 says; and the logs are not compared, since their words name the files.
use Rattle.std.specs.Prelude.{ℕ, ◌≤◌, ◌<◌, ◌≡◌, Bool, true, false, ◌≢◌}
use Rattle.sizes.specs.Sizes.{file_count, source_count}
use Rattle.file.specs.declared.File.{File}
use Rattle.files.specs.Files.{file_number, the_file}
use Rattle.domain.specs.Domain.{genmsi_of}
use Rattle.domain.specs.Slot.{source_at}
use Rattle.wired_state.specs.Wires.{domain_in}
use Rattle.board_move_steps.specs.Names.{names_file, renamed}
use Rattle.board_block.specs.Block.{Board}
use Rattle.move_laws.specs.Shift.{Stations}

abbrev pub old_number : Stations → ℕ
old_number m = file_number m.old_hart m.old_file

abbrev pub new_number : Stations → ℕ
new_number m = file_number m.new_hart m.new_file

abbrev pub old_in : Stations → Board → File
old_in m b = the_file b.files (old_number m)

abbrev pub new_in : Stations → Board → File
new_in m b = the_file b.files (new_number m)

pub record Moved (m : Stations) (b b' : Board) : Type 0 where
  pub station : new_in m b ≡ old_in m b'
  pub others : (k : ℕ) → k < file_count → k ≢ old_number m → k ≢ new_number m
      → the_file b.files k ≡ the_file b'.files k
  pub wires : b.wired.wires ≡ b'.wired.wires
  pub pending : (c : Bool) → (domain_in b.wired c).pending ≡ (domain_in b'.wired c).pending
  pub enable : (c : Bool) → (domain_in b.wired c).enable ≡ (domain_in b'.wired c).enable
  -- and besides: all of the machine domain, and of the child all but that targets of old are now new's
  pub machine : b.wired.machine ≡ b'.wired.machine
  pub sources : b.wired.child.source ≡ b'.wired.child.source
  pub structures : b.wired.child.delivery ≡ b'.wired.child.delivery
  pub targets : (i : ℕ) → 1 ≤ i → i ≤ source_count
      → let t = (source_at b.wired.child i).target in
      let t' = (source_at b'.wired.child i).target in
      (names_file t' m.old_hart m.old_file ≡ true → t ≡ renamed t' m.new_hart m.new_file)
      × (names_file t' m.old_hart m.old_file ≡ false → t ≡ t')
  pub genmsi : genmsi_of b.wired.child ≡ genmsi_of b'.wired.child
