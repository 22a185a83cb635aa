-- Laws of specs/Delegation.antt: what a written sourcecfg leaves, case by case. No contract cites this file.
-- Assumes nothing.
use Prim.Native.Nat.{ℕ}
use mathlib.Core.Path.{◌≡◌}
use mathlib.Core.Bool.{Bool, true, false, beq}
use lib.Dec.{leb}
use Rattle.words.specs.Sets.{member}
use Rattle.source_mode.specs.Mode.{source_word}
use Rattle.source.specs.Pending.{inactive}
use Rattle.domain.specs.Slot.{with_source}
use Rattle.wired_state.specs.Wires.{Wired}
use Rattle.wired_state.specs.Wires.{is_delegated}
use Rattle.wired_sourcecfg.specs.Delegation.{source_moded, child_written, machine_written, source_written}

module _ (w : Wired) (i v : ℕ) where
  abbrev moves : Bool
  moves = beq (is_delegated w i) (leb 1024 (source_word false false v))

  pub machine-stays : moves ≡ true
      → machine_written w i v
      ≡ record {
        wires = w.wires;
        machine = source_moded w.machine i (source_word false false v) (member w.wires i);
        child = w.child;
      }
  unfolding machine_written
  machine-stays e = simp e

  pub machine-moves : moves ≡ false
      → machine_written w i v
      ≡ record {
        wires = w.wires;
        machine = source_moded w.machine i (source_word false false v) (member w.wires i);
        child = with_source w.child i (inactive 0);
      }
  unfolding machine_written
  machine-moves e = simp e

  pub written-child : (c : Bool) → c ≡ true → source_written w c i v ≡ child_written w i v
  unfolding source_written
  written-child c e = simp e

  pub written-machine : (c : Bool) → c ≡ false → source_written w c i v ≡ machine_written w i v
  unfolding source_written
  written-machine c e = simp e
