-- A sourcecfg that is written, with delegation and taking back. 01, "The wired controller"; the standard
-- 4.5.2. Assumes nothing.
--   source_moded d i m wire  d after the sourcecfg word of source i became m
--   child_written, machine_written, source_written w c i v
--                            w after v was written to sourcecfg[i] of a domain
-- Where the delegation of a source changes, the child's source starts anew. Nothing is sent here: that comes
-- after.
use Rattle.std.specs.Prelude.{ℕ, Bool, true, false, cond, leb}
use Rattle.std.specs.Bool.{beq}
use Rattle.source_mode.specs.Mode.{delegated_word}
use Rattle.words.specs.Sets.{member}
use Rattle.source_mode.specs.Mode.{source_word}
use Rattle.source.specs.Pending.{inactive, moded}
use Rattle.domain.specs.Domain.{Domain, by_messages}
use Rattle.domain.specs.Slot.{source_at, with_source}
use Rattle.wired_state.specs.Wires.{Wired, is_delegated}

-- the source with a new sourcecfg word
unfoldable pub source_moded : Domain → ℕ → ℕ → Bool → Domain
source_moded d i mode wire = with_source d i (moded (source_at d i) (by_messages d) mode wire)

-- [01 W19]
unfoldable pub child_written : Wired → ℕ → ℕ → Wired
child_written w i v =
    record {
      wires = w.wires;
      machine = w.machine;
      child = source_moded w.child i (source_word true (is_delegated w i) v) (member w.wires i);
    }

-- [01 W17 W18]
unfoldable pub machine_written : Wired → ℕ → ℕ → Wired
machine_written w i v =
    record {
      wires = w.wires;
      machine = source_moded w.machine i (source_word false false v) (member w.wires i);
      child =
          cond (beq (is_delegated w i) (leb delegated_word (source_word false false v))) w.child
          (with_source w.child i (inactive 0));
    }

unfoldable pub source_written : Wired → Bool → ℕ → ℕ → Wired
source_written w c i v = cond c (child_written w i v) (machine_written w i v)
