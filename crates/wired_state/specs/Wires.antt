-- The wires and the two domains, in 290 words, and a wire that is set. 01, "The board", "The wired
-- controller"; the standard 4.7. Assumes nothing.
--   Wired                    wires: the levels of wires 1 to 63, a set; machine: the machine domain; child
--   wired_of l               the controller whose words are l: 2 of wires, 144 of the machine domain, 144 of
--                            the child
--   place_of c               where the words of that domain begin
--   domain_in w c            the child (c), or the machine domain
--   with_domain w c d        w with that domain as d
--   is_delegated w i         source i is delegated: the machine domain's sourcecfg says so
--   with_wires w ws          w with the wires ws
--   source_wired d i was is  d after the wire of source i went from was to is
--   wire_set w i level       w after wire i was set: both domains see the change
-- Nothing is sent here: that comes after.
use Rattle.std.specs.Prelude.{ℕ, Bool, cond, List, leb, take, drop}
use Rattle.sizes.specs.Sizes.{source_set_size, domain_size, machine_place, child_place}
use Rattle.source_mode.specs.Mode.{delegated_word}
use Rattle.words.specs.Sets.{member, put}
use Rattle.source.specs.Pending.{wire_changed}
use Rattle.domain.specs.Domain.{Domain, domain_of, by_messages}
use Rattle.domain.specs.Slot.{source_at, with_source}

-- [01 B5]
pub record Wired : Type 0 where
  pub wires : List ℕ
  pub machine : Domain
  pub child : Domain

unfoldable pub wired_of : List ℕ → Wired
wired_of l =
    record {
      wires = take source_set_size l;
      machine = domain_of (take domain_size (drop machine_place l));
      child =
          domain_of (take domain_size (drop child_place l));
    }

-- ---- one of the two domains

abbrev pub place_of : Bool → ℕ
place_of c = cond c child_place machine_place

unfoldable pub domain_in : Wired → Bool → Domain
domain_in w c = cond c w.child w.machine

unfoldable pub with_domain : Wired → Bool → Domain → Wired
with_domain w c d =
    cond c (record { wires = w.wires; machine = w.machine; child = d })
    (record { wires = w.wires; machine = d; child = w.child })

-- ---- one source

unfoldable pub is_delegated : Wired → ℕ → Bool
is_delegated w i = leb delegated_word (source_at w.machine i).mode

-- ---- one wire

abbrev pub with_wires : Wired → List ℕ → Wired
with_wires w ws = record { wires = ws; machine = w.machine; child = w.child }

unfoldable pub source_wired : Domain → ℕ → Bool → Bool → Domain
source_wired d i was is = with_source d i (wire_changed (source_at d i) (by_messages d) was is)

unfoldable pub wire_set : Wired → ℕ → Bool → Wired
wire_set w i level =
    record {
      wires = put w.wires i level;
      machine = source_wired w.machine i (member w.wires i) level;
      child = source_wired w.child i (member w.wires i) level;
    }
