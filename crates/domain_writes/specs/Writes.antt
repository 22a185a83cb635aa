-- Writes that name sources. 01, "The wired controller"; the standard 4.5.5 to 4.5.14, 4.5.16. Assumes
-- nothing.
--   changed_at d ws c i          d after a write of the family c that names source i; ws are the wires
--   changed_bit d ws c v i       the same if v has the source's bit
--   changed_from d ws c v i n    the same for the n sources from i on
--   word_changed d ws c k v      d after v was written to word k of the family: sources 1 to 31, or 32 to 63
--   number_changed d ws c v      d after the number v was written: a number that is no source is ignored
--   target_written c d i v       d after v was written to target[i]; c says that d is the child
use Rattle.std.specs.Prelude.{ℕ, zero, suc, ◌%◌, Bool, cond, ◌&&◌, List, eqb, leb}
use Rattle.sizes.specs.Sizes.{source_count}
use Rattle.words.specs.Bits.{has_bit}
use Rattle.words.specs.Sets.{member}
use Rattle.source.specs.declared.Change.{Change}
use Rattle.source.specs.Pending.{changed, retargeted}
use Rattle.domain.specs.Domain.{Domain, by_messages}
use Rattle.domain.specs.Slot.{source_at, with_source}

unfoldable pub changed_at : Domain → List ℕ → Change → ℕ → Domain
changed_at d ws c i = with_source d i (changed (source_at d i) c (by_messages d) (member ws i))

unfoldable pub changed_bit : Domain → List ℕ → Change → ℕ → ℕ → Domain
changed_bit d ws c v i = cond (has_bit v (i % 32)) (changed_at d ws c i) d

unfoldable pub changed_from : Domain → List ℕ → Change → ℕ → ℕ → ℕ → Domain
changed_from d ws c v i zero = d
changed_from d ws c v i (suc n) = changed_from (changed_bit d ws c v i) ws c v (suc i) n

-- [01 W3]
unfoldable pub word_changed : Domain → List ℕ → Change → ℕ → ℕ → Domain
word_changed d ws c k v = cond (eqb k 0) (changed_from d ws c v 1 31) (changed_from d ws c v 32 32)

-- [01 W39]
unfoldable pub number_changed : Domain → List ℕ → Change → ℕ → Domain
number_changed d ws c v = cond (leb 1 v && leb v source_count) (changed_at d ws c v) d

unfoldable pub target_written : Bool → Domain → ℕ → ℕ → Domain
target_written c d i v = with_source d i (retargeted (source_at d i) c (by_messages d) v)
