-- The rules on the bits of one source of a domain, parted from those on its words as one source's are
-- (SourceParts). No claim cites this file. Assumes nothing.
--   bits_at c ws d i    the bits of source i are right (bits_sound); ws are the wires
-- c says that the domain is the child.
use Rattle.std.specs.Prelude.{ℕ, Bool, List}
use Rattle.words.specs.Sets.{member}
use Rattle.source_rules.specs.SourceParts.{bits_sound}
use Rattle.domain.specs.Domain.{Domain, by_messages, sends}
use Rattle.domain.specs.Slot.{source_at}

unfoldable pub bits_at : Bool → List ℕ → Domain → ℕ → Bool
bits_at c ws d i = bits_sound c (by_messages d) (sends d) (member ws i) (source_at d i)
