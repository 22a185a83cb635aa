-- Which sources a write names and what it makes of each, and when a write to domaincfg leaves the delivery
-- mode. 01, "The wired controller". Assumes nothing.
--   named k v j            v, written to word k of a family, names source j
--   changing d ws c p j    what a write of the family c that names the sources of p makes of source j of d;
--                          ws are the wires
--   keeps_mode d v         v, written to domaincfg, has the DM that d has
use Rattle.std.specs.Prelude.{ℕ, ◌/◌, ◌%◌, Bool, cond, ◌&&◌, List, eqb}
use Rattle.std.specs.Bool.{beq}
use Rattle.domain.specs.Domain.{dm_bit}
use Rattle.words.specs.Bits.{has_bit}
use Rattle.words.specs.Sets.{member}
use Rattle.source.specs.declared.Source.{Source}
use Rattle.source.specs.declared.Change.{Change}
use Rattle.source.specs.Pending.{changed}
use Rattle.domain.specs.Domain.{Domain, by_messages}

unfoldable pub named : ℕ → ℕ → ℕ → Bool
named k v j = eqb (j / 32) k && has_bit v (j % 32)

abbrev pub changing : Domain → List ℕ → Change → (ℕ → Bool) → ℕ → Source → Source
changing d ws c p j s = cond (p j) (changed s c (by_messages d) (member ws j)) s

abbrev pub keeps_mode : Domain → ℕ → Bool
keeps_mode d v = beq (by_messages d) (has_bit v dm_bit)
