-- Writes to domaincfg. 01, "The wired controller"; the standard 4.5.1. Assumes nothing.
--   kept_domaincfg v             what of a written v is stored: IE, bit 8, and DM, bit 2
--   redelivered_at d ws i        d after its delivery mode changed, for source i; ws are the wires
--   redelivered_from d ws i n    the same for the n sources from i on
--   mode_settled d e ws          what d becomes with the new word, e, once every source is settled
--   domaincfg_written d ws v     d after v was written to domaincfg
-- When DM changes, genmsi becomes 0, and active sources get the targets that the new mode starts with.
use Rattle.std.specs.Prelude.{ℕ, zero, suc, cond, List}
use Rattle.std.specs.Bool.{beq}
use Rattle.sizes.specs.Sizes.{source_count}
use Rattle.domain.specs.Domain.{ie_bit, dm_bit}
use Rattle.words.specs.Parts.{field_of, packed}
use Rattle.words.specs.Sets.{member}
use Rattle.source.specs.Pending.{redelivered}
use Rattle.domain.specs.Domain.{Domain, by_messages, with_domaincfg, with_genmsi}
use Rattle.domain.specs.Slot.{source_at, with_source}

-- [01 T9]
unfoldable pub kept_domaincfg : ℕ → ℕ
kept_domaincfg v = packed (field_of v ie_bit 1) ie_bit (packed (field_of v dm_bit 1) dm_bit 0)

unfoldable pub redelivered_at : Domain → List ℕ → ℕ → Domain
redelivered_at d ws i = with_source d i (redelivered (source_at d i) (by_messages d) (member ws i))

unfoldable pub redelivered_from : Domain → List ℕ → ℕ → ℕ → Domain
redelivered_from d ws i zero = d
redelivered_from d ws i (suc n) = redelivered_from (redelivered_at d ws i) ws (suc i) n

-- e is d with the new domaincfg word
-- [01 W10]
unfoldable pub mode_settled : Domain → Domain → List ℕ → Domain
mode_settled d e ws =
    cond (beq (by_messages d) (by_messages e)) e (redelivered_from (with_genmsi e 0) ws 1 source_count)

unfoldable pub domaincfg_written : Domain → List ℕ → ℕ → Domain
domaincfg_written d ws v = mode_settled d (with_domaincfg d (kept_domaincfg v)) ws
