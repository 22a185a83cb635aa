-- What genmsi stores, reads and sends. 01, "The wired controller"; the standard 4.5.15. Assumes nothing.
--   kept_genmsi v         what a write of v keeps: hart and identity
--   genmsi_message c v    the message that it sends: to file 1 of the hart in the child, to file 0 in the
--                         machine domain
--   genmsi_written d v    d after v was written to genmsi, which only counts by messages
--   genmsi_read d         what genmsi of d reads: 0 in direct mode
--   genmsi_sent c d v     the messages of a write of v to genmsi of d: one in message mode, whatever IE is
-- c says that the domain is the child.
use Rattle.std.specs.Prelude.{ℕ, Bool, cond, List, [], ◌∷◌}
use Rattle.source_target.specs.Target.{hart_at}
use Rattle.words.specs.Parts.{packed}
use Rattle.file_message.specs.Message.{log_word}
use Rattle.source_target.specs.Target.{hart_of, number_of}
use Rattle.domain.specs.Domain.{Domain, genmsi_of, by_messages, with_genmsi}

-- [01 W42]
unfoldable pub kept_genmsi : ℕ → ℕ
kept_genmsi v = packed (hart_of v) hart_at (number_of v)

-- [01 W43]
unfoldable pub genmsi_message : Bool → ℕ → ℕ
genmsi_message child v = log_word (hart_of v) (cond child 1 0) (number_of v)

-- [01 W41]
unfoldable pub genmsi_written : Domain → ℕ → Domain
genmsi_written d v = cond (by_messages d) (with_genmsi d (kept_genmsi v)) d

-- [01 W41 W44]
unfoldable pub genmsi_read : Domain → ℕ
genmsi_read d = cond (by_messages d) (genmsi_of d) 0

-- [01 W43]
unfoldable pub genmsi_sent : Bool → Domain → ℕ → List ℕ
genmsi_sent c d v = cond (by_messages d) (genmsi_message c v ∷ []) []
