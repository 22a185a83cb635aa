-- What a domain sends by messages. 01, "The wired controller"; the standard 4.5.1, 4.7, 4.9.
-- Assumes nothing.
--   candidate s         a source that is to be sent: Rattle.source
--   Sent                a domain after the pass over its sources, and the messages sent, in order
--   served_at d i       d after the turn of source i: if it was to be sent, its pending bit is clear
--   messages_at c d i   what source i sends at its turn: one message if it is to be sent, else none
--   sent_from c d i n   the pass over the n sources from i on
--   sent c d            the pass over sources 1 to 63, of a domain with IE and DM; any other sends nothing
--   logged l ms         the log l after the messages ms: they come first, the later words stay
-- c says that the domain is the child.
use Rattle.std.specs.Prelude.{ℕ, zero, suc, Bool, false, cond, List, [], ◌∷◌, ◌++◌, length, drop}
use Rattle.sizes.specs.Sizes.{source_count}
use Rattle.source_target.specs.Target.{message_of}
use Rattle.source.specs.Pending.{with_pending}
use Rattle.domain.specs.Domain.{Domain, sends}
use Rattle.domain.specs.Slot.{source_at, with_source}
unfoldable pub use Rattle.source.specs.Pending.{candidate}

pub record Sent : Type 0 where
  pub domain : Domain
  pub messages : List ℕ

abbrev pub sent_nothing : Domain → Sent
sent_nothing d = record { domain = d; messages = [] }

-- [01 W48]
unfoldable pub served_at : Domain → ℕ → Domain
served_at d i = cond (candidate (source_at d i)) (with_source d i (with_pending (source_at d i) false)) d

-- [01 W51]
unfoldable pub messages_at : Bool → Domain → ℕ → List ℕ
messages_at c d i = cond (candidate (source_at d i)) (message_of c (source_at d i).target ∷ []) []

unfoldable pub sent_from : Bool → Domain → ℕ → ℕ → Sent
sent_from c d i zero = sent_nothing d
sent_from c d i (suc n) =
    let later = sent_from c (served_at d i) (suc i) n in
    record { domain = later.domain; messages = messages_at c d i ++ later.messages }

-- [01 W47]
unfoldable pub sent : Bool → Domain → Sent
sent c d = cond (sends d) (sent_from c d 1 source_count) (sent_nothing d)

-- [01 W49 W50]
unfoldable pub logged : List ℕ → List ℕ → List ℕ
logged l ms = ms ++ drop (length ms) l
