-- A target, and the message that goes to it. 01, "The wired controller"; the standard 4.5.16, 4.9.1.
-- Assumes nothing.
--   hart_at, guest_at                   where a target has its hart, and in the child its guest index
--   hart_of t, guest_of t, number_of t  bits 19:18, bits 13:12, and bits 7:0, a priority or an identity
--   start_target messages               the target of a source that becomes active
--   kept_target child messages v        what a write of v stores
--   message_of child t                  the message of a source with target t
-- The machine domain sends to file 0, the child to file 1 + guest index.
use Rattle.std.specs.Prelude.{ℕ, ◌+◌, Bool, cond, eqb}
use Rattle.words.specs.Parts.{field_of, packed}
use Rattle.file_message.specs.Message.{log_word}

abbrev pub hart_at : ℕ
hart_at = 18

abbrev pub guest_at : ℕ
guest_at = 12

unfoldable pub hart_of : ℕ → ℕ
hart_of t = field_of t hart_at 2

-- [01 W32]
unfoldable pub guest_of : ℕ → ℕ
guest_of t = field_of t guest_at 2

-- [01 W31]
unfoldable pub number_of : ℕ → ℕ
number_of t = field_of t 0 8

-- [01 W11 W30 W33]
unfoldable pub start_target : Bool → ℕ
start_target messages = cond messages 0 1

-- a written priority of 0 becomes 1
-- [01 W29]
unfoldable pub priority_of : ℕ → ℕ
priority_of v = cond (eqb (number_of v) 0) 1 (number_of v)

-- an identity, in the child below a guest index
-- [01 W32]
unfoldable pub receiver_of : Bool → ℕ → ℕ
receiver_of child v = cond child (packed (guest_of v) guest_at (number_of v)) (number_of v)

-- [01 W29 W31 W34 T8]
unfoldable pub kept_target : Bool → Bool → ℕ → ℕ
kept_target child messages v = packed (hart_of v) hart_at
    (cond messages (receiver_of child v) (priority_of v))

-- [01 W35 T8]
unfoldable pub message_of : Bool → ℕ → ℕ
message_of child t = log_word (hart_of t) (cond child (guest_of t + 1) 0) (number_of t)
