-- Claim-146, on the parts of a target and of a message, in plain numbers. 01, "The wired controller".
-- Premises: the parts of a message are in their ranges, as those that a domain sends are (Claim-52).
-- No axioms.
use Rattle.std.specs.Prelude.{ℕ, ◌+◌, ◌*◌, ◌/◌, ◌%◌, ◌^◌, ◌<◌, ◌≡◌, true, false}
use Rattle.file_message.specs.Message.{log_word, hart_in, file_in, identity_in}
use Rattle.files.specs.Files.{named_by}
use Rattle.source_target.specs.Target.{hart_of, guest_of, number_of, start_target, message_of}

-- a target has its hart in bits 19:18, in the child its guest index in 13:12, and its priority or identity in
-- 7:0; its start value is 1 in direct mode and 0 by messages; its message is logged as hart × 2048 + file ×
-- 256 + identity, file 0 from the machine domain and 1 + guest index from the child; and a logged word names
-- that file of that hart, with that identity
-- [01 W30 W31 W32 W33 W35 W49]
unfoldable pub Claim-146 : Type 0
Claim-146 =
    ((t : ℕ) → (hart_of t ≡ t / 2 ^ 18 % 4) × (guest_of t ≡ t / 2 ^ 12 % 4) × (number_of t ≡ t % 256))
    × ((start_target false ≡ 1) × (start_target true ≡ 0))
    × ((t : ℕ)
    → (message_of false t ≡ hart_of t * 2048 + number_of t)
    × (message_of true t ≡ hart_of t * 2048 + (guest_of t + 1) * 256 + number_of t))
    × ((h f i : ℕ) → h < 4 → f < 8 → i < 256 → let m = h * 2048 + f * 256 + i in
    (log_word h f i ≡ m) × (hart_in m ≡ h) × (file_in m ≡ f) × (identity_in m ≡ i) × (named_by m ≡ 5 * h + f))
