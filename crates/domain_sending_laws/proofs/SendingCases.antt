-- Cases by computing: what a domain sends. 01, "Table cases", T8. No contract cites this file. Assumes
-- nothing.
use Prim.Native.Nat.{ℕ}
use mathlib.Core.Path.{◌≡◌, refl}
use mathlib.Core.Bool.{true, false}
use mathlib.Core.List.{[], ◌∷◌}
use lib.ListN.{set, replicate}
use Rattle.words.specs.Bits.{bit_of, has_bit, without_bit}
use Rattle.words.specs.Parts.{field_of}
use Rattle.words.specs.Sets.{member, remove, put}
use Rattle.source_mode.specs.Mode.{is_active}
use Rattle.file_message.specs.Message.{log_word}
use Rattle.source_target.specs.Target.{hart_of, guest_of, number_of, message_of}
use Rattle.domain.specs.Domain.{Domain, domaincfg_of, is_enabled, by_messages}
use Rattle.domain.specs.Slot.{source_at, with_source}
use Rattle.domain_sending.specs.Sending.{candidate, served_at, messages_at, sent_from, sent, logged}

-- a domain with domaincfg v. Sources 2, 7 and 40 are Edge1; 2 and 7 are pending, 7 and 40 are enabled; the
-- target of 7 is hart 2, guest 1, identity 40.
abbrev some : ℕ → Domain
some v =
    record {
      source = set (set (set (set (replicate 64 0) 0 v) 2 4) 7 4) 40 4;
      target = set (replicate 64 0) 7 0x00081028;
      pending = 132 ∷ 0 ∷ [];
      enable = 128 ∷ 256 ∷ [];
      delivery = replicate 12 0;
    }

-- with IE and DM source 7 is sent, in the child as T8 says, in the machine domain to file 0
case-sent : ((sent true (some 0x104)).messages ≡ 4648 ∷ []) × ((sent false (some 0x104)).messages ≡ 4136 ∷ [])
unfolding sent sent_from served_at messages_at candidate source_at with_source domaincfg_of is_enabled
    by_messages
    is_active message_of log_word hart_of guest_of number_of field_of member put remove without_bit has_bit
    bit_of
case-sent = (refl, refl)

-- and only its pending bit is cleared
case-cleared : (sent true (some 0x104)).domain.pending ≡ 4 ∷ 0 ∷ []
unfolding sent sent_from served_at candidate source_at with_source domaincfg_of is_enabled by_messages
    is_active
    messages_at message_of log_word hart_of guest_of number_of field_of member put remove without_bit has_bit
    bit_of
case-cleared = refl

-- with DM alone, or IE alone, nothing is
case-off : ((sent true (some 0x004)).messages ≡ []) × ((sent true (some 0x100)).messages ≡ [])
unfolding sent domaincfg_of is_enabled by_messages has_bit bit_of
case-off = (refl, refl)

-- the message comes first in the log, the later words stay
case-logged : logged (9 ∷ 8 ∷ 7 ∷ []) (4648 ∷ []) ≡ 4648 ∷ 8 ∷ 7 ∷ []
unfolding logged
case-logged = refl
