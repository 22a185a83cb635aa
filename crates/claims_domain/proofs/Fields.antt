-- The proof of Claim-146. Assumes nothing.
use Prim.Native.Nat.{ℕ, ◌+◌, ◌*◌, ◌<◌}
use mathlib.Core.Path.{◌≡◌, refl}
use native.Mathlib.Omega.{arith}
use Rattle.words.specs.Parts.{field_of}
use Rattle.file_message.specs.Message.{log_word}
use Rattle.file_message.proofs.MessageLaws.{hart_in-log_word, file_in-log_word, identity_in-log_word}
use Rattle.files.specs.Files.{named_by, file_number}
use Rattle.source_target.specs.Target.{hart_of, guest_of, number_of, start_target, message_of}
use Rattle.claims_domain.specs.Fields.{Claim-146}

-- a word that is put together names the file that it was made for
module _ (h f i : ℕ) (a : h < 4) (b : f < 8) (c : i < 256) where
  named : named_by (h * 2048 + f * 256 + i) ≡ 5 * h + f
  unfolding named_by file_number log_word
  named = simp (hart_in-log_word h f i a b c, file_in-log_word h f i a b c)

pub claim-146 : Claim-146
unfolding Claim-146 hart_of guest_of number_of field_of start_target message_of log_word
claim-146 = (
  (λ t. (refl, refl, omega arith)),
  (refl, refl),
  (λ t. (omega arith, refl)),
  (λ h f i a b c. (
    refl,
    hart_in-log_word h f i a b c,
    file_in-log_word h f i a b c,
    identity_in-log_word h f i a b c,
    named h f i a b c,
  )),
)
