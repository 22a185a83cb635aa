-- Laws of specs/Message.antt: the parts of a log word, and how they are read back. No contract cites this
-- file. Assumes nothing.
use Prim.Native.Nat.{ℕ, ◌<◌}
use mathlib.Core.Path.{◌≡◌}
use native.Mathlib.Omega.{arith}
use Rattle.words.proofs.PartsLaws.{field_of-is, packed-is}
use Rattle.file_message.specs.Message.{log_word, hart_in, file_in, identity_in}

-- what the fields of a word are as arithmetic, for the proofs here
pub ruleset fields = (field_of-is, packed-is)

-- ---- the parts of a log word

module _ (m : ℕ) where
  pub identity_in-lt : identity_in m < 256
  unfolding identity_in
  identity_in-lt = omega arith

-- each is read back from the word that was made of it
module _ (h f i : ℕ) (hh : h < 4) (hf : f < 8) (hi : i < 256) where
  pub hart_in-log_word : hart_in (log_word h f i) ≡ h
  unfolding hart_in log_word
  hart_in-log_word = omega arith

  pub file_in-log_word : file_in (log_word h f i) ≡ f
  unfolding file_in log_word
  file_in-log_word = omega arith

  pub identity_in-log_word : identity_in (log_word h f i) ≡ i
  unfolding identity_in log_word
  identity_in-log_word = omega arith
