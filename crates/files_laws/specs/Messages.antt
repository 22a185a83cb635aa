-- What a list of messages brings to a file. 01, "The board"; the standard 3.5. Assumes nothing.
--   names k m            the message m names file number k
--   brings k i m         it names file number k, with identity i
--   any_of p ms          p holds of a message of ms
--   PendingOnly f f'     f' is f in all but its pending set
use Rattle.std.specs.Prelude.{ℕ, ◌≡◌, Bool, false, ◌&&◌, ◌||◌, List, [], ◌∷◌, eqb}
use Rattle.file_message.specs.Message.{identity_in}
use Rattle.file.specs.declared.File.{File}
use Rattle.files.specs.Files.{named_by}

unfoldable pub names : ℕ → ℕ → Bool
names k m = eqb (named_by m) k

unfoldable pub brings : ℕ → ℕ → ℕ → Bool
brings k i m = names k m && eqb (identity_in m) i

unfoldable pub any_of : (ℕ → Bool) → List ℕ → Bool
any_of p [] = false
any_of p (m ∷ ms) = p m || any_of p ms

pub record PendingOnly (f f' : File) : Type 0 where
  pub delivery : f'.delivery ≡ f.delivery
  pub threshold : f'.threshold ≡ f.threshold
  pub enable : f'.enable ≡ f.enable
