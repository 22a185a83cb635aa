-- Laws of specs/Genmsi.antt: what is stored, logged and answered in each delivery mode. No contract cites
-- this file. Assumes nothing.
use Prim.Native.Nat.{ℕ}
use mathlib.Core.Path.{◌≡◌, refl, sym, ap, ◌∙◌}
use mathlib.Core.Bool.{Bool, true, false}
use mathlib.Core.List.{List, [], ◌∷◌}
use lib.ListN.{length, set}
use Rattle.file_message.specs.Message.{log_word}
use Rattle.source_target.specs.Target.{hart_of, number_of}
use Rattle.domain.specs.Domain.{Domain, by_messages, with_genmsi}
use Rattle.domain_sending.specs.Sending.{logged}
use Rattle.domain_sending.proofs.SendingLaws.{logged_none, logged-one}
use Rattle.domain_genmsi.specs.Genmsi.{kept_genmsi, genmsi_message, genmsi_written, genmsi_sent}

module _ (c : Bool) (t : ℕ) where
  pub genmsi-child : c ≡ true → genmsi_message c t ≡ log_word (hart_of t) 1 (number_of t)
  unfolding genmsi_message
  genmsi-child e = simp e

  pub genmsi-machine : c ≡ false → genmsi_message c t ≡ log_word (hart_of t) 0 (number_of t)
  unfolding genmsi_message
  genmsi-machine e = simp e

module _ (d : Domain) (v : ℕ) where
  pub genmsi-messages : by_messages d ≡ true → genmsi_written d v ≡ with_genmsi d (kept_genmsi v)
  unfolding genmsi_written
  genmsi-messages e = simp e

  pub genmsi-direct : by_messages d ≡ false → genmsi_written d v ≡ d
  unfolding genmsi_written
  genmsi-direct e = simp e

module _ (c : Bool) (d : Domain) (v : ℕ) where
  pub genmsi-on : by_messages d ≡ true → genmsi_sent c d v ≡ genmsi_message c v ∷ []
  unfolding genmsi_sent
  genmsi-on e = simp e

  pub genmsi-off : by_messages d ≡ false → genmsi_sent c d v ≡ []
  unfolding genmsi_sent
  genmsi-off e = simp e

  -- what the code leaves and answers
  pub answered-off : by_messages d ≡ false → (l : List ℕ)
      → (l ≡ logged l (genmsi_sent c d v)) × (0 ≡ length (genmsi_sent c d v))
  answered-off e l = rw (genmsi-off e) (sym (logged_none l), refl)

  pub answered-on : by_messages d ≡ true → (l : List ℕ) → length l ≡ 63 → (m : ℕ) → m ≡ genmsi_message c v
      → (set l 0 m ≡ logged l (genmsi_sent c d v)) × (1 ≡ length (genmsi_sent c d v))
  answered-on e l h m em = rw (genmsi-on e) (ap (set l 0) em ∙ logged-one l h (genmsi_message c v), refl)
