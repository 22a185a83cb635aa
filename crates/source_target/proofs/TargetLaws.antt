-- Laws of specs/Target.antt. No contract cites this file. Assumes nothing.
use Prim.Native.Nat.{ℕ, ◌+◌, ◌/◌, ◌%◌, ◌^◌, ◌<◌}
use mathlib.Core.Path.{◌≡◌, ◌∙◌}
use mathlib.Core.Bool.{Bool, true, false}
use mathlib.Core.Logic.{◌≢◌}
use native.Mathlib.Omega.{arith}
use borrow.Author.Tests.{eq-eqb, ne_eqb}
use Rattle.words.specs.Parts.{packed}
use Rattle.words.proofs.PartsLaws.{field_of-lt, field_of-is, packed-is}
use Rattle.file_message.specs.Message.{log_word}
use Rattle.source_target.specs.Target.{hart_of, guest_of, number_of, priority_of, receiver_of}
use Rattle.source_target.specs.Target.{kept_target, message_of}

module _ (t : ℕ) where
  pub hart_of-lt : hart_of t < 4
  unfolding hart_of
  hart_of-lt = field_of-lt t 18 2

  pub guest_of-lt : guest_of t < 4
  unfolding guest_of
  guest_of-lt = field_of-lt t 12 2

  pub number_of-lt : number_of t < 256
  unfolding number_of
  number_of-lt = field_of-lt t 0 8

  -- each as a quotient and a remainder
  pub hart_of-is : hart_of t ≡ t / 2 ^ 18 % 2 ^ 2
  unfolding hart_of
  hart_of-is = field_of-is t 18 2

  pub guest_of-is : guest_of t ≡ t / 2 ^ 12 % 2 ^ 2
  unfolding guest_of
  guest_of-is = field_of-is t 12 2

  pub number_of-is : number_of t ≡ t % 2 ^ 8
  unfolding number_of
  number_of-is = field_of-is t 0 8 ∙ omega arith

-- ---- what a write keeps, and what is sent

module _ (c m : Bool) (v : ℕ) where
  pub kept-first : m ≡ false → number_of v ≡ 0 → kept_target c m v ≡ packed (hart_of v) 18 1
  unfolding kept_target priority_of
  kept-first e z = simp (e, eq-eqb (number_of v) 0 z)

  pub kept-priority : m ≡ false → number_of v ≢ 0 → kept_target c m v ≡ packed (hart_of v) 18 (number_of v)
  unfolding kept_target priority_of
  kept-priority e z = simp (e, ne_eqb (number_of v) 0 z)

  pub kept-child : m ≡ true → c ≡ true
      → kept_target c m v ≡ packed (hart_of v) 18 (packed (guest_of v) 12 (number_of v))
  unfolding kept_target receiver_of
  kept-child e d = simp (e, d)

  pub kept-machine : m ≡ true → c ≡ false → kept_target c m v ≡ packed (hart_of v) 18 (number_of v)
  unfolding kept_target receiver_of
  kept-machine e d = simp (e, d)

module _ (c : Bool) (t : ℕ) where
  pub message-child : c ≡ true → message_of c t ≡ log_word (hart_of t) (guest_of t + 1) (number_of t)
  unfolding message_of
  message-child e = simp e

  pub message-machine : c ≡ false → message_of c t ≡ log_word (hart_of t) 0 (number_of t)
  unfolding message_of
  message-machine e = simp e

-- a guest index above an identity has fewer than 18 bits
pub receiver-lt : (g i : ℕ) → g < 4 → i < 256 → packed g 12 i < 2 ^ 18
receiver-lt g i hg hi = omega (arith, packed-is g 12 i)
