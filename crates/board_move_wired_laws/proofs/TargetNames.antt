-- The file that a target of the child names: what rewriting a target does to it, and that a message reaches
-- the file that its target names, which one law says. No contract cites this file. Assumes nothing.
use Prim.Native.Nat.{ℕ, ◌+◌, ◌-◌, ◌≤◌, ◌<◌}
use mathlib.Core.Path.{◌≡◌, refl, sym, ap₂, ◌∙◌}
use mathlib.Core.Bool.{Bool, true, false, cond}
use mathlib.Core.List.{List}
use mathlib.Core.Logic.{◌≢◌}
use native.Mathlib.Omega.{arith}
use lib.Dec.{eqb}
use borrow.Author.Tests.{eqb-true, eq-eqb}
use Rattle.words.specs.Parts.{field_of, packed}
use Rattle.words.proofs.TestsLaws.{tested, and_first, and_second, and_both, not_same}
use Rattle.sizes.specs.Sizes.{identities}
use Rattle.file.specs.declared.File.{File}
use Rattle.file.specs.Page.{arrived}
use Rattle.file_message.specs.Message.{identity_in}
use Rattle.source_target.specs.Target.{hart_at, hart_of, guest_of, number_of, kept_target, message_of}
use Rattle.source_target.proofs.TargetLaws.{hart_of-lt, guest_of-lt, number_of-lt, kept-child}
use Rattle.file_message.proofs.MessageLaws.{hart_in-log_word, file_in-log_word, identity_in-log_word}
use Rattle.files.specs.Files.{file_number, the_file, with_file, named_by, reached}
use Rattle.board_move_steps.specs.Names.{names_file, renamed}

-- ---- the names of a target

module _ (t h f : ℕ) where
  pub names-number : names_file t h f ≡ true → (hart_of t ≡ h) × (guest_of t + 1 ≡ f)
  unfolding names_file
  names-number e =
      let a = eqb (hart_of t) h in
      let b = eqb (guest_of t + 1) f in
      (eqb-true (hart_of t) h (and_first a b e), eqb-true (guest_of t + 1) f (and_second a b e))

  pub number-names : hart_of t ≡ h → guest_of t + 1 ≡ f → names_file t h f ≡ true
  unfolding names_file
  number-names p q = and_both (eqb (hart_of t) h) (eqb (guest_of t + 1) f) (eq-eqb _ _ p) (eq-eqb _ _ q)

  -- file numbers 5 h + f differ for different pairs, as f is below 5
  pub names-other : f < 5 → names_file t h f ≡ false → file_number (hart_of t)
      (guest_of t + 1) ≢ file_number h f
  unfolding file_number
  names-other hf n e =
      let small = guest_of-lt t in
      not_same (names_file t h f) (number-names (omega arith) (omega arith)) n

-- ---- a target that is rewritten

module _ (t h f : ℕ) (hh : h < 4) (lf : 1 ≤ f) (hf : f < 5) where
  pub hart_of-renamed : hart_of (renamed t h f) ≡ h
  unfolding hart_of renamed field_of packed
  hart_of-renamed = omega (arith, number_of-lt t)

  pub guest_of-renamed : guest_of (renamed t h f) + 1 ≡ f
  unfolding guest_of renamed field_of packed
  guest_of-renamed = omega (arith, number_of-lt t)

  pub number_of-renamed : number_of (renamed t h f) ≡ number_of t
  unfolding number_of renamed field_of packed
  number_of-renamed = omega arith

  -- the child stores it as it is
  pub kept-renamed : kept_target true true (renamed t h f) ≡ renamed t h f
  unfolding renamed
  kept-renamed =
      let guest : guest_of (renamed t h f) ≡ f - 1 = omega (arith, guest_of-renamed) in
      kept-child true true (renamed t h f) refl refl
      ∙ ap₂ (λ (x y : ℕ). packed x hart_at y) hart_of-renamed
      (ap₂ (λ (x y : ℕ). packed x 12 y) guest number_of-renamed)

  pub renamed-names : names_file (renamed t h f) h f ≡ true
  renamed-names = number-names (renamed t h f) h f hart_of-renamed guest_of-renamed

  -- and no other file
  pub renamed-other : (h' f' : ℕ) → (h ≡ h' → f ≡ f' → ⊥) → names_file (renamed t h f) h' f' ≡ false
  renamed-other h' f' apart =
      let own = renamed t h f in
      tested (names_file own h' f')
      (λ y. let e = names-number own h' f' y in
      absurd (apart (sym hart_of-renamed ∙ e.0) (sym guest_of-renamed ∙ e.1)))
      (λ n. n)

-- ---- a message and the file that it names

-- the file of its hart that a domain's target names: the machine file, or 1 + guest index in the child
abbrev pub file_of : Bool → ℕ → ℕ
file_of c t = cond c (guest_of t + 1) 0

-- a message is the log word of its target
module _ (c : Bool) (t : ℕ) where
  file-lt : file_of c t < 8
  file-lt = tested c (λ e. rw e (omega (arith, guest_of-lt t))) (λ e. rw e (omega arith))

  pub message-named : named_by (message_of c t) ≡ file_number (hart_of t) (file_of c t)
  unfolding named_by message_of
  message-named =
      ap₂ file_number (hart_in-log_word (hart_of t) (file_of c t) (number_of t) (hart_of-lt t) file-lt
      (number_of-lt
      t))
      (file_in-log_word (hart_of t) (file_of c t) (number_of t) (hart_of-lt t) file-lt (number_of-lt t))

  message-identity : identity_in (message_of c t) ≡ number_of t
  unfolding message_of
  message-identity =
      identity_in-log_word (hart_of t) (file_of c t) (number_of t) (hart_of-lt t) file-lt (number_of-lt t)

  -- a message reaches the file that its target names: the one law of where it goes
  pub message-reaches : (fs : List File)
      → let k = file_number (hart_of t) (file_of c t) in
      reached fs (message_of c t) ≡ with_file fs k (arrived identities (the_file fs k) (number_of t))
  unfolding reached
  message-reaches fs = rw (message-named, message-identity)
