-- The register behind a select number of the table, in a file of n identities: one that is there, or, past
-- the words that the file has, one that reads 0. No contract cites this file. Assumes nothing.
use Prim.Native.Nat.{ℕ, ◌+◌, ◌*◌, ◌/◌, ◌%◌, ◌≤◌, ◌<◌}
use mathlib.Core.Path.{◌≡◌, refl, sym, ap, ◌∙◌}
use mathlib.Core.Bool.{Bool, true}
use native.Mathlib.Decide.{dec_lt}
use native.Mathlib.Omega.{arith}
use borrow.Author.Tests.{ne_eqb}
use Rattle.words.specs.Bits.{union}
use Rattle.words.proofs.TestsLaws.{tested}
use Rattle.file_select.specs.declared.Register.{Register}
use Rattle.file_select.specs.declared.Register.TheVariants.{Delivery, Threshold, Pending, Enable, Unused}
use Rattle.file_select.specs.Select.{eidelivery, eithreshold, eip0, eie0, select_legal, register_of}
use Rattle.file_select.proofs.SelectLaws.{legal-named, legal-words, words-there, words-past}
use Rattle.file_select.proofs.SelectLaws.{register-delivery, register-threshold, register-pending}
use Rattle.file_select.proofs.SelectLaws.{register-enable}
use Rattle.file.specs.declared.File.{File}
use Rattle.file.specs.declared.register.Access.{Access}
use Rattle.file.specs.declared.register.Access.TheVariants.{Read, Write, Set}
use Rattle.file.specs.Reply.{reply_value}
use Rattle.file.specs.Register.{accessed_at, accessed}
use Rattle.file.proofs.RegisterLaws.{accessed-kind}

-- m is below k or it is not
pub below : {C : Type 0} (m k : ℕ) → (m < k → C) → (k ≤ m → C) → C
below {C} m k p q = at (dec_lt m k)
  where
    at : Dec (m < k) → C
    at (yes h) = p h
    at (no h) = q (omega arith)

even-legal : (s : ℕ) → eip0 ≤ s → s ≤ 0xFF → s % 2 ≡ 0 → select_legal s ≡ true
even-legal s l h e = legal-words s l h ∙ simp (ne_eqb (s % 2) 1 (λ q. omega arith))

module _ (n : ℕ) (g : Bool) (f : File) (kind : Access) (v : ℕ) where
  access : (s : ℕ) (r : Register) → select_legal s ≡ true → register_of n s ≡ r
      → accessed n g f kind s v ≡ accessed_at n g f kind r v
  access s r legal named = accessed-kind n g f kind s v r kind legal (sym named) refl

  pub delivery-access : accessed n g f kind eidelivery v ≡ accessed_at n g f kind Delivery v
  delivery-access =
      access eidelivery Delivery (legal-named eidelivery (omega arith) (omega arith))
      (register-delivery n eidelivery refl)

  pub threshold-access : accessed n g f kind eithreshold v ≡ accessed_at n g f kind Threshold v
  threshold-access =
      access eithreshold Threshold (legal-named eithreshold (omega arith) (omega arith))
      (register-threshold n eithreshold refl)

  module _ (k : ℕ) (low : k < 4) where
    abbrev eip : ℕ
    eip = eip0 + 2 * k

    abbrev eie : ℕ
    eie = eie0 + 2 * k

    eip-access : (r : Register) → register_of n eip ≡ r → accessed n g f kind eip v
        ≡ accessed_at n g f kind r v
    eip-access r = access eip r (even-legal eip (omega arith) (omega arith) (omega arith))

    eie-access : (r : Register) → register_of n eie ≡ r → accessed n g f kind eie v
        ≡ accessed_at n g f kind r v
    eie-access r = access eie r (even-legal eie (omega arith) (omega arith) (omega arith))

    pub pending-there : k ≤ n / 64 → accessed n g f kind eip v ≡ accessed_at n g f kind (Pending k) v
    pending-there h =
        eip-access (Pending k)
        (register-pending n eip (omega arith) (omega arith) ∙ words-there n eip0 Pending eip (omega arith)
        ∙ ap Pending (omega arith))

    pub pending-past : n / 64 < k → accessed n g f kind eip v ≡ accessed_at n g f kind Unused v
    pending-past h =
        eip-access Unused
        (register-pending n eip (omega arith) (omega arith) ∙ words-past n eip0 Pending eip (omega arith))

    pub enable-there : k ≤ n / 64 → accessed n g f kind eie v ≡ accessed_at n g f kind (Enable k) v
    enable-there h =
        eie-access (Enable k)
        (register-enable n eie (omega arith) ∙ words-there n eie0 Enable eie (omega arith)
        ∙ ap Enable (omega arith))

    pub enable-past : n / 64 < k → accessed n g f kind eie v ≡ accessed_at n g f kind Unused v
    enable-past h =
        eie-access Unused
        (register-enable n eie (omega arith) ∙ words-past n eie0 Enable eie (omega arith))

-- to set bits is to write them with those that are there
pub set-writes : (n : ℕ) (g : Bool) (f : File) (s v : ℕ)
    → (accessed n g f Set s v).file
    ≡ (accessed n g f Write s (union (reply_value (accessed n g f Read s 0).answer) v)).file
unfolding accessed accessed_at
set-writes n g f s v = tested (select_legal s) (λ t. simp t) (λ u. simp u)
