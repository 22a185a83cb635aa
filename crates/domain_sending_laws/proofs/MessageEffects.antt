-- The file that a message names is that of its source's target, so every message that is sent names a file
-- that exists. No contract cites this file. Assumes nothing.
use Prim.Native.Nat.{ℕ, zero, suc, ◌+◌, ◌-◌, ◌≤◌, ◌<◌}
use mathlib.Core.Path.{◌≡◌, refl, sym, ap, ◌∙◌, subst}
use mathlib.Core.Bool.{Bool, true, false}
use mathlib.Core.List.{List, [], ◌∷◌, ◌++◌}
use native.Mathlib.Decide.{dec_lt}
use native.Mathlib.Omega.{arith}
use lib.ListN.{length, get_or, take, drop, length-append, get_or-append}
use lib.Seq.{get_or-append-add, take_at}
use Rattle.words.proofs.TestsLaws.{tested, not_same}
use Rattle.file_message.specs.Message.{log_word, file_in}
use Rattle.source_target.specs.Target.{hart_of, guest_of, number_of, message_of}
use Rattle.domain_genmsi.specs.Genmsi.{genmsi_message}
use Rattle.source_target.proofs.TargetLaws.{hart_of-lt, guest_of-lt, number_of-lt, message-child}
use Rattle.source_target.proofs.TargetLaws.{message-machine}
use Rattle.file_message.proofs.MessageLaws.{file_in-log_word}
use Rattle.domain_genmsi.proofs.GenmsiLaws.{genmsi-child, genmsi-machine}
use Rattle.domain.specs.Domain.{Domain, sends}
use Rattle.domain.specs.Slot.{source_at}
use Rattle.domain_sending.specs.Sending.{candidate, served_at, messages_at, sent_from, sent, logged}
use Rattle.domain_sending.proofs.SendingLaws.{messages-hit, messages-miss, sent-on, sent-off}
use Rattle.domain_sending_laws.specs.Candidates.{Names}

-- ---- a message, to the file that its target names

module _ (c : Bool) (m f : ℕ) (e : file_in m ≡ f) where
  names-child : c ≡ true → 1 ≤ f → f < 5 → Names c m
  names-child y l h =
      record { exists = omega arith; machine = λ n. absurd (not_same c y n); child = λ _. omega arith }

  names-machine : c ≡ false → f ≡ 0 → Names c m
  names-machine n z =
      record { exists = omega arith; machine = λ _. e ∙ z; child = λ y. absurd (not_same c y n) }

module _ (c : Bool) (t : ℕ) where
  -- a log word with the target's hart and identity
  abbrev word_to : ℕ → ℕ
  word_to f = log_word (hart_of t) f (number_of t)

  file_in-word_to : (f : ℕ) → f < 8 → file_in (word_to f) ≡ f
  file_in-word_to f h = file_in-log_word (hart_of t) f (number_of t) (hart_of-lt t) h (number_of-lt t)

  pub file_in-child : c ≡ true → file_in (message_of c t) ≡ guest_of t + 1
  file_in-child e =
      ap file_in (message-child c t e) ∙ file_in-word_to (guest_of t + 1) (omega (arith, guest_of-lt t))

  pub file_in-machine : c ≡ false → file_in (message_of c t) ≡ 0
  file_in-machine e = ap file_in (message-machine c t e) ∙ file_in-word_to 0 (omega arith)

  pub message-names : Names c (message_of c t)
  message-names =
      tested c
      (λ y. names-child c (message_of c t) (guest_of t + 1) (file_in-child y) y (omega arith)
      (omega (arith, guest_of-lt t)))
      (λ n. names-machine c (message_of c t) 0 (file_in-machine n) n refl)

  -- the message of a genmsi write, to the machine file or the supervisor file
  pub genmsi-names : Names c (genmsi_message c t)
  genmsi-names =
      tested c
      (λ y. names-child c (genmsi_message c t) 1
      (ap file_in (genmsi-child c t y) ∙ file_in-word_to 1 (omega arith)) y (omega arith) (omega arith))
      (λ n. names-machine c (genmsi_message c t) 0
      (ap file_in (genmsi-machine c t n) ∙ file_in-word_to 0 (omega arith)) n refl)

-- ---- what holds of every word of a list

abbrev pub Every : (ℕ → Type 0) → List ℕ → Type 0
Every P ms = (k : ℕ) → k < length ms → P (get_or ms k 0)

pub every-none : (P : ℕ → Type 0) → Every P []
every-none P k h = absurd (omega arith)

pub every_one : (P : ℕ → Type 0) (m : ℕ) → P m → Every P (m ∷ [])
every_one P m p zero h = p
every_one P m p (suc k) h = absurd (omega arith)

pub every_append : (P : ℕ → Type 0) (us vs : List ℕ) → Every P us → Every P vs → Every P (us ++ vs)
every_append P us vs hu hv k h = at (dec_lt k (length us))
  where
    at : Dec (k < length us) → P (get_or (us ++ vs) k 0)
    at (yes l) = subst P (sym (get_or-append us vs 0 k l)) (hu k l)
    at (no n) =
        let place : k ≡ length us + (k - length us) = omega arith in
        subst P
        (sym (ap (λ (i : ℕ). get_or (us ++ vs) i 0) place ∙ get_or-append-add us vs (k - length us) 0))
        (hv (k - length us) (omega (arith, length-append us vs)))

-- ---- the messages of a pass

turn-named : (c : Bool) (d : Domain) (i : ℕ) → Every (Names c) (messages_at c d i)
turn-named c d i =
    let t = (source_at d i).target in
    tested (candidate (source_at d i))
    (λ y. rw (messages-hit c d i y) (every_one (Names c) (message_of c t) (message-names c t)))
    (λ n. rw (messages-miss c d i n) (every-none (Names c)))

pub from_named : (c : Bool) (d : Domain) (i n : ℕ) → Every (Names c) (sent_from c d i n).messages
unfolding sent_from
from_named c d i zero = every-none (Names c)
from_named c d i (suc n) =
    every_append (Names c) (messages_at c d i) (sent_from c (served_at d i) (suc i) n).messages
    (turn-named c d i) (from_named c (served_at d i) (suc i) n)

module _ (c : Bool) (d : Domain) where
  pub sent-named : (k : ℕ) → k < length (sent c d).messages → Names c (get_or (sent c d).messages k 0)
  sent-named =
      tested (sends d) (λ t. rw (sent-on c d t) (from_named c d 1 63))
      (λ f. rw (sent-off c d f) (every-none (Names c)))

-- what holds of every message holds of the words that they take in the log
pub logged-every : (P : ℕ → Type 0) (ms l : List ℕ) → Every P ms → (k : ℕ) → k < length ms
    → P (get_or (logged l ms) k 0)
unfolding logged
logged-every P ms l every k h = subst P (sym (get_or-append ms (drop (length ms) l) 0 k h)) (every k h)

-- what was logged first is read back
pub logged-back : (ms l : List ℕ) (n : ℕ) → n ≡ length ms → take n (logged l ms) ≡ ms
unfolding logged
logged-back ms l n e = take_at ms (drop (length ms) l) n (sym e)
