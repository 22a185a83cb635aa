-- What access m of a move does to the two files and the saved numbers, a line of the table each, where the
-- files have n identities. No contract cites this file. Assumes nothing.
--   with_number x p v    x with v saved at place p
--   with_old x f         x with the old file f, and so with_new
use Prim.Native.Nat.{ℕ, ◌+◌, ◌-◌, ◌*◌, ◌%◌, ◌≤◌, ◌<◌}
use mathlib.Core.Path.{◌≡◌}
use mathlib.Core.Bool.{true}
use native.Mathlib.Omega.{arith}
use lib.ListN.{get_or, set}
use Rattle.file_select.specs.Select.{eip0, eie0}
use Rattle.file_select.specs.Deliveries.{delivery_legal}
use Rattle.file_select.proofs.DeliveriesLaws.{legal-switch}
use Rattle.file.specs.declared.File.{File}
use Rattle.file.specs.declared.register.Access.TheVariants.{Read, Write, Set}
use Rattle.file.specs.Parts.{with_delivery, with_threshold}
use Rattle.file.specs.Reply.{reply_value}
use Rattle.file.specs.Register.{held, written, accessed_at}
use Rattle.file.proofs.RegisterLaws.{written-legal}
use Rattle.board_move_steps.specs.Steps.{delivery_at, threshold_at, pending_at, enable_at, act_of}
use Rattle.board_move_steps.proofs.StepsLaws.{act-delivery, act-threshold, act-silence, act-hold, act-clear}
use Rattle.board_move_steps.proofs.StepsLaws.{act-target, act-pending, act-enable, act-set, act-write}
use Rattle.board_move_steps.proofs.StepsLaws.{act-shut, act-open}
use Rattle.board_move_files_laws.specs.Related.{Three, guest_access, acted_on}
use Rattle.board_move_files_laws.proofs.SelectEffects.{delivery-access, threshold-access}

abbrev pub with_number : Three → ℕ → ℕ → Three
with_number x p v = record { old = x.old; new = x.new; numbers = set x.numbers p v }

abbrev pub with_old : Three → File → Three
with_old x f = record { old = f; new = x.new; numbers = x.numbers }

abbrev pub with_new : Three → File → Three
with_new x f = record { old = x.old; new = f; numbers = x.numbers }

off : delivery_legal true 0 ≡ true
off = legal-switch true 0 (omega arith)

module _ (n m : ℕ) (x : Three) where
  abbrev left : Three
  left = acted_on n (act_of m) x

  pub acted-delivery : m ≡ 1 → left ≡ with_number x delivery_at x.old.delivery
  unfolding acted_on accessed_at held
  acted-delivery e = rw (act-delivery, delivery-access)

  pub acted-threshold : m ≡ 2 → left ≡ with_number x threshold_at x.old.threshold
  unfolding acted_on accessed_at held
  acted-threshold e = rw (act-threshold, threshold-access)

  pub acted-silence : m ≡ 3 → left ≡ with_old x (with_delivery x.old 0)
  unfolding acted_on accessed_at
  acted-silence e = rw (act-silence, delivery-access, written-legal n true x.old 0 off)

  pub acted-hold : m ≡ 4 → left ≡ with_new x (with_delivery x.new 0)
  unfolding acted_on accessed_at
  acted-hold e = rw (act-hold, delivery-access, written-legal n true x.new 0 off)

  pub acted-clear : 5 ≤ m → m ≤ 8
      → left ≡ with_new x (guest_access n x.new Write (eip0 + 2 * (m - 5)) 0).file
  unfolding acted_on
  acted-clear l h = rw act-clear

  pub acted-target : 8 < m → m ≤ 71 → left ≡ x
  unfolding acted_on
  acted-target l h = rw (act-target m (omega arith) l h)

  pub acted-pending : 71 < m → m ≤ 75
      → left ≡ with_number x (pending_at (m - 72))
      (reply_value (guest_access n x.old Read (eip0 + 2 * (m - 72)) 0).answer)
  unfolding acted_on
  acted-pending l h = rw act-pending

  pub acted-enable : 75 < m → m ≤ 79
      → left ≡ with_number x (enable_at (m - 76))
      (reply_value (guest_access n x.old Read (eie0 + 2 * (m - 76)) 0).answer)
  unfolding acted_on
  acted-enable l h = rw act-enable

  pub acted-set : 79 < m → m ≤ 83
      → left ≡ with_new x
      (guest_access n x.new Set (eip0 + 2 * (m - 80)) (get_or x.numbers (pending_at (m - 80)) 0)).file
  unfolding acted_on
  acted-set l h = rw act-set

  pub acted-write : 83 < m → m ≤ 87
      → left ≡ with_new x
      (guest_access n x.new Write (eie0 + 2 * (m - 84)) (get_or x.numbers (enable_at (m - 84)) 0)).file
  unfolding acted_on
  acted-write l h = rw act-write

  pub acted-shut : m ≡ 88
      → left ≡ with_new x (with_threshold x.new (get_or x.numbers threshold_at 0 % (n + 1)))
  unfolding acted_on accessed_at written
  acted-shut e = rw (act-shut, threshold-access)

  pub acted-open : 88 < m → delivery_legal true (get_or x.numbers delivery_at 0) ≡ true
      → left ≡ with_new x (with_delivery x.new (get_or x.numbers delivery_at 0))
  unfolding acted_on accessed_at
  acted-open l legal = rw (act-open, delivery-access, written-legal)
