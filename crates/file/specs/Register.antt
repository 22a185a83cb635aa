-- What a file's registers hold, and an access to one; the select numbers and the words behind them are in
-- the crate file_select. 01, "One message file", "Calls and their refusals". Assumes nothing.
--   held f r                   what register r of f reads
--   written n g f r v          f after v was written to r; g says that f is a guest's file
--   accessed_at n g f k r v    an access of kind k to register r: the answer and the file after it
--   accessed n g f k s v       the same by select number s; an illegal one has no answer, and leaves f
use Rattle.std.specs.Prelude.{ℕ, ◌+◌, ◌%◌, Bool, cond, Some, None}
use Rattle.words.specs.Bits.{union, without}
use Rattle.file_select.specs.declared.Register.{Register}
use Rattle.file_select.specs.declared.Register.TheVariants.{Delivery, Threshold, Pending, Enable, Unused}
use Rattle.file_select.specs.Select.{select_legal, register_of}
use Rattle.file_select.specs.Halves.{doubleword, put_doubleword}
use Rattle.file_select.specs.Deliveries.{delivery_legal}
use Rattle.file.specs.declared.File.{File}
use Rattle.file.specs.declared.register.Access.{Access}
use Rattle.file.specs.declared.register.Access.TheVariants.{Read, Write, Set, Clear}
use Rattle.file.specs.declared.register.Accessed.{Accessed}
use Rattle.file.specs.Parts.{with_delivery, with_threshold, with_pending_set, with_enable}

unfoldable pub held : File → Register → ℕ
held f Delivery = f.delivery
held f Threshold = f.threshold
held f (Pending j) = doubleword f.pending j
held f (Enable j) = doubleword f.enable j
held f Unused = 0

-- [01 F7 F8]
unfoldable pub written : ℕ → Bool → File → Register → ℕ → File
written n g f Delivery v = cond (delivery_legal g v) (with_delivery f v) f
written n g f Threshold v = with_threshold f (v % (n + 1))
written n g f (Pending j) v = with_pending_set f (put_doubleword f.pending j v)
written n g f (Enable j) v = with_enable f (put_doubleword f.enable j v)
written n g f Unused v = f

-- set and clear answer the old value, and a write 0
-- [01 C5 C7]
unfoldable pub accessed_at : ℕ → Bool → File → Access → Register → ℕ → Accessed
accessed_at n g f Read r v = record { answer = Some (held f r); file = f }
accessed_at n g f Write r v = record { answer = Some 0; file = written n g f r v }
accessed_at n g f Set r v = record { answer = Some (held f r); file = written n g f r (union (held f r) v) }
accessed_at n g f Clear r v =
    record { answer = Some (held f r); file = written n g f r (without (held f r) v) }

-- [01 C3 X2]
unfoldable pub accessed : ℕ → Bool → File → Access → ℕ → ℕ → Accessed
accessed n g f k s v =
    cond (select_legal s) (accessed_at n g f k (register_of n s) v) (record { answer = None; file = f })
