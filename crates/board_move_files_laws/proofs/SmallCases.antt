-- Files of 63 identities, which have one word of each set: that the laws over n speak of them too. No
-- contract cites this file. Assumes nothing.
use Prim.Native.Nat.{ℕ, suc, ◌<◌}
use mathlib.Core.Path.{◌≡◌, refl}
use mathlib.Core.Bool.{Bool, true}
use native.Mathlib.Omega.{arith}
use Rattle.file.specs.declared.File.{File}
use Rattle.file.specs.declared.register.Access.TheVariants.{Read, Write}
use Rattle.file.specs.Shape.{Shaped}
use Rattle.file.specs.Reply.{reply_value}
use Rattle.file.specs.Register.{held, written, accessed_at, accessed}
use Rattle.file_laws.proofs.Keeps.{Rules}
use Rattle.board_move_steps.specs.Steps.{accesses, act_of}
use Rattle.board_move_files_laws.specs.Related.{Three, acted_on, Related}
use Rattle.board_move_files_laws.proofs.SelectEffects.{pending-past}
use Rattle.board_move_files_laws.proofs.WrittenEffects.{Sized}
use Rattle.board_move_files_laws.proofs.RelatedEffects.{related-act, Whole, related-end}

small-sized : Sized 63
small-sized = record { small = omega arith; whole = refl }

-- the second word is not there: it ignores a write and reads 0
small-unused : (g : Bool) (f : File) (v : ℕ)
    → ((accessed 63 g f Write 0x82 v).file ≡ f) × (reply_value (accessed 63 g f Read 0x82 v).answer ≡ 0)
unfolding accessed_at written held
small-unused g f v = (
  rw (pending-past 63 g f Write v 1 (omega arith) (omega arith)),
  rw (pending-past 63 g f Read v 1 (omega arith) (omega arith)),
)

small-act : (m : ℕ) (x : Three) (c : File) → m < accesses → Shaped x.old → Shaped x.new
    → Rules 63 true c → Related 63 m x c → Related 63 (suc m) (acted_on 63 (act_of (suc m)) x) c
small-act m x c = related-act 63 m x c small-sized

small-end : (x : Three) (c : File) → Whole 63 x.new → Whole 63 c → Related 63 accesses x c → x.new ≡ c
small-end x c = related-end 63 x c small-sized
