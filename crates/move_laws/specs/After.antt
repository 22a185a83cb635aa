-- The rest of the shift, after the move: the station's calls go to its new file, beside the same shift
-- without the move, in which they go to its old one. 01, "The move, with its premises"; the auditor's
-- question. Assumes nothing.
--   FileCall         a call on a message file, without the file: its page read or written, a register
--                    accessed, its top, a claim
--   call_on h f c    the call c on file f of hart h
--   Later            what then happens: wire i is set to a level; v is written at offset a of the page of
--                    file f of hart h; the station makes the call c on its file; another one makes it on its
--                    own, file f of hart h
--   then_here m es   the calls of this, where the station was moved: its own are on new
--   then_there m es  the same where it was not: its own are on old, and page writes to new go to old
--   LaterKept m es   nobody writes to the page of old, or calls for another station on old or new; and the
--                    value of each register access has 64 bits
use Rattle.std.specs.Prelude.{ℕ, ◌≡◌, true, false, cond, List, [], ◌∷◌}
use Rattle.board_call.specs.declared.Call.{Call}
use Rattle.board_call.specs.declared.Call.TheVariants.{Wire, PageRead, PageWrite, Register, Top, Claim}
use Rattle.board_call_laws.specs.Small.{Small}
use Rattle.move_laws.specs.Shift.{Stations, is_old, is_new, is_neither}

pub data FileCall : Type 0 where
  page_read : (a : ℕ) → FileCall
  page_write : (a v : ℕ) → FileCall
  register : (k s v : ℕ) → FileCall
  top : FileCall
  claim : FileCall

abbrev pub call_on : ℕ → ℕ → FileCall → Call
call_on h f (FileCall.page_read a) = PageRead h f a
call_on h f (FileCall.page_write a v) = PageWrite h f a v
call_on h f (FileCall.register k s v) = Register h f k s v
call_on h f FileCall.top = Top h f
call_on h f FileCall.claim = Claim h f

pub data Later : Type 0 where
  wire : (i level : ℕ) → Later
  page : (h f a v : ℕ) → Later
  own : (c : FileCall) → Later
  other : (h f : ℕ) (c : FileCall) → Later

unfoldable pub then_here : Stations → List Later → List Call
then_here m [] = []
then_here m (Later.wire i level ∷ es) = Wire i level ∷ then_here m es
then_here m (Later.page h f a v ∷ es) = PageWrite h f a v ∷ then_here m es
then_here m (Later.own c ∷ es) = call_on m.new_hart m.new_file c ∷ then_here m es
then_here m (Later.other h f c ∷ es) = call_on h f c ∷ then_here m es

unfoldable pub then_there : Stations → List Later → List Call
then_there m [] = []
then_there m (Later.wire i level ∷ es) = Wire i level ∷ then_there m es
then_there m (Later.page h f a v ∷ es) =
    PageWrite (cond (is_new m h f) m.old_hart h) (cond (is_new m h f) m.old_file f) a v ∷ then_there m es
then_there m (Later.own c ∷ es) = call_on m.old_hart m.old_file c ∷ then_there m es
then_there m (Later.other h f c ∷ es) = call_on h f c ∷ then_there m es

unfoldable pub LaterKept : Stations → List Later → Type 0
LaterKept m [] = Unit {0}
LaterKept m (Later.wire i level ∷ es) = LaterKept m es
LaterKept m (Later.page h f a v ∷ es) = (is_old m h f ≡ false) × LaterKept m es
LaterKept m (Later.own c ∷ es) = Small (call_on 0 0 c) × LaterKept m es
LaterKept m (Later.other h f c ∷ es) = (is_neither m h f ≡ true) × Small (call_on 0 0 c) × LaterKept m es
