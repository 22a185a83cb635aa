-- A shift in which a station is moved, and the same shift with no move. 01, "The move, with its premises".
-- Assumes nothing.
--   Stations           where the station is moved from, old, and to, new: a hart and a file each
--   Event              what happens in a shift: wire i is set to a level; v is written at offset a of the
--                      page of file f of hart h; the next access of the move is made; or a call c is made,
--                      for another station or to look on
--   access_of m n      the call that makes access n
--   is_old, is_new     file f of hart h is old, or new
--   is_neither         it is neither
--   has_neither m h    hart h has neither
--   elsewhere m c      c is a call on one file, which is neither old nor new, or asks for the signals of a
--                      hart that has neither
--   with_move m n es   the calls of the shift es, n accesses having been made: each access makes the next one
--   without_move m es  the same wire changes, page writes and calls, page writes to new going to old, and no
--                      access
-- A wire or a page that is not there may be among the events: such a call is refused and changes nothing.
use Rattle.std.specs.Prelude.{ℕ, suc, Bool, false, cond, not, ◌&&◌, ◌||◌, List, [], ◌∷◌, eqb}
use Rattle.board_call.specs.declared.Call.{Call}
use Rattle.board_call.specs.declared.Call.TheVariants.{Reset, Wire, DomainRead, DomainWrite, PageRead}
use Rattle.board_call.specs.declared.Call.TheVariants.{PageWrite, Register, Top, Claim, Signals, Move}

pub record Stations : Type 0 where
  pub old_hart : ℕ
  pub old_file : ℕ
  pub new_hart : ℕ
  pub new_file : ℕ

-- [01 V22 V23 V24]
pub data Event : Type 0 where
  wire : (i level : ℕ) → Event
  page : (h f a v : ℕ) → Event
  access : Event
  call : (c : Call) → Event

abbrev pub access_of : Stations → ℕ → Call
access_of m n = Move m.old_hart m.old_file m.new_hart m.new_file n

abbrev pub is_old : Stations → ℕ → ℕ → Bool
is_old m h f = eqb h m.old_hart && eqb f m.old_file

abbrev pub is_new : Stations → ℕ → ℕ → Bool
is_new m h f = eqb h m.new_hart && eqb f m.new_file

abbrev pub is_neither : Stations → ℕ → ℕ → Bool
is_neither m h f = not (is_old m h f || is_new m h f)

abbrev pub has_neither : Stations → ℕ → Bool
has_neither m h = not (eqb h m.old_hart || eqb h m.new_hart)

unfoldable pub elsewhere : Stations → Call → Bool
elsewhere m Reset = false
elsewhere m (Wire w level) = false
elsewhere m (DomainRead d a) = false
elsewhere m (DomainWrite d a v) = false
elsewhere m (PageRead h f a) = is_neither m h f
elsewhere m (PageWrite h f a v) = is_neither m h f
elsewhere m (Register h f k s v) = is_neither m h f
elsewhere m (Top h f) = is_neither m h f
elsewhere m (Claim h f) = is_neither m h f
elsewhere m (Signals h) = has_neither m h
elsewhere m (Move oh of nh nf n) = false

-- [01 V13 V22 V23]
unfoldable pub with_move : Stations → ℕ → List Event → List Call
with_move m n [] = []
with_move m n (wire i level ∷ es) = Wire i level ∷ with_move m n es
with_move m n (page h f a v ∷ es) = PageWrite h f a v ∷ with_move m n es
with_move m n (access ∷ es) = access_of m (suc n) ∷ with_move m (suc n) es
with_move m n (call c ∷ es) = c ∷ with_move m n es

-- [01 V28 V29 V30]
unfoldable pub without_move : Stations → List Event → List Call
without_move m [] = []
without_move m (wire i level ∷ es) = Wire i level ∷ without_move m es
without_move m (page h f a v ∷ es) =
    PageWrite (cond (is_new m h f) m.old_hart h) (cond (is_new m h f) m.old_file f) a v ∷ without_move m es
without_move m (access ∷ es) = without_move m es
without_move m (call c ∷ es) = c ∷ without_move m es
