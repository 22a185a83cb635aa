-- Each premise of a move is needed: with one of them dropped or weakened, and all the others, there is a
-- shift that does not end as it should. So is that these are held back during a move: claims and register
-- writes of the moved station, on old and on new, writes to a target and to domaincfg of the child, another
-- move to new, a reset. 01, "The move, with its premises". Assumes nothing.
--   PagesWithin a z m n es   no page write to new before access a, and none to old from access z on:
--                            PagesKept m n es is this with 8 and 72
--   LogLong x                the log has 63 words
--   AnyOld m, AnyNew m       TwoGuests, but that old, or new, may be any file that is there
--   AnyState l s             Started, but that the state may break the rules
--   Besides d m n es         n accesses having been made, every call besides is as CallsKept says, or is the
--                            call d, between the first access and the last
--   on_old m c, station_there m es   a call, and a shift, with the calls on new made on old: so the station
--                            makes them where it is not moved
--   TooWeak P                there are stations, a start and a shift that meet P, and the shift with the
--                            move, with one log handed on, does not end as Moved says
--   Needs..                  so it is without the premise that is named, or with a bound that is off by one
--   Letting d, NeedsNo..     so it is if the call d may be made too
-- Not claimed: that each field of Started is needed; nor that old and new have to be different, for otherwise
-- every access is refused, and both shifts are the same. Not known: whether other writes to a domain, a
-- claimi, or an access of a move between two other files could be let in.
use Rattle.std.specs.Prelude.{ℕ, suc, ◌≤◌, ◌<◌, ◌≡◌, true, false, cond, ◌||◌, List, [], ◌∷◌, ◌⊎◌, length}
use Rattle.sizes.specs.Sizes.{block_size, log_size, saved_size}
use Rattle.words.specs.Sets.{WordsFit}
use Rattle.board_move_steps.specs.Steps.{accesses}
use Rattle.board_block.specs.Block.{board_of}
use Rattle.board_call.specs.declared.Call.{Call}
use Rattle.board_call.specs.declared.Call.TheVariants.{Reset, Wire, DomainRead, DomainWrite, PageRead}
use Rattle.board_call.specs.declared.Call.TheVariants.{PageWrite, Register, Top, Claim, Signals, Move}
use Rattle.board_call.specs.Numbers.{is_file, is_guest_file}
use Rattle.board_call_laws.specs.Fit.{SavedFit}
use Rattle.board_call_laws.specs.Small.{Small}
use Rattle.board_runs.specs.Runs.{Made, left_by, Lent, ran}
use Rattle.board_runs.specs.Handed.{Makes}
use Rattle.board_runs.specs.Ready.{board_in}
use Rattle.board_runs.specs.Reading.{only_reads}
use Rattle.move_laws.specs.Shift.{Stations, Event, is_old, is_new, elsewhere, with_move, without_move}
use Rattle.move_laws.specs.Premises.{Started, TwoGuests, ByMessages, NoneNamesNew, accesses_in}
use Rattle.move_laws.specs.Premises.{AllAccesses, PagesKept, CallsKept, Premises}
use Rattle.move_laws.specs.Moved.{Moved}

-- ---- weaker premises

unfoldable pub PagesWithin : ℕ → ℕ → Stations → ℕ → List Event → Type 0
PagesWithin a z m n [] = Unit {0}
PagesWithin a z m n (Event.wire i level ∷ es) = PagesWithin a z m n es
PagesWithin a z m n (Event.page h f o v ∷ es) =
    (is_new m h f ≡ true → a ≤ n) × (is_old m h f ≡ true → n < z) × PagesWithin a z m n es
PagesWithin a z m n (Event.access ∷ es) = PagesWithin a z m (suc n) es
PagesWithin a z m n (Event.call c ∷ es) = PagesWithin a z m n es

unfoldable pub LogLong : Lent → Type 0
LogLong x = length x.log ≡ log_size

pub record AnyOld (m : Stations) : Type 0 where
  pub old : is_file m.old_hart m.old_file ≡ true
  pub new : is_guest_file m.new_hart m.new_file ≡ true
  pub different : is_new m m.old_hart m.old_file ≡ false

pub record AnyNew (m : Stations) : Type 0 where
  pub old : is_guest_file m.old_hart m.old_file ≡ true
  pub new : is_file m.new_hart m.new_file ≡ true
  pub different : is_new m m.old_hart m.old_file ≡ false

unfoldable pub Besides : Call → Stations → ℕ → List Event → Type 0
Besides d m n [] = Unit {0}
Besides d m n (Event.wire i level ∷ es) = Besides d m n es
Besides d m n (Event.page h f a v ∷ es) = Besides d m n es
Besides d m n (Event.access ∷ es) = Besides d m (suc n) es
Besides d m n (Event.call c ∷ es) =
    (((only_reads c || elsewhere m c) ≡ true) ⊎ ((c ≡ d) × (1 ≤ n) × (n < accesses))) × Small c
    × Besides d m n es

-- the station's file in the compared shift is old
abbrev pub file_there : Stations → ℕ → ℕ → ℕ
file_there m h f = cond (is_new m h f) m.old_file f

abbrev pub hart_there : Stations → ℕ → ℕ → ℕ
hart_there m h f = cond (is_new m h f) m.old_hart h

unfoldable pub on_old : Stations → Call → Call
on_old m Reset = Reset
on_old m (Wire w level) = Wire w level
on_old m (DomainRead d a) = DomainRead d a
on_old m (DomainWrite d a v) = DomainWrite d a v
on_old m (PageRead h f a) = PageRead (hart_there m h f) (file_there m h f) a
on_old m (PageWrite h f a v) = PageWrite (hart_there m h f) (file_there m h f) a v
on_old m (Register h f k s v) = Register (hart_there m h f) (file_there m h f) k s v
on_old m (Top h f) = Top (hart_there m h f) (file_there m h f)
on_old m (Claim h f) = Claim (hart_there m h f) (file_there m h f)
on_old m (Signals h) = Signals h
on_old m (Move oh of nh nf n) = Move oh of nh nf n

unfoldable pub station_there : Stations → List Event → List Event
station_there m [] = []
station_there m (Event.wire i level ∷ es) = Event.wire i level ∷ station_there m es
station_there m (Event.page h f a v ∷ es) = Event.page h f a v ∷ station_there m es
station_there m (Event.access ∷ es) = Event.access ∷ station_there m es
station_there m (Event.call c ∷ es) = Event.call (on_old m c) ∷ station_there m es

pub record AnyState (l s : List ℕ) : Type 0 where
  pub block : length l ≡ block_size
  pub words : WordsFit l
  pub saved-long : length s ≡ saved_size
  pub saved-fit : SavedFit s

-- ---- premises that do not suffice

pub record TooWeak (P : Stations → Lent → List Event → Type 0) : Type 0 where
  pub m : Stations
  pub x : Lent
  pub es : List Event
  pub meets : P m x es
  pub breaks : Moved m (board_in (ran (with_move m 0 es) x)) (board_in (ran (without_move m es) x)) → ⊥

-- one access is not made
unfoldable pub NeedsAll : Type 0
NeedsAll =
    TooWeak (λ m x es. Started x.block x.saved × LogLong x × TwoGuests m × ByMessages x.block
    × NoneNamesNew m x.block × (accesses_in es ≡ 88) × PagesKept m 0 es × CallsKept m es)

-- a device writes to new after access 7
unfoldable pub NeedsPagesNew : Type 0
NeedsPagesNew =
    TooWeak (λ m x es. Started x.block x.saved × LogLong x × TwoGuests m × ByMessages x.block
    × NoneNamesNew m x.block × AllAccesses es × PagesWithin 7 72 m 0 es × CallsKept m es)

-- a device writes to old after access 72
unfoldable pub NeedsPagesOld : Type 0
NeedsPagesOld =
    TooWeak (λ m x es. Started x.block x.saved × LogLong x × TwoGuests m × ByMessages x.block
    × NoneNamesNew m x.block × AllAccesses es × PagesWithin 8 73 m 0 es × CallsKept m es)

-- a source sends to new from the start on
unfoldable pub NeedsFresh : Type 0
NeedsFresh =
    TooWeak (λ m x es. Started x.block x.saved × LogLong x × TwoGuests m × ByMessages x.block
    × AllAccesses es × PagesKept m 0 es × CallsKept m es)

-- the child is in direct mode
unfoldable pub NeedsMessages : Type 0
NeedsMessages =
    TooWeak (λ m x es. Started x.block x.saved × LogLong x × TwoGuests m × NoneNamesNew m x.block
    × AllAccesses es × PagesKept m 0 es × CallsKept m es)

-- old is no guest's file
unfoldable pub NeedsGuestOld : Type 0
NeedsGuestOld =
    TooWeak (λ m x es. Started x.block x.saved × LogLong x × AnyOld m × ByMessages x.block
    × NoneNamesNew m x.block × AllAccesses es × PagesKept m 0 es × CallsKept m es)

-- new is no guest's file
unfoldable pub NeedsGuestNew : Type 0
NeedsGuestNew =
    TooWeak (λ m x es. Started x.block x.saved × LogLong x × AnyNew m × ByMessages x.block
    × NoneNamesNew m x.block × AllAccesses es × PagesKept m 0 es × CallsKept m es)

-- the log is too short
unfoldable pub NeedsLogLong : Type 0
NeedsLogLong =
    TooWeak (λ m x es. Started x.block x.saved × TwoGuests m × ByMessages x.block
    × NoneNamesNew m x.block × AllAccesses es × PagesKept m 0 es × CallsKept m es)

-- the state breaks a rule
unfoldable pub NeedsRules : Type 0
NeedsRules =
    TooWeak (λ m x es. AnyState x.block x.saved × LogLong x × TwoGuests m × ByMessages x.block
    × NoneNamesNew m x.block × AllAccesses es × PagesKept m 0 es × CallsKept m es)

-- an access is not given the saved numbers that the last one gave
pub record NeedsHandedOn : Type 0 where
  pub m : Stations
  pub l : List ℕ
  pub s : List ℕ
  pub es : List Event
  pub ms : List Made
  pub ns : List Made
  pub premises : Premises m l s es
  pub with : Makes (with_move m 0 es) ms
  pub without : Makes (without_move m es) ns
  pub breaks : Moved m (board_of (left_by ms l)) (board_of (left_by ns l)) → ⊥

-- ---- calls that cannot be let in

-- one call more may be made between the first access and the last; of the moved station it is made on its own
-- file in the compared shift
pub record Letting (d : Stations → Call) : Type 0 where
  pub m : Stations
  pub x : Lent
  pub es : List Event
  pub started : Started x.block x.saved
  pub log : LogLong x
  pub guests : TwoGuests m
  pub messages : ByMessages x.block
  pub fresh : NoneNamesNew m x.block
  pub all : AllAccesses es
  pub pages : PagesKept m 0 es
  pub besides : Besides (d m) m 0 es
  pub breaks : Moved m (board_in (ran (with_move m 0 es) x))
      (board_in (ran (without_move m (station_there m es)) x)) → ⊥

-- the moved station claims from old
unfoldable pub NeedsNoClaimOld : Type 0
NeedsNoClaimOld = Letting (λ m. Claim m.old_hart m.old_file)

-- it claims from new
unfoldable pub NeedsNoClaimNew : Type 0
NeedsNoClaimNew = Letting (λ m. Claim m.new_hart m.new_file)

-- it writes a register of old, the enable bits of identities 0 to 63
unfoldable pub NeedsNoWriteOld : Type 0
NeedsNoWriteOld = Letting (λ m. Register m.old_hart m.old_file 1 0xC0 0)

-- or one of new
unfoldable pub NeedsNoWriteNew : Type 0
NeedsNoWriteNew = Letting (λ m. Register m.new_hart m.new_file 1 0xC0 0)

-- the target of source 1 of the child is written: identity 7 of file 2 of hart 0
unfoldable pub NeedsNoTarget : Type 0
NeedsNoTarget = Letting (λ m. DomainWrite 1 0x3004 0x1007)

-- the child is put in direct mode
unfoldable pub NeedsNoDomaincfg : Type 0
NeedsNoDomaincfg = Letting (λ m. DomainWrite 1 0 0)

-- another station, file 2 of hart 2, is moved to new: the access that clears identities 0 to 63 there
unfoldable pub NeedsNoOtherMove : Type 0
NeedsNoOtherMove = Letting (λ m. Move 2 2 m.new_hart m.new_file 5)

-- the board is reset
unfoldable pub NeedsNoReset : Type 0
NeedsNoReset = Letting (λ m. Reset)
