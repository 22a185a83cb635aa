-- Claims 187 and 188: what the claims on the move are told with, in plain numbers: calls on other files, how
-- a move ends, the premises together, and the weaker premises and the shifts of claims 112 and 186. 01, "The
-- move, with its premises". Premises: none. No axioms.
use Rattle.std.specs.Prelude.{ℕ, ◌+◌, ◌-◌, ◌*◌, ◌^◌, ◌≤◌, ◌<◌, ◌≡◌, true, false, List, [], ◌∷◌, ◌≢◌, ◌⊎◌, ◌↔◌}
use Rattle.std.specs.Prelude.{length, get_or}
use Rattle.files.specs.Files.{file_number, the_file}
use Rattle.board_block.specs.Block.{Board, board_of}
use Rattle.board_call.specs.declared.Call.{Call}
use Rattle.board_call.specs.declared.Call.TheVariants.{Reset, Wire, DomainRead, DomainWrite, PageRead}
use Rattle.board_call.specs.declared.Call.TheVariants.{PageWrite, Register, Top, Claim, Signals, Move}
use Rattle.board_call_laws.specs.Small.{Small}
use Rattle.board_runs.specs.Runs.{Made, left_by, Lent, ran}
use Rattle.board_runs.specs.Handed.{Makes}
use Rattle.board_runs.specs.Ready.{board_in}
use Rattle.board_runs.specs.Reading.{only_reads}
use Rattle.move_laws.specs.Shift.{Stations, Event, elsewhere, with_move, without_move}
use Rattle.move_laws.specs.Shift.Event.{wire, page, access, call}
use Rattle.move_laws.specs.Premises.{Started, TwoGuests, ByMessages, NoneNamesNew}
use Rattle.move_laws.specs.Premises.{AllAccesses, PagesKept, CallsKept, Premises}
use Rattle.move_laws.specs.Moved.{old_number, new_number, old_in, new_in, Moved}
use Rattle.move_laws.specs.After.{FileCall, call_on, Later, then_here, then_there, LaterKept}
use Rattle.move_laws.specs.After.FileCall.{page_read, page_write, register, top, claim}
use Rattle.move_cases.specs.Needed.{PagesWithin, LogLong, AnyState, AnyOld, AnyNew, Besides, on_old}
use Rattle.move_cases.specs.Needed.{station_there, TooWeak, Letting, NeedsHandedOn}
use Rattle.claims_move.specs.Station.{EndsAs}

-- a file has the number 5 × hart + file, and old and new are the files of theirs; what happens in a shift
-- is a wire, a page write, an access or a call, and nothing else; a call is elsewhere exactly if it is a
-- call on one file, neither old nor new, or asks for the signals of a hart that has neither; a call on a
-- file is the one that it is named after; `Moved`, which the shifts of claims 112 and 186 do not end with,
-- says what Claim-105 does; and the premises that these weaken say this and no more
unfoldable pub Claim-187 : Type 0
Claim-187 =
    ((m : Stations) (b : Board) (h f : ℕ)
    → let old = 5 * m.old_hart + m.old_file in
    let new = 5 * m.new_hart + m.new_file in
    (file_number h f ≡ 5 * h + f) × (old_number m ≡ old) × (new_number m ≡ new)
    × (old_in m b ≡ the_file b.files old) × (new_in m b ≡ the_file b.files new))
    × ((e : Event)
    → ((i : ℕ) × (level : ℕ) × (e ≡ wire i level))
    ⊎ ((h : ℕ) × (f : ℕ) × (a : ℕ) × (v : ℕ) × (e ≡ page h f a v)) ⊎ (e ≡ access)
    ⊎ ((c : Call) × (e ≡ call c)))
    × ((m : Stations) (a d f h k level n nf nh of oh s v w : ℕ)
    → let Neither = (h ≡ m.old_hart → f ≡ m.old_file → ⊥) × (h ≡ m.new_hart → f ≡ m.new_file → ⊥) in
    ((elsewhere m (PageRead h f a) ≡ true) ↔ Neither) × ((elsewhere m (PageWrite h f a v) ≡ true) ↔ Neither)
    × ((elsewhere m (Register h f k s v) ≡ true) ↔ Neither) × ((elsewhere m (Top h f) ≡ true) ↔ Neither)
    × ((elsewhere m (Claim h f) ≡ true) ↔ Neither)
    × ((elsewhere m (Signals h) ≡ true) ↔ ((h ≢ m.old_hart) × (h ≢ m.new_hart)))
    × (elsewhere m Reset ≡ false) × (elsewhere m (Wire w level) ≡ false)
    × (elsewhere m (DomainRead d a) ≡ false) × (elsewhere m (DomainWrite d a v) ≡ false)
    × (elsewhere m (Move oh of nh nf n) ≡ false)
    × (call_on h f (page_read a) ≡ PageRead h f a) × (call_on h f (page_write a v) ≡ PageWrite h f a v)
    × (call_on h f (register k s v) ≡ Register h f k s v) × (call_on h f top ≡ Top h f)
    × (call_on h f claim ≡ Claim h f))
    × ((m : Stations) (b b' : Board) → Moved m b b' ↔ EndsAs m b b')
    × ((m : Stations) (l s : List ℕ) (es : List Event)
    → Premises m l s es
    ↔ (Started l s × TwoGuests m × ByMessages l × NoneNamesNew m l × AllAccesses es × PagesKept m 0 es
    × CallsKept m es))
    × ((m : Stations) (es : List Event) (c d : Call) (y z n j level h f a v : ℕ)
    → PagesWithin y z m n []
    × (PagesWithin y z m n (wire j level ∷ es) ↔ PagesWithin y z m n es)
    × (PagesWithin y z m n (page h f a v ∷ es)
    ↔ ((h ≡ m.new_hart → f ≡ m.new_file → y ≤ n) × (h ≡ m.old_hart → f ≡ m.old_file → n < z)
    × PagesWithin y z m n es))
    × (PagesWithin y z m n (access ∷ es) ↔ PagesWithin y z m (n + 1) es)
    × (PagesWithin y z m n (call c ∷ es) ↔ PagesWithin y z m n es)
    × Besides d m n []
    × (Besides d m n (wire j level ∷ es) ↔ Besides d m n es)
    × (Besides d m n (page h f a v ∷ es) ↔ Besides d m n es)
    × (Besides d m n (access ∷ es) ↔ Besides d m (n + 1) es)
    × (Besides d m n (call c ∷ es)
    ↔ (((only_reads c ≡ true) ⊎ (elsewhere m c ≡ true) ⊎ ((c ≡ d) × (1 ≤ n) × (n < 89))) × Small c
    × Besides d m n es))
    × (station_there m [] ≡ [])
    × (station_there m (wire j level ∷ es) ≡ wire j level ∷ station_there m es)
    × (station_there m (page h f a v ∷ es) ≡ page h f a v ∷ station_there m es)
    × (station_there m (access ∷ es) ≡ access ∷ station_there m es)
    × (station_there m (call c ∷ es) ≡ call (on_old m c) ∷ station_there m es))
    × ((m : Stations) (e : FileCall) (d a v h f level n nf nh of oh w : ℕ)
    → (on_old m (call_on m.new_hart m.new_file e) ≡ call_on m.old_hart m.old_file e)
    × ((h ≡ m.new_hart → f ≡ m.new_file → ⊥) → on_old m (call_on h f e) ≡ call_on h f e)
    × (on_old m Reset ≡ Reset) × (on_old m (Wire w level) ≡ Wire w level)
    × (on_old m (DomainRead d a) ≡ DomainRead d a) × (on_old m (DomainWrite d a v) ≡ DomainWrite d a v)
    × (on_old m (Signals h) ≡ Signals h) × (on_old m (Move oh of nh nf n) ≡ Move oh of nh nf n))
    × ((m : Stations) (es : List Later) (c : FileCall) (h f a v i level : ℕ)
    → let nh = m.new_hart in
    let nf = m.new_file in
    let oh = m.old_hart in
    let of = m.old_file in
    (then_here m [] ≡ []) × (then_here m (Later.wire i level ∷ es) ≡ Wire i level ∷ then_here m es)
    × (then_here m (Later.page h f a v ∷ es) ≡ PageWrite h f a v ∷ then_here m es)
    × (then_here m (Later.own c ∷ es) ≡ call_on nh nf c ∷ then_here m es)
    × (then_here m (Later.other h f c ∷ es) ≡ call_on h f c ∷ then_here m es)
    × (then_there m [] ≡ []) × (then_there m (Later.wire i level ∷ es) ≡ Wire i level ∷ then_there m es)
    × (h ≡ nh → f ≡ nf → then_there m (Later.page h f a v ∷ es) ≡ PageWrite oh of a v ∷ then_there m es)
    × ((h ≡ nh → f ≡ nf → ⊥) → then_there m (Later.page h f a v ∷ es) ≡ PageWrite h f a v ∷ then_there m es)
    × (then_there m (Later.own c ∷ es) ≡ call_on oh of c ∷ then_there m es)
    × (then_there m (Later.other h f c ∷ es) ≡ call_on h f c ∷ then_there m es)
    × LaterKept m [] × (LaterKept m (Later.wire i level ∷ es) ↔ LaterKept m es)
    × (LaterKept m (Later.page h f a v ∷ es) ↔ ((h ≡ oh → f ≡ of → ⊥) × LaterKept m es))
    × (LaterKept m (Later.own c ∷ es) ↔ (Small (call_on 0 0 c) × LaterKept m es))
    × (LaterKept m (Later.other h f c ∷ es)
    ↔ (((h ≡ oh → f ≡ of → ⊥) × (h ≡ nh → f ≡ nf → ⊥)) × Small (call_on 0 0 c) × LaterKept m es)))
    × ((l s : List ℕ)
    → AnyState l s
    ↔ ((length l ≡ 650) × ((k : ℕ) → get_or l k 0 < 2 ^ 32) × (length s ≡ 10)
    × ((k : ℕ) → get_or s k 0 < 2 ^ 64)))
    × ((m : Stations)
    → (AnyOld m
    ↔ ((m.old_hart < 4) × (m.old_file < 5) × (m.new_hart < 4) × (2 ≤ m.new_file) × (m.new_file ≤ 4)
    × (m.old_hart ≡ m.new_hart → m.old_file ≡ m.new_file → ⊥)))
    × (AnyNew m
    ↔ ((m.old_hart < 4) × (2 ≤ m.old_file) × (m.old_file ≤ 4) × (m.new_hart < 4) × (m.new_file < 5)
    × (m.old_hart ≡ m.new_hart → m.old_file ≡ m.new_file → ⊥))))
    × ((x : Lent) → LogLong x ↔ (length x.log ≡ 63))

-- a premise is too weak exactly if some stations, a start and a shift meet it, and the shift with the move,
-- with one log handed on, does not end as without it; a call cannot be let in exactly if such a shift has it
-- between the first access and the last, meets all else, and does not end as it does where the station is
-- not moved; and that the saved numbers are handed on is needed exactly if a shift meets all else and does
-- not end as without the move
unfoldable pub Claim-188 : Type 1
Claim-188 =
    ((P : Stations → Lent → List Event → Type 0)
    → TooWeak P
    ↔ ((m : Stations) × (x : Lent) × (es : List Event) × P m x es
    × (Moved m (board_in (ran (with_move m 0 es) x)) (board_in (ran (without_move m es) x)) → ⊥)))
    × ((d : Stations → Call)
    → Letting d
    ↔ ((m : Stations) × (x : Lent) × (es : List Event) × Started x.block x.saved × LogLong x
    × TwoGuests m × ByMessages x.block × NoneNamesNew m x.block × AllAccesses es × PagesKept m 0 es
    × Besides (d m) m 0 es
    × (Moved m (board_in (ran (with_move m 0 es) x)) (board_in (ran (without_move m (station_there m es)) x))
    → ⊥)))
    × (NeedsHandedOn
    ↔ ((m : Stations) × (l : List ℕ) × (s : List ℕ) × (es : List Event) × (ms : List Made) × (ns : List Made)
    × Premises m l s es × Makes (with_move m 0 es) ms × Makes (without_move m es) ns
    × (Moved m (board_of (left_by ms l)) (board_of (left_by ns l)) → ⊥)))
