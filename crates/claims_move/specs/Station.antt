-- Claims 104 to 110, 180, 181, 185 and 190, the auditor's question: when the monitor moves a station in
-- the middle of a shift, can a scan be dropped, doubled or handed to the wrong station? 01, "The move, with
-- its premises".
--   MovedWhere P     P holds of every shift with a move, ms, beside the same shift without it, ns, both from
--                    the block l on, where the premises are met: s is the saved numbers that the first access
--                    brings. Each is a definition of Rattle.move_laws, Premises, or of Rattle.board_runs
--   EndsAs m b b'    how such a shift ends
-- Premises: of Claim-104 `Ready x`, 650 words of a board that keeps the rules and whose files have words of
-- 32 bits, 63 words of log and saved numbers of 64 bits, and `Small c`, a value of 64 bits; of claims 105 to
-- 110, 180 and 185 the six of 01, `Started`, `TwoGuests`, `ByMessages`, `NoneNamesNew`, `AllAccesses` and
-- `PagesKept`, which Claim-111 shows can be met, and Claim-112 that each is needed; `CallsKept`, what else
-- may be called, where 01 has no call at all; and `Makes` and `HandedOn`, what each call brings: a log of 63
-- words, and an access the saved numbers that the last one gave; of Claim-110 besides `LaterKept`, what
-- may be called afterwards; of Claim-190 the same as of 105, but any number of accesses up to 89. Claim-181
-- has none. No axioms.
use Rattle.std.specs.Prelude.{ℕ, ◌+◌, ◌-◌, ◌*◌, ◌/◌, ◌%◌, ◌^◌, ◌≤◌, ◌<◌, ◌≡◌, Bool, true, false, List, []}
use Rattle.std.specs.Prelude.{◌∷◌, ◌≢◌, ◌↔◌, length, get_or, replicate}
use Rattle.words.specs.Bits.{has_bit}
use Rattle.words.specs.Sets.{member}
use Rattle.file.specs.Top.{top_of}
use Rattle.files.specs.Files.{file_number, the_file}
use Rattle.domain_region.specs.declared.Word.TheVariants.{Claimi}
use Rattle.domain_region.specs.Region.{word_at}
use Rattle.source_target.specs.Target.{hart_of, guest_of, number_of}
use Rattle.domain.specs.Domain.{genmsi_of}
use Rattle.domain.specs.Slot.{source_at}
use Rattle.wired_state.specs.Wires.{domain_in}
use Rattle.board_block.specs.Block.{Board, board_of}
use Rattle.board_call.specs.declared.Call.{Call}
use Rattle.board_call.specs.declared.Call.TheVariants.{Reset, Wire, DomainRead, DomainWrite, PageRead}
use Rattle.board_call.specs.declared.Call.TheVariants.{PageWrite, Register, Top, Claim, Signals, Move}
use Rattle.board_call.specs.Change.{signals_to}
use Rattle.board_call.specs.Outcome.{step, outcome}
use Rattle.board_call.specs.Refusal.{name_refusal, refusal_of}
use Rattle.board_call_laws.specs.Small.{Small}
use Rattle.board_runs.specs.Runs.{Made, left_by, said_where, Lent, after}
use Rattle.board_runs.specs.Handed.{is_access, saved_by, HandedOn, Makes}
use Rattle.board_runs.specs.Ready.{board_in, Ready}
use Rattle.board_runs.specs.Reading.{only_reads, storing}
use Rattle.move_laws.specs.Shift.{Stations, Event, elsewhere, with_move, without_move}
use Rattle.move_laws.specs.Premises.{Started, TwoGuests, ByMessages, NoneNamesNew, AllAccesses, PagesKept}
use Rattle.move_laws.specs.Premises.{CallsKept, accesses_in}
use Rattle.move_laws.specs.Moved.{old_number, new_number, old_in, new_in}
use Rattle.move_laws.specs.After.{Later, then_here, then_there, LaterKept}

-- calls one after the other: what a call leaves is ready for the next one, whether it is refused or not; a
-- refused one leaves all as it was, and an accepted one the board and the saved numbers that `step` says. So
-- a run, which folds the outcome of each call, speaks of the blocks that the code leaves
-- [01 X7 X8]
unfoldable pub Claim-104 : Type 0
Claim-104 =
    (c : Call) (x : Lent) → Ready x → Small c
    → let b = board_in x in
    (refusal_of c x.block x.log ≡ name_refusal c b)
    × (name_refusal c b ≢ 0 → after c x ≡ x)
    × (name_refusal c b ≡ 0 → (board_in (after c x) ≡ (step c b x.saved).board)
    × ((after c x).saved ≡ (step c b x.saved).saved))
    × Ready (after c x)

abbrev pub MovedWhere : (Stations → List ℕ → List ℕ → List Made → List Made → Type 0) → Type 0
MovedWhere P =
    (m : Stations) (l s : List ℕ) (es : List Event) (ms ns : List Made)
    → Started l s → TwoGuests m → ByMessages l → NoneNamesNew m l → AllAccesses es → PagesKept m 0 es
    → CallsKept m es → Makes (with_move m 0 es) ms → HandedOn s ms l → Makes (without_move m es) ns
    → P m l s ms ns

-- b, after the shift with the move, and b', after the one without it: what Claim-105 says of them
abbrev pub EndsAs : Stations → Board → Board → Type 0
EndsAs m b b' =
    (the_file b.files (file_number m.new_hart m.new_file)
    ≡ the_file b'.files (file_number m.old_hart m.old_file))
    × ((k : ℕ) → k < 20 → k ≢ file_number m.old_hart m.old_file → k ≢ file_number m.new_hart m.new_file
    → the_file b.files k ≡ the_file b'.files k)
    × (b.wired.wires ≡ b'.wired.wires)
    × ((c : Bool) → (domain_in b.wired c).pending ≡ (domain_in b'.wired c).pending)
    × ((c : Bool) → (domain_in b.wired c).enable ≡ (domain_in b'.wired c).enable)
    × (b.wired.machine ≡ b'.wired.machine) × (b.wired.child.source ≡ b'.wired.child.source)
    × (b.wired.child.delivery ≡ b'.wired.child.delivery)
    × (genmsi_of b.wired.child ≡ genmsi_of b'.wired.child)
    × ((i : ℕ) → 1 ≤ i → i ≤ 63
    → let t = (source_at b'.wired.child i).target in
    let t' = (source_at b.wired.child i).target in
    (hart_of t ≡ m.old_hart → guest_of t + 1 ≡ m.old_file
    → t' ≡ m.new_hart * 2 ^ 18 + (m.new_file - 1) * 2 ^ 12 + number_of t)
    × ((hart_of t ≡ m.old_hart → guest_of t + 1 ≡ m.old_file → ⊥) → t' ≡ t))

-- demand 3: the new file is the one that the station would have had with no move; every file but old and
-- new, every wire, and every pending and enable bit of both domains is the same as with no move; and so is
-- all else of the machine domain, and of the child all but that a target that names old with no move names
-- new, with the same identity. Every call brings a log of its own, and between the accesses the other
-- stations go on: 01's theorem is the case of shifts with no call besides
-- [01 V22 V23 V30 M4 X8 X9]
unfoldable pub Claim-105 : Type 0
Claim-105 = MovedWhere (λ m l s ms ns. EndsAs m (board_of (left_by ms l)) (board_of (left_by ns l)))

-- with the premises of a move every one of the 89 accesses is done, and none is refused: each answers 0 and 0
-- [01 V13]
unfoldable pub Claim-106 : Type 0
Claim-106 =
    MovedWhere (λ m l s ms ns.
    said_where is_access ms l ≡ replicate 89 (record { number = 0; value = 0; count = 0 }))

-- no scan is dropped: what is pending for the station with no move is pending in its new file. A corollary
-- of Claim-105
-- [01 M4]
unfoldable pub Claim-107 : Type 0
Claim-107 =
    MovedWhere (λ m l s ms ns. (i : ℕ) → member (old_in m (board_of (left_by ns l))).pending i ≡ true
    → member (new_in m (board_of (left_by ms l))).pending i ≡ true)

-- none is doubled or made up: what is pending in the new file is pending with no move; and a claim
-- afterwards, with any log of 63 words, answers the top of the new file, as it would have with no move; the
-- identity that it answers is then gone, and the file is again the one that there would have been
unfoldable pub Claim-108 : Type 0
Claim-108 =
    MovedWhere (λ m l s ms ns. ((i : ℕ) → member (new_in m (board_of (left_by ms l))).pending i ≡ true
    → member (old_in m (board_of (left_by ns l))).pending i ≡ true)
    × ((g g' t t' : List ℕ) → length g ≡ 63 → length g' ≡ 63
    → let o = outcome (Claim m.new_hart m.new_file) (left_by ms l) g t in
    let o' = outcome (Claim m.old_hart m.old_file) (left_by ns l) g' t' in
    let v = top_of 255 (new_in m (board_of (left_by ms l))) in
    (o.number ≡ 0) × (o.value ≡ v) × (o.count ≡ 0)
    × (o'.number ≡ 0) × (o'.value ≡ v) × (o'.count ≡ 0)
    × (v ≢ 0 → member (new_in m (board_of o.block)).pending (v / 65536) ≡ false)
    × (new_in m (board_of o.block) ≡ old_in m (board_of o'.block))))

-- none is handed to another station: every file but old and new has the same pending bits. A corollary of
-- Claim-105
unfoldable pub Claim-109 : Type 0
Claim-109 =
    MovedWhere (λ m l s ms ns. (k : ℕ) → k < 20 → k ≢ old_number m → k ≢ new_number m
    → (i : ℕ)
    → member (the_file (board_of (left_by ms l)).files k).pending i
    ≡ member (the_file (board_of (left_by ns l)).files k).pending i)

-- and the shift goes on: whatever wires change and devices write then, and whatever calls the station makes
-- on its file and others on theirs, with register values of 64 bits and logs of 63 words, every call answers
-- what it would have answered with no move; the new file is the one that the old one would have been, and
-- every other file but these two is the same; and the new file signals its hart exactly if the old one would
-- have signalled its own
unfoldable pub Claim-110 : Type 0
Claim-110 =
    MovedWhere (λ m l s ms ns. (es : List Later) (us vs : List Made) → LaterKept m es
    → Makes (then_here m es) us → Makes (then_there m es) vs
    → let b = board_of (left_by us (left_by ms l)) in
    let b' = board_of (left_by vs (left_by ns l)) in
    (said_where (λ c. true) us (left_by ms l) ≡ said_where (λ c. true) vs (left_by ns l))
    × (new_in m b ≡ old_in m b')
    × ((k : ℕ) → k < 20 → k ≢ old_number m → k ≢ new_number m → the_file b.files k ≡ the_file b'.files k)
    × (has_bit (signals_to b m.new_hart 5) m.new_file ≡ has_bit (signals_to b' m.old_hart 5) m.old_file))

-- the other stations go on: a call on a file that is neither old nor new, anywhere in the shift, and
-- the signals of a hart that has neither, answer what they would have answered with no move
unfoldable pub Claim-185 : Type 0
Claim-185 = MovedWhere (λ m l s ms ns. said_where (elsewhere m) ms l ≡ said_where (elsewhere m) ns l)

-- and so it is at every moment of the move, however many of its accesses are made: every file but old and
-- new, every wire, the machine domain, and the pending and enable bits of the child are as with no move; and
-- a file that is neither old nor new signals its hart exactly if it does so with no move
unfoldable pub Claim-190 : Type 0
Claim-190 =
    (m : Stations) (l s : List ℕ) (es : List Event) (ms ns : List Made)
    → Started l s → TwoGuests m → ByMessages l → NoneNamesNew m l → accesses_in es ≤ 89 → PagesKept m 0 es
    → CallsKept m es → Makes (with_move m 0 es) ms → HandedOn s ms l → Makes (without_move m es) ns
    → let b = board_of (left_by ms l) in
    let b' = board_of (left_by ns l) in
    ((k : ℕ) → k < 20 → k ≢ file_number m.old_hart m.old_file → k ≢ file_number m.new_hart m.new_file
    → the_file b.files k ≡ the_file b'.files k)
    × (b.wired.wires ≡ b'.wired.wires) × (b.wired.machine ≡ b'.wired.machine)
    × (b.wired.child.pending ≡ b'.wired.child.pending)
    × (b.wired.child.enable ≡ b'.wired.child.enable)
    × ((h f : ℕ) → h < 4 → f < 5 → (h ≡ m.old_hart → f ≡ m.old_file → ⊥)
    → (h ≡ m.new_hart → f ≡ m.new_file → ⊥) → has_bit (signals_to b h 5) f ≡ has_bit (signals_to b' h 5) f)

-- what is left of the old file is silent: its delivery is 0, it signals its hart no more, no target of the
-- child names it, of an active source or not, and no wire set afterwards changes it. What it holds was
-- carried over: its pending and enable bits are those of the saved numbers, every bit that is pending in it
-- is pending in new, and its enable bits and threshold are new's. So whoever uses it again and does not
-- clear its pending bits first has these scans twice
unfoldable pub Claim-180 : Type 0
Claim-180 =
    MovedWhere (λ m l s ms ns. let b = board_of (left_by ms l) in
    let old = old_in m b in
    let new = new_in m b in
    let r = saved_by s ms l in
    (old.delivery ≡ 0) × (has_bit (signals_to b m.old_hart 5) m.old_file ≡ false)
    × ((i : ℕ) → 1 ≤ i → i ≤ 63
    → let t = (source_at b.wired.child i).target in hart_of t ≡ m.old_hart → guest_of t + 1 ≡ m.old_file → ⊥)
    × ((i level : ℕ) (g t : List ℕ) → length g ≡ 63
    → old_in m (board_of (outcome (Wire i level) (left_by ms l) g t).block) ≡ old)
    × ((i : ℕ) → 1 ≤ i → i ≤ 255 → member old.pending i ≡ has_bit (get_or r (2 + i / 64) 0) (i % 64))
    × ((i : ℕ) → 1 ≤ i → i ≤ 255 → member old.enable i ≡ has_bit (get_or r (6 + i / 64) 0) (i % 64))
    × ((i : ℕ) → 1 ≤ i → i ≤ 255 → member old.pending i ≡ true → member new.pending i ≡ true)
    × (old.enable ≡ new.enable) × (old.threshold ≡ new.threshold))

-- what only reads may be called at any moment of a shift, in the middle of a move too: a page read, a top,
-- the signals, a read of a file's register or of a word of a domain that is no claimi, and no other call.
-- Each leaves the block, the log and the saved numbers as they were, accepted or refused. So a run leaves
-- what it leaves without them, and two runs that are the same without them leave the same: a run that is a
-- shift of Claim-105 once its reading calls are left out ends as that claim says
unfoldable pub Claim-181 : Type 0
Claim-181 =
    ((a d f h k level n nf nh of oh s v w : ℕ)
    → (only_reads (PageRead h f a) ≡ true) × (only_reads (Top h f) ≡ true) × (only_reads (Signals h) ≡ true)
    × ((only_reads (Register h f k s v) ≡ true) ↔ (k ≡ 0))
    × ((only_reads (DomainRead d a) ≡ true) ↔ ((i : ℕ) → word_at a ≢ Claimi i))
    × (only_reads Reset ≡ false) × (only_reads (Wire w level) ≡ false) ×
    (only_reads (DomainWrite d a v) ≡ false)
    × (only_reads (PageWrite h f a v) ≡ false) × (only_reads (Claim h f) ≡ false)
    × (only_reads (Move oh of nh nf n) ≡ false))
    × ((c : Call) (l g s : List ℕ) → only_reads c ≡ true
    → let o = outcome c l g s in (o.block ≡ l) × (o.log ≡ g) × (o.saved ≡ s))
    × (storing [] ≡ [])
    × ((m : Made) (ms : List Made)
    → (only_reads m.call ≡ true → storing (m ∷ ms) ≡ storing ms)
    × (only_reads m.call ≡ false → storing (m ∷ ms) ≡ m ∷ storing ms))
    × ((ms : List Made) (l : List ℕ) → left_by ms l ≡ left_by (storing ms) l)
    × ((ms us : List Made) (l : List ℕ) → storing ms ≡ storing us → left_by ms l ≡ left_by us l)
