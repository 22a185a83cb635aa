-- Claims 175 and 178: what 01 asks of a move, each premise in plain numbers; the two shifts that are
-- compared, event by event; and that what is lent by the rules is ready for calls. 01, "The move, with its
-- premises", "Calls and their refusals", "State rules".
--   Ready x          what the claims on calls one after the other ask of what is lent
--   Small c          what they ask of a call, and AllSmall cs of several
--   Fit b            what the claims on one call ask of a board
--   BoardShaped b    the lists of a board have their lengths
-- A premise that asked for more than 01 does would make the claims on the move say less, and in claims 112
-- and 186 one that asked for less would; so each is said in both directions. `Ready` and `Fit` are premises
-- alone, and Claim-178 says what is enough for them.
-- Premises: of the first part of Claim-178 the lengths of the block and of the log, words of 32 bits that
-- keep the rules and saved numbers of 64 bits. The rest of it and Claim-175 have none. No axioms.
use Rattle.std.specs.Prelude.{ℕ, ◌+◌, ◌-◌, ◌^◌, ◌≤◌, ◌<◌, ◌≡◌, true, List, [], ◌∷◌, ◌≢◌, ◌⊎◌, ◌↔◌, length}
use Rattle.std.specs.Prelude.{get_or}
use Rattle.source_target.specs.Target.{hart_of, guest_of}
use Rattle.domain.specs.Domain.{by_messages}
use Rattle.domain.specs.Slot.{source_at}
use Rattle.board_block.specs.Block.{board_of, board_sound}
use Rattle.board_block_laws.specs.Shape.{BoardShaped}
use Rattle.board_call.specs.declared.Call.{Call}
use Rattle.board_call.specs.declared.Call.TheVariants.{Wire}
use Rattle.board_call.specs.declared.Call.TheVariants.{PageWrite, Register, Move}
use Rattle.board_call_laws.specs.Fit.{Fit}
use Rattle.board_call_laws.specs.Small.{Small}
use Rattle.board_runs.specs.Runs.{Lent}
use Rattle.board_runs.specs.Ready.{board_in, Ready, AllSmall}
use Rattle.board_runs.specs.Reading.{only_reads}
use Rattle.move_laws.specs.Shift.{Stations, Event, elsewhere, with_move, without_move}
use Rattle.move_laws.specs.Shift.Event.{wire, page, access, call}
use Rattle.move_laws.specs.Premises.{Started, TwoGuests, ByMessages, NoneNamesNew, accesses_in}
use Rattle.move_laws.specs.Premises.{AllAccesses, PagesKept, CallsKept}

-- the premises of a move, and the two shifts that are compared, ask this and no more: old and new are any
-- four numbers that are two different files 2 to 4 of harts 0 to 3; at the start no active source of the
-- child names new, the child is not in direct mode, and what is lent has its lengths and keeps the rules;
-- the accesses are 89, with their numbers in order; nobody writes to new before access 8, nor to old from
-- access 72 on; a call besides only reads, or is one on a file that is neither; and the compared shift has
-- the same wires, page writes and calls, the page writes to new going to old, and no access
-- [01 V3 V12 V13 V22 V23 V24 V25 V26 V27 V28 V29]
unfoldable pub Claim-175 : Type 0
Claim-175 =
    (m : Stations) (l s : List ℕ) (es : List Event) (c : Call) (n j level h f a v : ℕ)
    -- any four numbers, and of these two different guest files
    → ((oh of nh nf : ℕ)
    → (x : Stations) × (x.old_hart ≡ oh) × (x.old_file ≡ of) × (x.new_hart ≡ nh) × (x.new_file ≡ nf))
    × (TwoGuests m
    ↔ ((m.old_hart < 4) × (2 ≤ m.old_file) × (m.old_file ≤ 4) × (m.new_hart < 4) × (2 ≤ m.new_file)
    × (m.new_file ≤ 4) × (m.old_hart ≡ m.new_hart → m.old_file ≡ m.new_file → ⊥)))
    -- the start
    × (NoneNamesNew m l
    ↔ ((i : ℕ) → 1 ≤ i → i ≤ 63
    → let x = source_at (board_of l).wired.child i in
    x.mode ≢ 0 → x.mode < 1024 → hart_of x.target ≡ m.new_hart
    → guest_of x.target + 1 ≡ m.new_file → ⊥))
    × (ByMessages l ↔ (by_messages (board_of l).wired.child ≡ true))
    × (Started l s
    ↔ ((length l ≡ 650) × ((k : ℕ) → get_or l k 0 < 2 ^ 32) × (board_sound (board_of l) ≡ true)
    × (length s ≡ 10) × ((k : ℕ) → get_or s k 0 < 2 ^ 64)))
    -- every access, each event but an access counting for none
    × (AllAccesses es ↔ (accesses_in es ≡ 89))
    × (accesses_in [] ≡ 0)
    × (accesses_in (wire j level ∷ es) ≡ accesses_in es)
    × (accesses_in (page h f a v ∷ es) ≡ accesses_in es)
    × (accesses_in (access ∷ es) ≡ accesses_in es + 1)
    × (accesses_in (call c ∷ es) ≡ accesses_in es)
    -- the page writes, n accesses having been made
    × PagesKept m n []
    × (PagesKept m n (wire j level ∷ es) ↔ PagesKept m n es)
    × (PagesKept m n (page h f a v ∷ es)
    ↔ ((h ≡ m.new_hart → f ≡ m.new_file → 8 ≤ n) × (h ≡ m.old_hart → f ≡ m.old_file → n < 72)
    × PagesKept m n es))
    × (PagesKept m n (access ∷ es) ↔ PagesKept m (n + 1) es)
    × (PagesKept m n (call c ∷ es) ↔ PagesKept m n es)
    -- the calls besides: a shift that has none asks nothing
    × CallsKept m []
    × (CallsKept m (wire j level ∷ es) ↔ CallsKept m es)
    × (CallsKept m (page h f a v ∷ es) ↔ CallsKept m es)
    × (CallsKept m (access ∷ es) ↔ CallsKept m es)
    × (CallsKept m (call c ∷ es)
    ↔ (((only_reads c ≡ true) ⊎ (elsewhere m c ≡ true)) × Small c × CallsKept m es))
    -- the shift with the move
    × (with_move m n [] ≡ [])
    × (with_move m n (wire j level ∷ es) ≡ Wire j level ∷ with_move m n es)
    × (with_move m n (page h f a v ∷ es) ≡ PageWrite h f a v ∷ with_move m n es)
    × (with_move m n (access ∷ es)
    ≡ Move m.old_hart m.old_file m.new_hart m.new_file (n + 1) ∷ with_move m (n + 1) es)
    × (with_move m n (call c ∷ es) ≡ c ∷ with_move m n es)
    -- the shift without it
    × (without_move m [] ≡ [])
    × (without_move m (wire j level ∷ es) ≡ Wire j level ∷ without_move m es)
    × (h ≡ m.new_hart → f ≡ m.new_file
    → without_move m (page h f a v ∷ es) ≡ PageWrite m.old_hart m.old_file a v ∷ without_move m es)
    × ((h ≡ m.new_hart → f ≡ m.new_file → ⊥)
    → without_move m (page h f a v ∷ es) ≡ PageWrite h f a v ∷ without_move m es)
    × (without_move m (access ∷ es) ≡ without_move m es)
    × (without_move m (call c ∷ es) ≡ c ∷ without_move m es)

-- what is lent is ready for calls, its board fit and its lists of their lengths, if it has a block of 650
-- words of 32 bits that keep the rules, a log of 63 words, and saved numbers of 64 bits: so what claims 102
-- to 104, 150, 152, 154, 156 and 171 ask of a board holds of every block of such words that is not refused.
-- `Small`, where they ask it of a call, is that the value of a register access has 64 bits; and `AllSmall`
-- is that of each of several
unfoldable pub Claim-178 : Type 0
Claim-178 =
    ((x : Lent) → length x.block ≡ 650 → ((k : ℕ) → get_or x.block k 0 < 2 ^ 32)
    → board_sound (board_in x) ≡ true → length x.log ≡ 63 → ((k : ℕ) → get_or x.saved k 0 < 2 ^ 64)
    → Ready x × Fit (board_in x) × BoardShaped (board_in x))
    × ((c : Call) → Small c ↔ ((h f k s v : ℕ) → c ≡ Register h f k s v → v < 2 ^ 64))
    × AllSmall [] × ((c : Call) (cs : List Call) → AllSmall (c ∷ cs) ↔ (Small c × AllSmall cs))
