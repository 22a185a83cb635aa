-- Claims 80 to 90 and 161, on the calls of the board: what a call gives, that this settles everything, when
-- it is refused, that a refused call changes nothing, what an accepted one leaves, and the signals. 01,
-- "Calls and their refusals", "State rules", "Direct delivery and signals".
-- That the code meets the contracts that 80 to 82 and 90 speak of is what the check of its crate proves, and
-- for `apply` and the functions of C Claim-114.
-- Premises: of claims 80 to 82 and 90 what the contract ensures, `X.Learnt`, for which nothing is asked
-- (Claim-113); of Claim-86 a block of words of 32 bits that keep the rules (`WordsFit`), a value (`Small`)
-- and saved numbers of 64 bits, as every block, value and saved number of a program is, and that the call is
-- accepted; of Claim-88 650 words, or a board with its lengths (`BoardShaped`); of Claim-89 a file 0 to 4.
-- The others have none. No axioms.
use Rattle.std.specs.Prelude.{ℕ, ◌^◌, ◌≤◌, ◌<◌, ◌≡◌, true, false, List, [], ◌≢◌, ◌↔◌, ◌⊎◌, eqb, length}
use Rattle.std.specs.Prelude.{get_or}
use contract.Lifetimes.{Lfts}
use Rattle.std.specs.Borrow.{MutBor}
use Rattle.words.specs.Bits.{has_bit}
use Rattle.words.specs.Sets.{WordsFit}
use Rattle.file.specs.Shape.{Shaped}
use Rattle.file.specs.Top.{top_of}
use Rattle.files.specs.Files.{file_number, the_file}
use Rattle.domain.specs.Domain.{is_enabled, by_messages}
use Rattle.domain.specs.Structure.{structure_at}
use Rattle.domain_laws.specs.Shape.{DomainShaped}
use Rattle.domain_direct.specs.Direct.{topi_of}
use Rattle.wired_state.specs.Wires.{domain_in}
use Rattle.board_block.specs.Block.{Board, board_of, block_of, board_sound}
use Rattle.board_block.specs.Start.{start_board}
use Rattle.board_block_laws.specs.Shape.{BoardShaped}
use Rattle.board_call.specs.Answer.{Answer}
use Rattle.board_call.specs.declared.Call.{Call}
use Rattle.board_call.specs.declared.Call.TheVariants.{Reset, Wire, DomainRead, DomainWrite, PageRead}
use Rattle.board_call.specs.declared.Call.TheVariants.{PageWrite}
use Rattle.board_call.specs.declared.Call.TheVariants.{Register, Top, Claim, Signals}
use Rattle.board_call.specs.Calls.{tests_rules, present, addressed, selected}
use Rattle.board_call.specs.Refusal.{refusal_of}
use Rattle.board_call.specs.Change.{signals_to}
use Rattle.board_call.specs.Outcome.{Outcome, step, outcome, Gives, Does}
use Rattle.board_call_laws.specs.Small.{Small}
use Rattle.board_wired_calls.proofs.wire.Reads as wire
use Rattle.board_wired_calls.proofs.domain_read.Reads as domain-read
use Rattle.board_wired_calls.proofs.domain_write.Reads as domain-write
use Rattle.board_file_calls.proofs.page_read.Reads as page-read
use Rattle.board_file_calls.proofs.page_write.Reads as page-write
use Rattle.board_file_calls.proofs.register.Reads as register
use Rattle.board_file_calls.proofs.top.Reads as top
use Rattle.board_file_calls.proofs.claim.Reads as claim
use Rattle.board_hart_calls.proofs.reset.Reads as reset
use Rattle.board_hart_calls.proofs.signals.Reads as signals
use Rattle.board.proofs.apply.Reads as apply

-- ---- what a call gives

-- what the calls on the wired controller give, for any numbers and any blocks, is the outcome of the call
unfoldable pub Claim-80 : Type 0
Claim-80 =
    (l : Lfts 2) (b b' g g' : MutBor (List ℕ)) (r : Answer)
    → ((i level : ℕ) → wire.Learnt l (b, (g, (i, (level, tt)))) r (b', (g', (i, (level, tt))))
    → Does (Wire i level) b.now g.now r b'.now g'.now)
    × ((d a : ℕ) → domain-read.Learnt l (b, (g, (d, (a, tt)))) r (b', (g', (d, (a, tt))))
    → Does (DomainRead d a) b.now g.now r b'.now g'.now)
    × ((d a v : ℕ) → domain-write.Learnt l (b, (g, (d, (a, (v, tt))))) r (b', (g', (d, (a, (v, tt)))))
    → Does (DomainWrite d a v) b.now g.now r b'.now g'.now)

-- what the calls on one message file give, for any numbers and any blocks, is the outcome of the call
-- [01 C2 C3]
unfoldable pub Claim-81 : Type 0
Claim-81 =
    (l : Lfts 2) (b b' g g' : MutBor (List ℕ)) (r : Answer) (h f : ℕ)
    → ((a : ℕ) → page-read.Learnt l (b, (g, (h, (f, (a, tt))))) r (b', (g', (h, (f, (a, tt)))))
    → Does (PageRead h f a) b.now g.now r b'.now g'.now)
    × ((a v : ℕ)
    → page-write.Learnt l (b, (g, (h, (f, (a, (v, tt)))))) r (b', (g', (h, (f, (a, (v, tt))))))
    → Does (PageWrite h f a v) b.now g.now r b'.now g'.now)
    × ((k s v : ℕ)
    → register.Learnt l (b, (g, (h, (f, (k, (s, (v, tt))))))) r (b', (g', (h, (f, (k, (s, (v, tt)))))))
    → Does (Register h f k s v) b.now g.now r b'.now g'.now)
    × (top.Learnt l (b, (g, (h, (f, tt)))) r (b', (g', (h, (f, tt))))
    → Does (Top h f) b.now g.now r b'.now g'.now)
    × (claim.Learnt l (b, (g, (h, (f, tt)))) r (b', (g', (h, (f, tt))))
    → Does (Claim h f) b.now g.now r b'.now g'.now)

-- what reset and the call on a hart's signals give, for any blocks and any hart, is the outcome of the call
unfoldable pub Claim-82 : Type 0
Claim-82 =
    (l : Lfts 2) (b b' g g' : MutBor (List ℕ)) (r : Answer)
    → (reset.Learnt l (b, (g, tt)) r (b', (g', tt))
    → Does Reset b.now g.now r b'.now g'.now)
    × ((h : ℕ) → signals.Learnt l (b, (g, (h, tt))) r (b', (g', (h, tt)))
    → Does (Signals h) b.now g.now r b'.now g'.now)

-- the function over the enum of calls gives what the call of each case gives
-- [01 C1]
unfoldable pub Claim-90 : Type 0
Claim-90 =
    (l : Lfts 3) (b b' g g' s s' : MutBor (List ℕ)) (c : Call) (r : Answer)
    → apply.Learnt l (b, (g, (s, (c, tt)))) r (b', (g', (s', (c, tt))))
    → Gives (outcome c b.now g.now s.now) r b'.now g'.now s'.now

-- two results that a call's contract allows are equal: the answer, both blocks and the saved numbers of a
-- move
-- [01 X3]
unfoldable pub Claim-83 : Type 0
Claim-83 =
    (o : Outcome) (r s : Answer) (l m g h u v : List ℕ) → Gives o r l g u → Gives o s m h v
    → (r ≡ s) × (l ≡ m) × (g ≡ h) × (u ≡ v)

-- ---- when it is refused

-- both blocks have their lengths, and the block keeps the state rules where they are tested
abbrev pub Passes : Call → List ℕ → List ℕ → Type 0
Passes c l g =
    (length l ≡ 650) × (length g ≡ 63) × (tests_rules c ≡ true → board_sound (board_of l) ≡ true)

-- the table of refusals: each number where it applies and no lower one does, and 0 where none does
-- [01 B7 B10 C8 C9 C10 C11 C12 C13 C14 C15 C16 C18 C21 X5]
-- [02 M101.5]
unfoldable pub Claim-84 : Type 0
Claim-84 =
    (c : Call) (l g : List ℕ) → let b = board_of l in
    (length l ≢ 650 → refusal_of c l g ≡ 1)
    × (length l ≡ 650 → length g ≢ 63 → refusal_of c l g ≡ 2)
    × (length l ≡ 650 → length g ≡ 63 → tests_rules c ≡ true → board_sound (board_of l) ≡ false
    → refusal_of c l g ≡ 3)
    × (Passes c l g → present c b ≡ false → refusal_of c l g ≡ 4)
    × (Passes c l g → present c b ≡ true → addressed c ≡ false → refusal_of c l g ≡ 5)
    × (Passes c l g → present c b ≡ true → addressed c ≡ true → selected c ≡ false → refusal_of c l g ≡ 6)
    × (Passes c l g → present c b ≡ true → addressed c ≡ true → selected c ≡ true → refusal_of c l g ≡ 0)

-- a refused call answers its number, 0 and 0, and changes neither block, nor the saved numbers of a move
-- [01 C19 V4]
unfoldable pub Claim-85 : Type 0
Claim-85 =
    (c : Call) (l g s : List ℕ) → refusal_of c l g ≢ 0
    → outcome c l g s
    ≡ record { number = refusal_of c l g; value = 0; count = 0; block = l; log = g; saved = s }

-- ---- what an accepted call leaves

-- given a block of words of 32 bits that keep the rules, a value and saved numbers of 64 bits, an accepted
-- call leaves a board that keeps the state rules and has its lengths, words of 32 bits in its files and
-- saved numbers of 64 bits, and sends at most 63 messages
unfoldable pub Claim-86 : Type 0
Claim-86 =
    (l g s : List ℕ) → WordsFit l → ((k : ℕ) → get_or s k 0 < 2 ^ 64) → (c : Call) → Small c
    → board_sound (board_of l) ≡ true → refusal_of c l g ≡ 0
    → let x = step c (board_of l) s in
    (board_sound x.board ≡ true) × BoardShaped x.board
    × ((k : ℕ) → k < 20 → Shaped (the_file x.board.files k)) × (length x.messages ≤ 63)
    × ((k : ℕ) → get_or x.saved k 0 < 2 ^ 64)

-- reset leaves the board that the paper describes, whatever the block held, and sends nothing
-- [01 R9]
unfoldable pub Claim-87 : Type 0
Claim-87 =
    (b : Board) (s : List ℕ)
    → (step Reset b s ≡ record { board = start_board; value = 0; messages = []; saved = s })
    × (board_sound start_board ≡ true)

-- a board has one block, and a block one board. The lengths of a board are 20 files with eight words in each
-- of their sets, two words of wires, and those of its domains (Claim-72)
-- [01 B9]
unfoldable pub Claim-88 : Type 0
Claim-88 =
    ((l : List ℕ) → length l ≡ 650 → block_of (board_of l) ≡ l)
    × ((b : Board) → BoardShaped b → (board_of (block_of b) ≡ b) × (length (block_of b) ≡ 650))
    × ((b : Board) → BoardShaped b
    ↔ ((length b.files ≡ 20)
    × ((k : ℕ) → k < 20 → let x = the_file b.files k in
    (length x.pending ≡ 8) × (length x.enable ≡ 8))
    × (length b.wired.wires ≡ 2) × DomainShaped b.wired.machine × DomainShaped b.wired.child))

-- ---- the signals

-- bit f of the answer is up exactly if file f signals: with delivery 1 by a top that is not 0, and file 0
-- or 1 with delivery 0x40000000 by its domain, if DM is 0, IE and idelivery are 1, and iforce and topi are
-- not both 0
-- [01 B6 S16 S17 S19 S20]
unfoldable pub Claim-89 : Type 0
Claim-89 =
    (b : Board) (h f : ℕ) → f < 5
    → let x = the_file b.files (file_number h f) in
    let d = domain_in b.wired (eqb f 1) in
    has_bit (signals_to b h 5) f ≡ true
    ↔ (((x.delivery ≡ 1) × (top_of 255 x ≢ 0))
    ⊎ ((f < 2) × (x.delivery ≡ 0x40000000) × (by_messages d ≡ false) × (is_enabled d ≡ true)
    × ((structure_at d h).idelivery ≡ 1) × (((structure_at d h).iforce ≢ 0) ⊎ (topi_of d h ≢ 0))))

-- the signals of a hart, and so what a call on them answers, are below 32
-- [01 S20]
unfoldable pub Claim-161 : Type 0
Claim-161 =
    ((b : Board) (h : ℕ) → signals_to b h 5 < 32)
    × ((l g s : List ℕ) (h : ℕ) → (outcome (Signals h) l g s).value < 32)
