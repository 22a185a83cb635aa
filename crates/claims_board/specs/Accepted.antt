-- Claims 171 to 174, on what an accepted call answers and leaves: the numbers, the two blocks, and which file
-- or domain it works on, and how. 01, "Calls and their refusals", "The wired controller".
-- Premises: of 171, what is lent is `Ready` (650 words of 32 bits that keep the state rules, a log of 63
-- words, saved numbers of 64 bits) and a register's value has 64 bits (`Small`), as all that a
-- program can pass has, and no test refuses the call; 172 has none, and 174 a hart or a word that is
-- there; of 173, the board has 20 files and keeps the state rules, and the hart and the file are there. A
-- reset of a block that breaks the rules is Claim-87's. No axioms.
use Rattle.std.specs.Prelude.{ℕ, ◌+◌, ◌*◌, ◌≤◌, ◌<◌, ◌≡◌, true, false, List, leb, length, get_or}
use Rattle.file.specs.declared.register.Access.{Access}
use Rattle.file.specs.declared.register.Access.TheVariants.{Read, Write, Set, Clear}
use Rattle.file.specs.Page.{page_written}
use Rattle.file.specs.Register.{accessed}
use Rattle.file.specs.Reply.{reply_value}
use Rattle.file.specs.Top.{top_of, claimed}
use Rattle.files.specs.Files.{the_file}
use Rattle.domain_region.specs.Region.{word_at}
use Rattle.domain_direct.specs.Direct.{topi_of}
use Rattle.wired_registers.specs.Wired.{read_in}
use Rattle.wired.specs.Controller.{Out, wire_call, read_call, write_call}
use Rattle.board_block.specs.Block.{Board, board_of, board_sound}
use Rattle.board_call.specs.declared.Call.{Call}
use Rattle.board_call.specs.declared.Call.TheVariants.{Reset, Wire, DomainRead, DomainWrite, PageRead}
use Rattle.board_call.specs.declared.Call.TheVariants.{PageWrite}
use Rattle.board_call.specs.declared.Call.TheVariants.{Register, Top, Claim, Signals, Move}
use Rattle.board_call.specs.Change.{signals_to}
use Rattle.board_call.specs.Outcome.{Stepped, step, outcome}
use Rattle.board_call.specs.Refusal.{name_refusal}
use Rattle.board_call_laws.specs.Small.{Small}
use Rattle.board_runs.specs.Runs.{Lent}
use Rattle.board_runs.specs.Ready.{Ready}
use Rattle.claims_registers.specs.Registers.{InputRead}

-- an accepted call answers 0, its value, and the number of the messages that it sent; the block is that of
-- the board that `step` says; the messages stand first in the log, in order, and later log words stay; both
-- blocks keep their lengths
-- [01 C9 W49 W50 X7 X10]
unfoldable pub Claim-171 : Type 0
Claim-171 =
    (c : Call) (x : Lent) → Ready x → Small c → let b = board_of x.block in
    name_refusal c b ≡ 0
    → let o = outcome c x.block x.log x.saved in
    let y = step c b x.saved in
    (o.number ≡ 0) × (o.value ≡ y.value) × (o.count ≡ length y.messages) × (o.count ≤ 63)
    × (board_of o.block ≡ y.board) × (length o.block ≡ 650) × (o.saved ≡ y.saved)
    × ((k : ℕ) → k < o.count → get_or o.log k 0 ≡ get_or y.messages k 0)
    × ((k : ℕ) → o.count ≤ k → get_or o.log k 0 ≡ get_or x.log k 0) × (length o.log ≡ 63)

-- ---- the value

-- reset, a wire, a move, a write and a read of a page answer 0; a top and a claim the top as it was, and the
-- signals those of the hart's five files
-- [01 C4 C7 X6]
unfoldable pub Claim-172 : Type 0
Claim-172 =
    (b : Board) (s : List ℕ)
    → ((step Reset b s).value ≡ 0) × ((i level : ℕ) → (step (Wire i level) b s).value ≡ 0)
    × ((d a v : ℕ) → (step (DomainWrite d a v) b s).value ≡ 0)
    × ((h f a : ℕ) → (step (PageRead h f a) b s).value ≡ 0)
    × ((h f a v : ℕ) → (step (PageWrite h f a v) b s).value ≡ 0)
    × ((oh of nh nf n : ℕ) → (step (Move oh of nh nf n) b s).value ≡ 0)
    × ((h f : ℕ) → (step (Top h f) b s).value ≡ top_of 255 (the_file b.files (5 * h + f)))
    × ((h f : ℕ) → (step (Claim h f) b s).value ≡ top_of 255 (the_file b.files (5 * h + f)))
    × ((h : ℕ) → (step (Signals h) b s).value ≡ signals_to b h 5)

-- ---- the file or the domain

-- what an access of a kind does to file f of hart h, which is a guest's from file 2 on
abbrev pub AccessedBy : Access → ℕ → ℕ → Board → Stepped → ℕ → ℕ → ℕ → Type 0
AccessedBy k h f b x select v number =
    let r = accessed 255 (leb 2 f) (the_file b.files number) k select v in
    (x.value ≡ reply_value r.answer) × (the_file x.board.files number ≡ r.file)

-- what a domain call does, c being the child
abbrev pub DoneBy : Out → Board → Stepped → Type 0
DoneBy o b x = (x.board.wired ≡ o.wired) × (x.messages ≡ o.messages)

-- a page write, an access and a claim work on file f of hart h, number 5 h + f, as the methods of a file do:
-- kind 0 reads, 1 writes, 2 sets bits, 3 clears bits; domain 0 is the machine domain and 1 the child, and a
-- wire, a read and a write do what the functions of the wired controller do, level 1 being high
-- [01 B3 B5 C2 C3]
unfoldable pub Claim-173 : Type 0
Claim-173 =
    (b : Board) → length b.files ≡ 20 → board_sound b ≡ true → (s : List ℕ)
    → ((h f : ℕ) → h < 4 → f < 5
    → let k = 5 * h + f in
    ((a v : ℕ)
    → the_file (step (PageWrite h f a v) b s).board.files k ≡ page_written 255 (the_file b.files k) a v)
    × (the_file (step (Claim h f) b s).board.files k ≡ claimed 255 (the_file b.files k))
    × ((select v : ℕ)
    → AccessedBy Read h f b (step (Register h f 0 select v) b s) select v k
    × AccessedBy Write h f b (step (Register h f 1 select v) b s) select v k
    × AccessedBy Set h f b (step (Register h f 2 select v) b s) select v k
    × AccessedBy Clear h f b (step (Register h f 3 select v) b s) select v k))
    × ((i : ℕ)
    → DoneBy (wire_call b.wired i false) b (step (Wire i 0) b s)
    × DoneBy (wire_call b.wired i true) b (step (Wire i 1) b s))
    × ((a : ℕ)
    → ((step (DomainRead 0 a) b s).value ≡ read_in b.wired false (word_at a))
    × ((step (DomainRead 1 a) b s).value ≡ read_in b.wired true (word_at a))
    × DoneBy (read_call b.wired false (word_at a)) b (step (DomainRead 0 a) b s)
    × DoneBy (read_call b.wired true (word_at a)) b (step (DomainRead 1 a) b s))
    × ((a v : ℕ)
    → DoneBy (write_call b.wired false (word_at a) v) b (step (DomainWrite 0 a v) b s)
    × DoneBy (write_call b.wired true (word_at a) v) b (step (DomainWrite 1 a v) b s))

-- ---- registers that a call reads

-- by calls, in either domain: a read of topi, at 0x4000 + 32 h + 0x18, and of claimi, at + 0x1C, answers
-- topi of hart h in that domain; bit n of a read of in_clrip[k], at 0x1D00 + 4 k, is 1 exactly if the
-- rectified value of source 32 k + n in that domain is high
-- [01 B6 W7 W37 S4 S11]
unfoldable pub Claim-174 : Type 0
Claim-174 =
    (b : Board) (s : List ℕ)
    → ((h : ℕ) → h < 4
    → ((step (DomainRead 0 (0x4000 + 32 * h + 0x18)) b s).value ≡ topi_of b.wired.machine h)
    × ((step (DomainRead 1 (0x4000 + 32 * h + 0x18)) b s).value ≡ topi_of b.wired.child h)
    × ((step (DomainRead 0 (0x4000 + 32 * h + 0x1C)) b s).value ≡ topi_of b.wired.machine h)
    × ((step (DomainRead 1 (0x4000 + 32 * h + 0x1C)) b s).value ≡ topi_of b.wired.child h))
    × ((k n : ℕ) → k < 2 → n < 32
    → let i = 32 * k + n in
    let wires = b.wired.wires in
    InputRead (step (DomainRead 0 (0x1D00 + 4 * k)) b s).value n i b.wired.machine wires
    × InputRead (step (DomainRead 1 (0x1D00 + 4 * k)) b s).value n i b.wired.child wires)
