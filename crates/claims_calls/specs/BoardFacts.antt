-- Claims 91 to 93 and 162, on the calls of the board: a call on one file leaves the others, each number of
-- the table of refusals is given for some input, and what the functions that C calls answer, which settles
-- everything. 01, "Calls and their refusals", "What the auditor will try".
-- Premises: of Claim-91 that the board keeps the state rules; of Claim-93 what the contract ensures,
-- `X.Learnt`, for which nothing is asked (Claim-113). The others have none. No axioms.
--   Given c n        there are a block and a log with which the call c gets the number n
--   OnlyFile k b b'  b' is b but for file number k
use Rattle.std.specs.Prelude.{ℕ, ◌≡◌, true, List, ◌≢◌}
use contract.Lifetimes.{Lfts}
use Rattle.std.specs.Borrow.{MutBor}
use Rattle.files.specs.Files.{file_number, the_file}
use Rattle.board_block.specs.Block.{Board, board_sound}
use Rattle.board_call.specs.declared.Call.{Call}
use Rattle.board_call.specs.declared.Call.TheVariants.{Reset, Wire, DomainRead, DomainWrite, PageRead}
use Rattle.board_call.specs.declared.Call.TheVariants.{PageWrite}
use Rattle.board_call.specs.declared.Call.TheVariants.{Register, Top, Claim, Signals, Move}
use Rattle.board_call.specs.Calls.{tests_rules}
use Rattle.board_call.specs.Refusal.{refusal_of}
use Rattle.board_call.specs.Outcome.{Outcome, step}
use Rattle.monitor_answer.specs.declared.VskAnswer.{VskAnswer}
use Rattle.monitor_answer.specs.Told.{Told, Tells}
use Rattle.monitor.proofs.vsk_reset.Reads as vsk-reset
use Rattle.monitor.proofs.vsk_wire.Reads as vsk-wire
use Rattle.monitor.proofs.vsk_domain_read.Reads as vsk-domain-read
use Rattle.monitor.proofs.vsk_domain_write.Reads as vsk-domain-write
use Rattle.monitor.proofs.vsk_page_read.Reads as vsk-page-read
use Rattle.monitor.proofs.vsk_page_write.Reads as vsk-page-write
use Rattle.monitor.proofs.vsk_register.Reads as vsk-register
use Rattle.monitor.proofs.vsk_top.Reads as vsk-top
use Rattle.monitor.proofs.vsk_claim.Reads as vsk-claim
use Rattle.monitor.proofs.vsk_signals.Reads as vsk-signals

-- ---- one file

pub record OnlyFile (k : ℕ) (b b' : Board) : Type 0 where
  pub files : (j : ℕ) → j ≢ k → the_file b'.files j ≡ the_file b.files j
  pub wired : b'.wired ≡ b.wired

-- a page write, a register access and a claim leave every other file and the wired controller; a page read, a
-- read of the top or of the signals leave the board
unfoldable pub Claim-91 : Type 0
Claim-91 =
    (b : Board) → board_sound b ≡ true → (h f : ℕ) (u : List ℕ)
    → ((a v : ℕ) → OnlyFile (file_number h f) b (step (PageWrite h f a v) b u).board)
    × ((k s v : ℕ) → OnlyFile (file_number h f) b (step (Register h f k s v) b u).board)
    × OnlyFile (file_number h f) b (step (Claim h f) b u).board
    × ((a : ℕ) → (step (PageRead h f a) b u).board ≡ b)
    × ((step (Top h f) b u).board ≡ b)
    × ((step (Signals h) b u).board ≡ b)

-- ---- no row of the table is empty

pub record Given (c : Call) (n : ℕ) : Type 0 where
  pub block : List ℕ
  pub log : List ℕ
  pub refused : refusal_of c block log ≡ n

-- every line of the table of refusals is given for some input: 1 and 2 by every call, 3 by every call that
-- tests the rules; 4 for each thing that may not be there, and by a move for each thing that bars it: its
-- access, old and new the same, either of them no guest file, and, with numbers that do not bar it, the child
-- domain in direct mode; 5 by each call with an address, 6 by the one with a select number; and each call is
-- done for some input
-- [01 C10 C11 X5]
unfoldable pub Claim-92 : Type 0
Claim-92 =
    ((c : Call) → Given c 1 × Given c 2)
    × ((c : Call) → tests_rules c ≡ true → Given c 3)
    × (Given (Wire 0 1) 4 × Given (Wire 64 1) 4 × Given (Wire 1 2) 4)
    × (Given (DomainRead 2 0) 4 × Given (DomainWrite 2 0 0) 4)
    × (Given (PageRead 4 0 0) 4 × Given (PageRead 0 5 0) 4 × Given (PageWrite 4 0 0 1) 4)
    × (Given (Register 4 0 0 0x70 0) 4 × Given (Register 0 0 4 0x70 0) 4)
    × (Given (Top 4 0) 4 × Given (Claim 0 5) 4 × Given (Signals 4) 4)
    × (Given (Move 0 2 1 3 0) 4 × Given (Move 0 2 1 3 90) 4 × Given (Move 0 2 0 2 1) 4)
    × (Given (Move 4 2 1 3 1) 4 × Given (Move 0 1 1 3 1) 4 × Given (Move 0 5 1 3 1) 4)
    × (Given (Move 0 2 4 3 1) 4 × Given (Move 0 2 1 1 1) 4 × Given (Move 0 2 1 5 1) 4)
    × Given (Move 0 2 1 3 1) 4
    × (Given (DomainRead 0 0x5000) 5 × Given (DomainWrite 1 2 0) 5)
    × (Given (PageRead 0 0 0x1000) 5 × Given (PageWrite 0 0 1 1) 5)
    × Given (Register 0 0 0 0x81 0) 6
    × (Given Reset 0 × Given (Wire 1 1) 0 × Given (DomainRead 0 0) 0 × Given (DomainWrite 0 0 0) 0)
    × (Given (PageRead 0 0 0) 0 × Given (PageWrite 0 0 0 1) 0 × Given (Register 0 0 0 0x70 0) 0)
    × (Given (Top 0 0) 0 × Given (Claim 0 0) 0 × Given (Signals 0) 0) × Given (Move 0 2 1 3 1) 0

-- ---- the functions that C calls

-- each function that C calls answers the refusal, the value and the count of its call's outcome, and leaves
-- both blocks as it says
-- [01 B16 C1 C17 X1 X4]
unfoldable pub Claim-93 : Type 0
Claim-93 =
    (l : Lfts 2) (b b' g g' : MutBor (List ℕ)) (r : VskAnswer)
    → (vsk-reset.Learnt l (b, (g, tt)) r (b', (g', tt))
    → Tells Reset b.now g.now r b'.now g'.now)
    × ((i level : ℕ) → vsk-wire.Learnt l (b, (g, (i, (level, tt)))) r (b', (g', (i, (level, tt))))
    → Tells (Wire i level) b.now g.now r b'.now g'.now)
    × ((d a : ℕ) → vsk-domain-read.Learnt l (b, (g, (d, (a, tt)))) r (b', (g', (d, (a, tt))))
    → Tells (DomainRead d a) b.now g.now r b'.now g'.now)
    × ((d a v : ℕ)
    → vsk-domain-write.Learnt l (b, (g, (d, (a, (v, tt))))) r (b', (g', (d, (a, (v, tt)))))
    → Tells (DomainWrite d a v) b.now g.now r b'.now g'.now)
    × ((h f a : ℕ) → vsk-page-read.Learnt l (b, (g, (h, (f, (a, tt))))) r (b', (g', (h, (f, (a, tt)))))
    → Tells (PageRead h f a) b.now g.now r b'.now g'.now)
    × ((h f a v : ℕ)
    → vsk-page-write.Learnt l (b, (g, (h, (f, (a, (v, tt)))))) r (b', (g', (h, (f, (a, (v, tt))))))
    → Tells (PageWrite h f a v) b.now g.now r b'.now g'.now)
    × ((h f k s v : ℕ)
    → vsk-register.Learnt l (b, (g, (h, (f, (k, (s, (v, tt))))))) r
    (b', (g', (h, (f, (k, (s, (v, tt)))))))
    → Tells (Register h f k s v) b.now g.now r b'.now g'.now)
    × ((h f : ℕ) → vsk-top.Learnt l (b, (g, (h, (f, tt)))) r (b', (g', (h, (f, tt))))
    → Tells (Top h f) b.now g.now r b'.now g'.now)
    × ((h f : ℕ) → vsk-claim.Learnt l (b, (g, (h, (f, tt)))) r (b', (g', (h, (f, tt))))
    → Tells (Claim h f) b.now g.now r b'.now g'.now)
    × ((h : ℕ) → vsk-signals.Learnt l (b, (g, (h, tt))) r (b', (g', (h, tt)))
    → Tells (Signals h) b.now g.now r b'.now g'.now)

-- two results that the contract of a function that C calls allows are equal: the refusal, the value and the
-- count, both blocks and the saved numbers of a move
-- [01 X3]
unfoldable pub Claim-162 : Type 0
Claim-162 =
    (o : Outcome) (r r' : VskAnswer) (l l' g g' s s' : List ℕ) → Told o r l g s → Told o r' l' g' s'
    → (r.refusal ≡ r'.refusal) × (r.value ≡ r'.value) × (r.count ≡ r'.count)
    × (l ≡ l') × (g ≡ g') × (s ≡ s')
