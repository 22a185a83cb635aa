-- Claims 115 to 117, on the numbers that a call is given: which harts, files, domains, wires, levels and
-- kinds of access there are, which addresses and select numbers are legal, which calls test the state rules,
-- and each of these at both ends. Of a move Claim-101 says it. 01, "The board", "Calls and their refusals".
--   AtStart c n       on the block after a reset, with a log of 63 words and any saved numbers, the call c
--                     gets n
-- Premises: none; Claim-117 speaks of one block. No axioms.
use Rattle.std.specs.Prelude.{ℕ, ◌%◌, ◌≤◌, ◌<◌, ◌≡◌, true, false, List, ◌↔◌, ◌⊎◌, replicate}
use Rattle.board_block.specs.Block.{Board, block_of}
use Rattle.board_block.specs.Start.{start_board}
use Rattle.board_call.specs.declared.Call.{Call}
use Rattle.board_call.specs.declared.Call.TheVariants.{Reset, Wire, DomainRead, DomainWrite, PageRead}
use Rattle.board_call.specs.declared.Call.TheVariants.{PageWrite, Register, Top, Claim, Signals, Move}
use Rattle.board_call.specs.Calls.{tests_rules, present, addressed, selected}
use Rattle.board_call.specs.Outcome.{outcome}

-- ---- refusal 4

-- what each call names is there exactly with these numbers: wires 1 to 63, levels 0 and 1, domains 0 and 1,
-- harts 0 to 3, files 0 to 4, kinds of access 0 to 3
-- [01 B1 B2 B4 B5 C13 C21]
unfoldable pub Claim-115 : Type 0
Claim-115 =
    (b : Board)
    → (present Reset b ≡ true)
    × ((w level : ℕ) → (present (Wire w level) b ≡ true) ↔ ((1 ≤ w) × (w ≤ 63) × (level ≤ 1)))
    × ((d a : ℕ) → (present (DomainRead d a) b ≡ true) ↔ (d < 2))
    × ((d a v : ℕ) → (present (DomainWrite d a v) b ≡ true) ↔ (d < 2))
    × ((h f a : ℕ) → (present (PageRead h f a) b ≡ true) ↔ ((h < 4) × (f < 5)))
    × ((h f a v : ℕ) → (present (PageWrite h f a v) b ≡ true) ↔ ((h < 4) × (f < 5)))
    × ((h f k s v : ℕ) → (present (Register h f k s v) b ≡ true) ↔ ((h < 4) × (f < 5) × (k < 4)))
    × ((h f : ℕ) → (present (Top h f) b ≡ true) ↔ ((h < 4) × (f < 5)))
    × ((h f : ℕ) → (present (Claim h f) b ≡ true) ↔ ((h < 4) × (f < 5)))
    × ((h : ℕ) → (present (Signals h) b ≡ true) ↔ (h < 4))

-- ---- refusals 3, 5 and 6

-- an address is a multiple of 4, in a region of 0x5000 bytes or a page of 4,096; a select number is illegal
-- below 0x70, above 0xFF, and odd from 0x80 on; the other calls have neither; and only reset does not test
-- the state rules
-- [01 C15 C16 C20 C22]
unfoldable pub Claim-116 : Type 0
Claim-116 =
    ((d a : ℕ) → (addressed (DomainRead d a) ≡ true) ↔ ((a % 4 ≡ 0) × (a < 0x5000)))
    × ((d a v : ℕ) → (addressed (DomainWrite d a v) ≡ true) ↔ ((a % 4 ≡ 0) × (a < 0x5000)))
    × ((h f a : ℕ) → (addressed (PageRead h f a) ≡ true) ↔ ((a % 4 ≡ 0) × (a < 4096)))
    × ((h f a v : ℕ) → (addressed (PageWrite h f a v) ≡ true) ↔ ((a % 4 ≡ 0) × (a < 4096)))
    × ((h f k s v : ℕ) → (selected (Register h f k s v) ≡ false)
    ↔ ((s < 0x70) ⊎ (0xFF < s) ⊎ ((0x80 ≤ s) × (s % 2 ≡ 1))))
    -- the calls without an address, and those without a select number
    × (addressed Reset ≡ true) × ((w level : ℕ) → addressed (Wire w level) ≡ true)
    × ((h f k s v : ℕ) → addressed (Register h f k s v) ≡ true) × ((h f : ℕ) → addressed (Top h f) ≡ true)
    × ((h f : ℕ) → addressed (Claim h f) ≡ true) × ((h : ℕ) → addressed (Signals h) ≡ true)
    × ((oh of nh nf n : ℕ) → addressed (Move oh of nh nf n) ≡ true)
    × (selected Reset ≡ true) × ((w level : ℕ) → selected (Wire w level) ≡ true)
    × ((d a : ℕ) → selected (DomainRead d a) ≡ true) × ((d a v : ℕ) → selected (DomainWrite d a v) ≡ true)
    × ((h f a : ℕ) → selected (PageRead h f a) ≡ true)
    × ((h f a v : ℕ) → selected (PageWrite h f a v) ≡ true)
    × ((h f : ℕ) → selected (Top h f) ≡ true) × ((h f : ℕ) → selected (Claim h f) ≡ true)
    × ((h : ℕ) → selected (Signals h) ≡ true) × ((oh of nh nf n : ℕ) → selected (Move oh of nh nf n) ≡ true)
    -- the state rules
    × ((c : Call) → (tests_rules c ≡ false) ↔ (c ≡ Reset))

-- ---- both ends

abbrev pub AtStart : Call → ℕ → Type 0
AtStart c n = (s : List ℕ) → (outcome c (block_of start_board) (replicate 63 0) s).number ≡ n

-- the last that is there is done, and the first that is not is refused with 4; the last address of a page and
-- of a region is done, the first past it and one that is no multiple of 4 are refused with 5; the first and
-- the last legal select numbers are done, those beside them and an odd one are refused with 6
-- [01 B1 C18 C22]
unfoldable pub Claim-117 : Type 0
Claim-117 =
    (AtStart (Wire 0 0) 4 × AtStart (Wire 1 0) 0 × AtStart (Wire 63 1) 0 × AtStart (Wire 64 1) 4
    × AtStart (Wire 63 2) 4)
    × (AtStart (DomainRead 1 0x4FFC) 0 × AtStart (DomainRead 2 0) 4 × AtStart (DomainRead 1 0x5000) 5
    × AtStart (DomainRead 1 2) 5)
    × (AtStart (DomainWrite 1 0x4FFC 0) 0 × AtStart (DomainWrite 2 0 0) 4
    × AtStart (DomainWrite 1 0x5000 0) 5 × AtStart (DomainWrite 1 2 0) 5)
    × (AtStart (PageRead 3 4 0xFFC) 0 × AtStart (PageRead 4 4 0) 4 × AtStart (PageRead 3 5 0) 4
    × AtStart (PageRead 3 4 0x1000) 5 × AtStart (PageRead 3 4 2) 5)
    × (AtStart (PageWrite 3 4 0xFFC 0) 0 × AtStart (PageWrite 4 4 0 0) 4 × AtStart (PageWrite 3 5 0 0) 4
    × AtStart (PageWrite 3 4 0x1000 0) 5 × AtStart (PageWrite 3 4 2 0) 5)
    × (AtStart (Register 3 4 3 0x70 0) 0 × AtStart (Register 4 4 3 0x70 0) 4
    × AtStart (Register 3 5 3 0x70 0) 4 × AtStart (Register 3 4 4 0x70 0) 4)
    × (AtStart (Register 3 4 3 0x6F 0) 6 × AtStart (Register 3 4 3 0x7F 0) 0
    × AtStart (Register 3 4 3 0x80 0) 0 × AtStart (Register 3 4 3 0x81 0) 6
    × AtStart (Register 3 4 3 0xFE 0) 0 × AtStart (Register 3 4 3 0xFF 0) 6
    × AtStart (Register 3 4 3 0x100 0) 6)
    × (AtStart (Top 3 4) 0 × AtStart (Top 4 4) 4 × AtStart (Top 3 5) 4)
    × (AtStart (Claim 3 4) 0 × AtStart (Claim 4 4) 4 × AtStart (Claim 3 5) 4)
    × (AtStart (Signals 3) 0 × AtStart (Signals 4) 4) × AtStart Reset 0
    -- the lowest number that applies: 4 before 5, and 4 before 6
    × (AtStart (DomainRead 2 2) 4 × AtStart (PageRead 4 0 2) 4 × AtStart (Register 0 0 4 0x81 0) 4)
