-- The three demands: each a conjunction of the claims that answer it, so that whoever believes these three
-- names and what they unfold to has the answer. docs/CLAIMS.md is the index of the claims. 01, "The build,
-- stated with its exact rules", "What the auditor will try".
-- Demands 2 and 3 speak of what a call does, `outcome` and `step`; that the code does it, demand 1 says.
-- Premises: none here; each claim has its own, which the header of its file names. No axioms.
use Rattle.claims_file.specs.FileCalls.{Claim-1, Claim-2, Claim-3, Claim-4, Claim-5, Claim-6, Claim-7}
use Rattle.claims_file.specs.FileCalls.{Claim-8, Claim-9, Claim-10, Claim-11, Claim-12, Claim-13, Claim-14}
use Rattle.claims_file.specs.FileFacts.{Claim-20, Claim-21, Claim-22, Claim-23, Claim-24, Claim-25}
use Rattle.claims_file.specs.FileFacts.{Claim-26, Claim-27, Claim-28, Claim-29, Claim-30, Claim-31}
use Rattle.claims_file.specs.FileFacts.{Claim-32, Claim-33, Claim-34}
use Rattle.claims_file.specs.FileRegisters.{Claim-120, Claim-121, Claim-122, Claim-123, Claim-124}
use Rattle.claims_file.specs.FileRegisters.{Claim-125}
use Rattle.claims_file.specs.FileState.{Claim-126, Claim-127, Claim-128, Claim-129}
use Rattle.claims_domain.specs.Causes.{Claim-40, Claim-41, Claim-42}
use Rattle.claims_domain.specs.Direct.{Claim-43, Claim-44, Claim-45, Claim-46, Claim-47, Claim-48, Claim-49}
use Rattle.claims_domain.specs.Sending.{Claim-50, Claim-51, Claim-52, Claim-53, Claim-54, Claim-147}
use Rattle.claims_registers.specs.Writes.{Claim-55, Claim-56, Claim-57, Claim-58}
use Rattle.claims_wired.specs.Operations.{Claim-59}
use Rattle.claims_wired.specs.WiredCalls.{Claim-60, Claim-61, Claim-62, Claim-63, Claim-64, Claim-65}
use Rattle.claims_wired.specs.WiredCalls.{Claim-66, Claim-67, Claim-68, Claim-69, Claim-70, Claim-71}
use Rattle.claims_registers.specs.Rules.{Claim-72, Claim-73, Claim-74, Claim-75}
use Rattle.claims_wired.specs.Controller.{Claim-76, Claim-77, Claim-78, Claim-79}
use Rattle.claims_registers.specs.Modes.{Claim-94, Claim-95}
use Rattle.claims_domain.specs.Region.{Claim-130, Claim-131}
use Rattle.claims_registers.specs.Registers.{Claim-132, Claim-133, Claim-139, Claim-145}
use Rattle.claims_registers.specs.Enables.{Claim-134}
use Rattle.claims_registers.specs.Settings.{Claim-135, Claim-136, Claim-142}
use Rattle.claims_wired.specs.Record.{Claim-179}
use Rattle.claims_registers.specs.Sourcecfg.{Claim-137}
use Rattle.claims_registers.specs.Accesses.{Claim-138, Claim-140}
use Rattle.claims_registers.specs.Wires.{Claim-141}
use Rattle.claims_wired.specs.Effects.{Claim-143, Claim-144}
use Rattle.claims_domain.specs.Fields.{Claim-146}
use Rattle.claims_wired.specs.Kept.{Claim-155}
use Rattle.claims_board.specs.OneSource.{Claim-96, Claim-97, Claim-98, Claim-99}
use Rattle.claims_board.specs.Numbers.{Claim-115, Claim-116, Claim-117}
use Rattle.claims_board.specs.BoardRules.{Claim-118}
use Rattle.claims_board.specs.Closure.{Claim-150, Claim-151, Claim-152, Claim-153, Claim-154, Claim-156}
use Rattle.claims_board.specs.Rows.{Claim-182}
use Rattle.claims_board.specs.Start.{Claim-160}
use Rattle.claims_board.specs.Accepted.{Claim-171, Claim-172, Claim-173, Claim-174}
use Rattle.claims_board.specs.Places.{Claim-176}
use Rattle.claims_calls.specs.BoardCalls.{Claim-80, Claim-81, Claim-82, Claim-83, Claim-84, Claim-85}
use Rattle.claims_calls.specs.BoardCalls.{Claim-86, Claim-87, Claim-88, Claim-89, Claim-90, Claim-161}
use Rattle.claims_calls.specs.BoardFacts.{Claim-91, Claim-92, Claim-93, Claim-162}
use Rattle.claims_calls.specs.Asked.{Claim-113, Claim-114}
use Rattle.claims_calls.specs.Answers.{Claim-177}
use Rattle.claims_move.specs.MoveCall.{Claim-100, Claim-101, Claim-102, Claim-103}
use Rattle.claims_move.specs.Station.{Claim-104, Claim-105, Claim-106, Claim-107, Claim-108, Claim-109}
use Rattle.claims_move.specs.Runs.{Claim-183, Claim-184}
use Rattle.claims_move.specs.Premises.{Claim-175, Claim-178}
use Rattle.claims_move.specs.Words.{Claim-187, Claim-188}
use Rattle.claims_move.specs.Station.{Claim-110, Claim-180, Claim-181, Claim-185, Claim-190}
use Rattle.claims_move.specs.OneShift.{Claim-111}
use Rattle.claims_move.specs.Conditions.{Claim-112, Claim-186, Claim-191}
use Rattle.claims_move.specs.GivenUp.{Claim-189}
use Rattle.claims_cases.specs.Runs.{Claim-163}
use Rattle.claims_cases.specs.Table.{Claim-170}

-- demand 1: every call, with any numbers and any lent block, ends with its answer or one of the numbered
-- refusals, each given exactly when the paper says; a refused call answers value 0 and count 0 and changes
-- nothing in the state block or the message log
unfoldable pub Demand-1 : Type 2
Demand-1 =
    -- nothing is asked of a caller, and the code meets its contract
    Claim-113 × Claim-114
    -- what each function answers and leaves is the outcome of its call, for any numbers and any blocks
    × Claim-80 × Claim-81 × Claim-82 × Claim-90 × Claim-93 × Claim-100
    -- and that settles it: the answer, both blocks and the saved numbers
    × Claim-83 × Claim-162 × Claim-177 × Claim-88 × Claim-176
    -- each refusal exactly when the paper says: the table, and what each line of it means in plain numbers
    × Claim-84 × Claim-92 × Claim-115 × Claim-116 × Claim-117 × Claim-101 × Claim-8 × Claim-30
    × Claim-31
    -- the state rules, by file, for the wired controller and for the board, and their tests
    × Claim-127 × Claim-12 × Claim-73 × Claim-72 × Claim-118
    -- a refused call answers 0 and 0 and changes nothing
    × Claim-85
    -- and the block that a call leaves is taken by the next one
    × Claim-86 × Claim-104 × Claim-178 × Claim-160

-- demand 2: every read, next state, hart signal and outgoing message is what the standard defines for the
-- wired controller and the message files, the paper deciding wherever it speaks; a top interrupt reads zero
-- exactly if no interrupt qualifies, and by messages the wired controller's always does
unfoldable pub Demand-2 : Type 2
Demand-2 =
    -- the calls: what an accepted one answers and leaves, and what it works on
    Claim-171 × Claim-172 × Claim-173 × Claim-87
    -- a message file: what its methods give
    × Claim-1 × Claim-2 × Claim-3 × Claim-4 × Claim-5 × Claim-6 × Claim-7 × Claim-9 × Claim-10
    × Claim-11 × Claim-13 × Claim-14
    -- its page, its registers, its top; a top reads 0 exactly if none qualifies
    × Claim-20 × Claim-21 × Claim-22 × Claim-23 × Claim-24 × Claim-25 × Claim-26 × Claim-27 × Claim-28
    × Claim-29 × Claim-32 × Claim-33 × Claim-34 × Claim-120 × Claim-121 × Claim-122 × Claim-123
    × Claim-124 × Claim-125 × Claim-126 × Claim-128 × Claim-129
    -- the wired controller: what its functions give
    × Claim-60 × Claim-61 × Claim-62 × Claim-63 × Claim-64 × Claim-65 × Claim-66 × Claim-67 × Claim-68
    × Claim-69 × Claim-70 × Claim-71 × Claim-76
    -- its registers: where they are, what they read, what a write stores
    × Claim-130 × Claim-131 × Claim-132 × Claim-133 × Claim-134 × Claim-135 × Claim-136 × Claim-137
    × Claim-138 × Claim-139 × Claim-140 × Claim-141 × Claim-143 × Claim-145 × Claim-146
    -- the settable numbers of a delivery structure as a record that is lent
    × Claim-179
    -- pending bits, by the table of causes of 4.7, and nothing else
    × Claim-40 × Claim-41 × Claim-42 × Claim-59 × Claim-144 × Claim-55 × Claim-56 × Claim-57 × Claim-58
    × Claim-94 × Claim-95
    -- direct delivery: topi, claimi and the signal
    × Claim-43 × Claim-44 × Claim-45 × Claim-46 × Claim-47 × Claim-48 × Claim-49 × Claim-142
    × Claim-174
    -- what is sent, and that it reaches its file
    × Claim-50 × Claim-147 × Claim-51 × Claim-52 × Claim-53 × Claim-54 × Claim-77 × Claim-78 × Claim-96
    × Claim-97
    × Claim-98 × Claim-99
    -- the state rules are kept
    × Claim-74 × Claim-75 × Claim-79
    -- nothing changes but what a call names
    × Claim-155 × Claim-150 × Claim-151 × Claim-156 × Claim-152 × Claim-153 × Claim-154 × Claim-182
    × Claim-91
    -- the signals of a hart
    × Claim-89 × Claim-161
    -- the table cases, by definition and by whole calls
    × Claim-170 × Claim-163

-- demand 3: a station moved from one guest file to a different one by the published six steps, while wires
-- change and messages arrive anywhere between them, under the premises that the paper lists, ends with the
-- file that it would have had with no move; every file but the old and the new one, every wire and every
-- pending and enable bit of the wired controller is the same as with no move
unfoldable pub Demand-3 : Type 1
Demand-3 =
    -- one access, in plain numbers and bits
    Claim-102 × Claim-103
    -- the new file is the one that the station would have had, and nothing else differs; none of the 89
    -- accesses is refused
    × Claim-105 × Claim-106
    -- no scan is dropped, doubled or handed to another station, and the shift goes on
    × Claim-107 × Claim-108 × Claim-109 × Claim-110
    -- what is left of the old file
    × Claim-180
    -- a move that is given up before access 9 is undone by one write
    × Claim-189
    -- the other stations go on, and what only reads may be called at any moment
    × Claim-185 × Claim-190 × Claim-181
    -- each call brings a log of its own, and an access the saved numbers that the last one gave
    × Claim-183 × Claim-184
    -- the premises are the paper's, can be met, and each is needed; so is what is held back
    × Claim-175 × Claim-111 × Claim-112 × Claim-186
    -- the words that these are told with
    × Claim-187 × Claim-188 × Claim-191
