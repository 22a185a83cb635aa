-- Claim 163: the table cases of the paper, T1 to T11, by whole calls: what the last call of a run answers, on
-- the block after a reset. 01, "Table cases", "Calls and their refusals".
--   answered cs c       what the call c answers after the calls cs: refusal, value, count, and then the first
--                       word of the log
--   five_and_nine_at t  identities 5 and 9 enabled and sent to guest file 1 of hart 0, and its threshold t
--   detached i t        source i of the machine domain detached, its target t, enabled and pending
-- In a register access 0 reads and 1 writes; domain 0 is the machine domain and 1 its child.
-- Premises: none. No axioms.
use Rattle.std.specs.Prelude.{ℕ, ◌+◌, ◌*◌, ◌≡◌, List, [], ◌∷◌, ◌++◌, get_or}
use Rattle.board_call.specs.declared.Call.{Call}
use Rattle.board_call.specs.declared.Call.TheVariants.{DomainRead, DomainWrite, PageWrite, Register, Top}
use Rattle.board_call.specs.Outcome.{outcome}
use Rattle.board_runs.specs.Runs.{ran}
use Rattle.board_runs.specs.Ready.{at_reset}

abbrev pub answered : List Call → Call → List ℕ
answered cs c =
    let x = ran cs at_reset in
    let o = outcome c x.block x.log x.saved in
    o.number ∷ o.value ∷ o.count ∷ get_or o.log 0 0 ∷ []

abbrev pub five_and_nine_at : ℕ → List Call
five_and_nine_at t =
    Register 0 2 1 0xC0 0x220 ∷ PageWrite 0 2 0 9 ∷ PageWrite 0 2 0 5 ∷ Register 0 2 1 0x72 t ∷ []

abbrev pub detached : ℕ → ℕ → List Call
detached i t =
    DomainWrite 0 (4 * i) 1 ∷ DomainWrite 0 (0x3000 + 4 * i) t ∷ DomainWrite 0 0x1EDC i
    ∷ DomainWrite 0 0x1CDC i ∷ []

-- the child has IE and DM, and source 7, detached, with the target of T8 and enabled
abbrev pub delegated : List Call
delegated =
    DomainWrite 0 0x1C 0x400 ∷ DomainWrite 1 0 0x104 ∷ DomainWrite 1 0x1C 1
    ∷ DomainWrite 1 0x301C 0x00081028 ∷ DomainWrite 1 0x1EDC 7 ∷ []

-- the table cases T1 to T11 by whole calls: from the block that a reset leaves, what the last call answers,
-- with the first word of the log, and what it leaves
-- [01 M6 T1 T2 T3 T4 T5 T6 T7 T8 T9 T10 T11 X6]
unfoldable pub Claim-163 : Type 0
Claim-163 =
    -- T1, T2, T3
    (answered (five_and_nine_at 0) (Top 0 2) ≡ 0 ∷ 0x00050005 ∷ 0 ∷ 0 ∷ [])
    × (answered (five_and_nine_at 5) (Top 0 2) ≡ 0 ∷ 0 ∷ 0 ∷ 0 ∷ [])
    × (answered (five_and_nine_at 6) (Top 0 2) ≡ 0 ∷ 0x00050005 ∷ 0 ∷ 0 ∷ [])
    -- T4
    × (ran (PageWrite 0 2 0 256 ∷ []) at_reset ≡ at_reset)
    -- T5
    × (answered (PageWrite 0 2 4 0x05000000 ∷ []) (Register 0 2 0 0x80 0) ≡ 0 ∷ 0x20 ∷ 0 ∷ 0 ∷ [])
    -- T6, T7
    × (answered (detached 7 3) (DomainRead 0 0x4018) ≡ 0 ∷ 0x00070003 ∷ 0 ∷ 0 ∷ [])
    × (answered (detached 8 3 ++ detached 7 3) (DomainRead 0 0x4018) ≡ 0 ∷ 0x00070003 ∷ 0 ∷ 0 ∷ [])
    -- T8: the target, the message, and identity 40 in guest file 1 of hart 2
    × (answered delegated (DomainRead 1 0x301C) ≡ 0 ∷ 0x00081028 ∷ 0 ∷ 0 ∷ [])
    × (answered delegated (DomainWrite 1 0x1CDC 7) ≡ 0 ∷ 0 ∷ 1 ∷ 4648 ∷ [])
    × (answered (delegated ++ DomainWrite 1 0x1CDC 7 ∷ []) (Register 2 2 0 0x80 0)
    ≡ 0 ∷ 0x10000000000 ∷ 0 ∷ 4648 ∷ [])
    -- T9
    × (answered (DomainWrite 0 0 0x104 ∷ []) (DomainRead 0 0) ≡ 0 ∷ 0x80000104 ∷ 0 ∷ 0 ∷ [])
    -- T10: the claim of hart 3, after which there is none; and past the region
    × (answered (detached 7 0xC0003) (DomainRead 0 0x407C) ≡ 0 ∷ 0x00070003 ∷ 0 ∷ 0 ∷ [])
    × (answered (detached 7 0xC0003 ++ DomainRead 0 0x407C ∷ []) (DomainRead 0 0x407C)
    ≡ 0 ∷ 0 ∷ 0 ∷ 0 ∷ [])
    × (answered [] (DomainRead 0 0x5000) ≡ 5 ∷ 0 ∷ 0 ∷ 0 ∷ [])
    -- T11
    × (answered [] (Register 0 2 0 0x81 0) ≡ 6 ∷ 0 ∷ 0 ∷ 0 ∷ [])
    × (answered [] (Register 0 2 0 0x71 0) ≡ 0 ∷ 0 ∷ 0 ∷ 0 ∷ [])
