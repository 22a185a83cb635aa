-- Claim 206: reads of in_clrip by whole calls, on the block after a reset. 02, M-101.
--   moded_to i m   source i of the machine domain gets mode m
--   handed_on i m  source i is delegated, and gets mode m in the child
-- Domain 0 is the machine domain and 1 its child; in_clrip is at 0x1D00 and 0x1D04. A reset leaves every wire
-- low.
-- Premises: none. No axioms.
use Rattle.std.specs.Prelude.{ℕ, ◌*◌, ◌≡◌, List, [], ◌∷◌, ◌++◌}
use Rattle.board_call.specs.declared.Call.{Call}
use Rattle.board_call.specs.declared.Call.TheVariants.{Wire, DomainRead, DomainWrite}
use Rattle.claims_cases.specs.Runs.{answered}

abbrev pub moded_to : ℕ → ℕ → List Call
moded_to i m = DomainWrite 0 (4 * i) m ∷ []

abbrev pub handed_on : ℕ → ℕ → List Call
handed_on i m = DomainWrite 0 (4 * i) 0x400 ∷ DomainWrite 1 (4 * i) m ∷ []

-- what a read of in_clrip answers at the edges of its reading
unfoldable pub Claim-206 : Type 0
Claim-206 =
    -- Level0 reads 1 with a low wire, right after it got its mode, as setip does, and 0 with a high one
    (answered (moded_to 7 7) (DomainRead 0 0x1D00) ≡ 0 ∷ 0x80 ∷ 0 ∷ 0 ∷ [])
    × (answered (moded_to 7 7) (DomainRead 0 0x1C00) ≡ 0 ∷ 0x80 ∷ 0 ∷ 0 ∷ [])
    × (answered (moded_to 7 7 ++ Wire 7 1 ∷ []) (DomainRead 0 0x1D00) ≡ 0 ∷ 0 ∷ 0 ∷ 0 ∷ [])
    -- Level1 the other way round
    × (answered (moded_to 7 6) (DomainRead 0 0x1D00) ≡ 0 ∷ 0 ∷ 0 ∷ 0 ∷ [])
    × (answered (moded_to 7 6 ++ Wire 7 1 ∷ []) (DomainRead 0 0x1D00) ≡ 0 ∷ 0x80 ∷ 0 ∷ 0 ∷ [])
    -- Edge0 in the second word
    × (answered (moded_to 40 5) (DomainRead 0 0x1D04) ≡ 0 ∷ 0x100 ∷ 0 ∷ 0 ∷ [])
    -- detached and inactive, with a high wire: 0
    × (answered (moded_to 7 1 ++ Wire 7 1 ∷ []) (DomainRead 0 0x1D00) ≡ 0 ∷ 0 ∷ 0 ∷ 0 ∷ [])
    × (answered (Wire 7 1 ∷ []) (DomainRead 0 0x1D00) ≡ 0 ∷ 0 ∷ 0 ∷ 0 ∷ [])
    -- delegated: 0 in the machine domain, the rectified value in the child
    × (answered (handed_on 7 7) (DomainRead 0 0x1D00) ≡ 0 ∷ 0 ∷ 0 ∷ 0 ∷ [])
    × (answered (handed_on 7 7) (DomainRead 1 0x1D00) ≡ 0 ∷ 0x80 ∷ 0 ∷ 0 ∷ [])
    -- source 0: its place holds domaincfg, here DM alone, which is 4 as Edge1 is
    × (answered (DomainWrite 0 0 4 ∷ []) (DomainRead 0 0x1D00) ≡ 0 ∷ 0 ∷ 0 ∷ 0 ∷ [])
