-- Claims 204 and 205, on a read of in_clrip by a whole call: what it answers and leaves, and when it is
-- refused. 02, M-101.
--   in_clrip d k      the call that reads word k of in_clrip in domain d: 0 is the machine domain, 1 the
--                     child
--   setip d k         the call that reads word k of setip there
-- Premises: 204 has a block of 650 words that keep the state rules, a log of 63, and a domain and a word that
-- are there; 205 has none but that of each line, and a word that is there. No axioms.
use Rattle.std.specs.Prelude.{ℕ, ◌+◌, ◌*◌, ◌/◌, ◌%◌, ◌^◌, ◌≤◌, ◌<◌, ◌≡◌, true, false, List, ◌≢◌, ◌⊎◌, eqb}
use Rattle.std.specs.Prelude.{length}
use Rattle.domain.specs.Domain.{by_messages}
use Rattle.domain.specs.Slot.{source_at}
use Rattle.wired_state.specs.Wires.{domain_in}
use Rattle.board_block.specs.Block.{board_of, board_sound}
use Rattle.board_call.specs.declared.Call.{Call}
use Rattle.board_call.specs.declared.Call.TheVariants.{DomainRead}
use Rattle.board_call.specs.Outcome.{outcome}
use Rattle.claims_registers.specs.Registers.{InputRead}

abbrev pub in_clrip : ℕ → ℕ → Call
in_clrip d k = DomainRead d (0x1D00 + 4 * k)

abbrev pub setip : ℕ → ℕ → Call
setip d k = DomainRead d (0x1C00 + 4 * k)

-- an accepted read of in_clrip answers 0, a word of rectified values by the modes of the domain that is read,
-- and no message, and leaves everything; of a level source with direct delivery its bit is the one that a
-- read of setip answers
-- [02 M101.3]
unfoldable pub Claim-204 : Type 0
Claim-204 =
    (l g s : List ℕ) → length l ≡ 650 → length g ≡ 63 → board_sound (board_of l) ≡ true
    → (d k : ℕ) → d < 2 → k < 2
    → let o = outcome (in_clrip d k) l g s in
    let w = (board_of l).wired in
    let here = domain_in w (eqb d 1) in
    (o.number ≡ 0) × (o.value < 2 ^ 32) × (o.count ≡ 0) × (o.block ≡ l) × (o.log ≡ g) × (o.saved ≡ s)
    × ((n : ℕ) → n < 32
    → InputRead o.value n (32 * k + n) here w.wires
    × (1 ≤ 32 * k + n → by_messages here ≡ false
    → ((source_at here (32 * k + n)).mode ≡ 6) ⊎ ((source_at here (32 * k + n)).mode ≡ 7)
    → o.value / 2 ^ n % 2 ≡ (outcome (setip d k) l g s).value / 2 ^ n % 2))

-- a read of in_clrip is refused for a block or a log of another length, for a block that breaks the rules and
-- for a domain that is none, in this order, and for nothing else
-- [02 M101.5]
unfoldable pub Claim-205 : Type 0
Claim-205 =
    (l g s : List ℕ) (d k : ℕ) → k < 2
    → let number = (outcome (in_clrip d k) l g s).number in
    (length l ≢ 650 → number ≡ 1) × (length l ≡ 650 → length g ≢ 63 → number ≡ 2)
    × (length l ≡ 650 → length g ≡ 63
    → (board_sound (board_of l) ≡ false → number ≡ 3)
    × (board_sound (board_of l) ≡ true → (2 ≤ d → number ≡ 4) × (d < 2 → number ≡ 0)))
