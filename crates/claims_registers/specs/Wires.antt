-- Claim-141, on a wire that is set, before anything is sent: that wire has the level, and no other wire and
-- no source but its own changes. What becomes of that source is in claims 40 and 59. 01, "The wired
-- controller".
--   SourceAlone i d d'    d' is d but for source i
-- Premises: `Long w`, the lists of w have their lengths, as those of 290 words have. No axioms.
use Rattle.std.specs.Prelude.{ℕ, ◌≤◌, ◌≡◌, Bool, ◌≢◌}
use Rattle.words.specs.Sets.{member}
use Rattle.wired_state.specs.Wires.{Wired, wire_set}
use Rattle.claims_registers.specs.Rules.{Long}
use Rattle.claims_registers.specs.Sourcecfg.{SourceAlone}

-- a wire that is set has its level, and no other wire and no source but its own changes
unfoldable pub Claim-141 : Type 0
Claim-141 =
    (w : Wired) → Long w → (i : ℕ) → 1 ≤ i → i ≤ 63 → (level : Bool)
    → let after = wire_set w i level in
    (member after.wires i ≡ level)
    × ((j : ℕ) → j ≢ i → member after.wires j ≡ member w.wires j)
    × SourceAlone i w.machine after.machine × SourceAlone i w.child after.child
