-- Claims 50 to 54 and 147, on what a domain sends: which messages, in which order, and what is left. 01,
-- "The wired controller": where DM and IE are both 1, a message goes out for every active source that has its
-- pending and its enable bit up, by ascending number, and the pending bit falls. c says that the domain is
-- the child.
-- Premises: none but IE and DM, as each line says. No axioms.
use Rattle.std.specs.Prelude.{ℕ, ◌+◌, ◌*◌, ◌/◌, ◌%◌, ◌≤◌, ◌<◌, ◌≡◌, Bool, true, false, cond, not, ◌&&◌, List}
use Rattle.std.specs.Prelude.{[], ◌∷◌, map, ◌↔◌, eqb, length, get_or}
use Rattle.words.specs.Sets.{member}
use Rattle.source_mode.specs.Mode.{is_active}
use Rattle.source_target.specs.Target.{hart_of, number_of, message_of}
use Rattle.source.specs.declared.Source.{Source}
use Rattle.domain.specs.Domain.{Domain, is_enabled, by_messages}
use Rattle.domain.specs.Slot.{source_at}
use Rattle.domain_sending.specs.Sending.{candidate, sent}
use Rattle.domain_genmsi.specs.Genmsi.{genmsi_sent}
use Rattle.files_laws.specs.Messages.{any_of}
use Rattle.domain_sending_laws.specs.Candidates.{candidates}

-- a domain sends the messages of its active, pending and enabled sources, ascending, and none if IE and DM
-- are not both 1. The message of a source is that of its own target, as Claim-146 has it in numbers; and that
-- the sources ascend, Claim-147 says
-- [01 W46 W47]
unfoldable pub Claim-50 : Type 0
Claim-50 =
    (c : Bool) (d : Domain)
    → ((is_enabled d && by_messages d) ≡ true
    → (sent c d).messages ≡ map (λ i. message_of c (source_at d i).target) (candidates d))
    × ((is_enabled d && by_messages d) ≡ false → ((sent c d).messages ≡ []) × ((sent c d).domain ≡ d))

-- the sources that a domain sends are in ascending order, and exactly those of 1 to 63 that are active,
-- pending and enabled. `candidate` says of one source that it is all three, and `any_of` of a list that a
-- test
-- holds somewhere in it
-- [01 W47]
unfoldable pub Claim-147 : Type 0
Claim-147 =
    ((d : Domain) → let cs = candidates d in
    ((k : ℕ) → k + 1 < length cs → get_or cs k 0 < get_or cs (k + 1) 0)
    × ((i : ℕ) → (any_of (eqb i) cs ≡ true)
    ↔ ((1 ≤ i) × (i ≤ 63) × (is_active (source_at d i).mode ≡ true) × ((source_at d i).pending ≡ true)
    × ((source_at d i).enabled ≡ true))))
    × ((s : Source) → (candidate s ≡ true)
    ↔ ((is_active s.mode ≡ true) × (s.pending ≡ true) × (s.enabled ≡ true)))
    × ((test : ℕ → Bool) (ms : List ℕ) → (any_of test ms ≡ true)
    ↔ ((k : ℕ) × (k < length ms) × (test (get_or ms k 0) ≡ true)))

-- after the pass of messages no source of a domain that sends is left to be sent
-- [01 R8]
unfoldable pub Claim-51 : Type 0
Claim-51 =
    (c : Bool) (d : Domain) → (is_enabled d && by_messages d) ≡ true
    → (i : ℕ) → 1 ≤ i → i < 64 → candidate (source_at (sent c d).domain i) ≡ false

-- 63 log words always suffice, and each message names a file that there is: 0 from the machine domain, 1 to 4
-- from the child
-- [01 W35]
unfoldable pub Claim-52 : Type 0
Claim-52 =
    (c : Bool) (d : Domain) → let ms = (sent c d).messages in
    (length ms ≤ 63)
    × ((k : ℕ) → k < length ms → let file = get_or ms k 0 / 256 % 8 in
    (c ≡ false → file ≡ 0) × (c ≡ true → (1 ≤ file) × (file ≤ 4)))

-- sending clears the pending bits of what was sent, and changes nothing else
-- [01 W48]
unfoldable pub Claim-53 : Type 0
Claim-53 =
    (c : Bool) (d : Domain) → let d' = (sent c d).domain in
    (d'.source ≡ d.source) × (d'.target ≡ d.target) × (d'.enable ≡ d.enable)
    × (d'.delivery ≡ d.delivery)
    × ((is_enabled d && by_messages d) ≡ true → (i : ℕ) → 1 ≤ i → i ≤ 63
    → member d'.pending i ≡ (member d.pending i && not (candidate (source_at d i))))

-- a write to genmsi sends one message by messages, whatever IE is, to the machine or the supervisor file of a
-- hart, and none in direct mode
-- [01 W43]
unfoldable pub Claim-54 : Type 0
Claim-54 =
    (c : Bool) (d : Domain) (v : ℕ)
    → (by_messages d ≡ true → genmsi_sent c d v ≡ (hart_of v * 2048 + cond c 1 0 * 256 + number_of v) ∷ [])
    × (by_messages d ≡ false → genmsi_sent c d v ≡ [])
