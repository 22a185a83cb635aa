-- Claims 76 to 79, on the functions of the wired controller with what they send: what each leaves, which
-- messages it sends, that the log has room for them, and that the state rules hold again. That the code meets
-- the contracts that 76 speaks of is what the check of crate `wired` proves. 01, "The wired controller".
--   LeftBy o w g g' n   a function that does o leaves the controller w, makes of the log g the log g', and
--                       answers n
-- Premises: 76 has none but what the contracts let a caller learn; 77 to 79 have `Sound w`, the state rules,
-- with wires 1 to 63 and registers whose numbers are in their ranges (`Within`). No axioms.
use Rattle.std.specs.Prelude.{ℕ, ◌≤◌, ◌<◌, ◌≡◌, Bool, true, false, List, [], ◌++◌, ◌⊎◌, ◌≢◌, length, get_or}
use contract.Lifetimes.{Lfts}
use Rattle.std.specs.Borrow.{MutBor}
use Rattle.file_message.specs.Message.{file_in}
use Rattle.domain_region.specs.Region.{Within}
use Rattle.domain_region.specs.declared.Word.{Word}
use Rattle.domain_region.specs.declared.Word.TheVariants.{Genmsi}
use Rattle.wired_state.specs.Wires.{Wired, wired_of, domain_in, wire_set}
use Rattle.wired_registers.specs.Wired.{read_in, claimed_in, written_in}
use Rattle.wired_rules.specs.Rules.{wired_sound}
use Rattle.domain_sending.specs.Sending.{sent, logged}
use Rattle.domain_genmsi.specs.Genmsi.{genmsi_sent}
use Rattle.wired.specs.Controller.{Out, wire_call, read_call, write_call}
use Rattle.wired.proofs.set_wire.Reads as set-wire
use Rattle.wired.proofs.read.Reads as read
use Rattle.wired.proofs.write.Reads as write
use Rattle.claims_registers.specs.Rules.{Sound}

-- the messages stand first in the log, and their number is answered
abbrev pub LeftBy : Out → Wired → List ℕ → List ℕ → ℕ → Type 0
LeftBy o w g g' n = (w ≡ o.wired) × (g' ≡ logged g o.messages) × (n ≡ length o.messages)

-- what each function of the wired controller answers, and leaves of its words and of the log
unfoldable pub Claim-76 : Type 0
Claim-76 =
    ((l : Lfts 2) (b b' g g' : MutBor (List ℕ)) (i n : ℕ) (level : Bool)
    → set-wire.Learnt l (b, (g, (i, (level, tt)))) n (b', (g', (i, (level, tt))))
    → LeftBy (wire_call (wired_of b.now) i level) (wired_of b'.now) g.now g'.now n)
    × ((l : Lfts 1) (b b' : MutBor (List ℕ)) (c : Bool) (r : Word) (v : ℕ)
    → read.Learnt l (b, (c, (r, tt))) v (b', (c, (r, tt)))
    → (v ≡ read_in (wired_of b.now) c r) × (wired_of b'.now ≡ (read_call (wired_of b.now) c r).wired))
    × ((l : Lfts 2) (b b' g g' : MutBor (List ℕ)) (c : Bool) (r : Word) (v n : ℕ)
    → write.Learnt l (b, (g, (c, (r, (v, tt))))) n (b', (g', (c, (r, (v, tt)))))
    → LeftBy (write_call (wired_of b.now) c r v) (wired_of b'.now) g.now g'.now n)

-- what a controller after a change sends: the machine domain's messages first
abbrev pub Sends : Wired → Out → Type 0
Sends w o =
    (o.messages ≡ (sent false w.machine).messages ++ (sent true w.child).messages)
    × (o.wired
    ≡ record {
      wires = w.wires;
      machine = (sent false w.machine).domain;
      child = (sent true w.child).domain;
    })

-- one of the two domains has nothing to send
abbrev pub OneAtMost : Wired → Type 0
OneAtMost w = ((sent false w.machine).messages ≡ []) ⊎ ((sent true w.child).messages ≡ [])

-- the messages of a call: those of the change, machine domain first, of which one domain at most sends; a
-- read sends nothing; the message of a genmsi is the only one of its call
-- [01 W43 W45 X10]
unfoldable pub Claim-77 : Type 0
Claim-77 =
    (w : Wired) → Sound w
    → ((i : ℕ) → 1 ≤ i → i ≤ 63 → (level : Bool)
    → Sends (wire_set w i level) (wire_call w i level)
    × OneAtMost (wire_set w i level))
    × ((c : Bool) (r : Word) → read_call w c r ≡ record { wired = claimed_in w c r; messages = [] })
    × ((c : Bool) (r : Word) → Within r → (v : ℕ) → r ≢ Genmsi
    → Sends (written_in w c r v) (write_call w c r v) × OneAtMost (written_in w c r v))
    × ((c : Bool) (v : ℕ)
    → write_call w c Genmsi v
    ≡ record { wired = written_in w c Genmsi v; messages = genmsi_sent c (domain_in w c) v })

-- 63 log words suffice for every call, and every message names a file that there is
unfoldable pub Claim-78 : Type 0
Claim-78 =
    (w : Wired) → Sound w
    → ((i : ℕ) → 1 ≤ i → i ≤ 63 → (level : Bool) → let ms = (wire_call w i level).messages in
    (length ms ≤ 63) × ((k : ℕ) → k < length ms → file_in (get_or ms k 0) < 5))
    × ((c : Bool) (r : Word) → Within r → (v : ℕ) → let ms = (write_call w c r v).messages in
    (length ms ≤ 63) × ((k : ℕ) → k < length ms → file_in (get_or ms k 0) < 5))

-- the state rules hold after every call
unfoldable pub Claim-79 : Type 0
Claim-79 =
    (w : Wired) → Sound w
    → ((i : ℕ) → 1 ≤ i → i ≤ 63 → (level : Bool) → wired_sound (wire_call w i level).wired ≡ true)
    × ((c : Bool) (r : Word) → wired_sound (read_call w c r).wired ≡ true)
    × ((c : Bool) (r : Word) → Within r → (v : ℕ) → wired_sound (write_call w c r v).wired ≡ true)
