-- Claim-179, on the settable numbers of a delivery structure as a record that is lent and changed in place,
-- by `set_idelivery`, `set_iforce` and `set_ithreshold`. 01, "Direct delivery and signals".
--   X-code.statement M           the code of X meets its contract, with resources M
--   X 𝓛 m f l (r, (v, tt))       the contract of X for a call that is lent r and given v: what it `requires`,
--                                and what it `ensures` where r is r' afterwards. What else a contract may
--                                speak of, the heap, memory, other code and lifetimes, these do not
--   Says 𝓤 asked ensured φ       what is asked is had for nothing, and φ follows from what is ensured
-- The other claims speak of a contract by its `Learnt`. A function that takes a reference to a struct has
-- none, so its contract is named itself.
-- Premises: none. No axioms.
use Rattle.std.specs.Prelude.{ℕ, ◌%◌, ◌≤◌, ◌<◌, ◌≡◌}
use seplogic.Ra.Ura.{Ura}
use base.Logic.{SProp, ent, emp}
use prog.Memory.{Memory}
use prog.Routine.{Routine}
use types.Logic.{Logic}
use contract.Lifetimes.{Lfts}
use contract.Monad.{Fun, fact}
use Rattle.std.specs.Borrow.{MutBor}
use Rattle.domain_delivery.specs.declared.Delivery.{Delivery}
use Rattle.domain_record.specs.contracts.set_idelivery.{clauses as set-idelivery}
use Rattle.domain_record.specs.contracts.set_iforce.{clauses as set-iforce}
use Rattle.domain_record.specs.contracts.set_ithreshold.{clauses as set-ithreshold}
use Rattle.domain_record.proofs.set_idelivery.Statement as set-idelivery-code
use Rattle.domain_record.proofs.set_iforce.Statement as set-iforce-code
use Rattle.domain_record.proofs.set_ithreshold.Statement as set-ithreshold-code

abbrev pub Says : {M : Type 1} (𝓤 : Ura M) → SProp 𝓤 → SProp 𝓤 → Type 0 → Type 1
Says 𝓤 asked ensured φ = ent 𝓤 (emp 𝓤) asked × ent 𝓤 ensured (fact 𝓤 φ)

-- the code of each function over a lent record meets its contract, which asks nothing of a caller and settles
-- the record: a v below 2 is the new idelivery or iforce, any other v leaves the record as it was, the new
-- ithreshold is v mod 256, and the other two numbers stay
-- [01 S5]
unfoldable pub Claim-179 : Type 2
Claim-179 =
    (M : Type 1)
    → (set-idelivery-code.statement M × set-iforce-code.statement M × set-ithreshold-code.statement M)
    × ((𝓤 : Ura M) (𝓛 : Logic 𝓤) (m : Memory → SProp 𝓤) (f : Routine → Fun 𝓤) (l : Lfts 1)
    (r r' : MutBor Delivery) (v : ℕ)
    → let d = r.now in
    let d' = r'.now in
    let first = set-idelivery 𝓛 m f l (r, (v, tt)) in
    let second = set-iforce 𝓛 m f l (r, (v, tt)) in
    let third = set-ithreshold 𝓛 m f l (r, (v, tt)) in
    Says 𝓤 (first.requires tt) (first.ensures tt tt (r', (v, tt)))
    ((v < 2 → d' ≡ record { idelivery = v; iforce = d.iforce; ithreshold = d.ithreshold })
    × (2 ≤ v → d' ≡ d))
    × Says 𝓤 (second.requires tt) (second.ensures tt tt (r', (v, tt)))
    ((v < 2 → d' ≡ record { idelivery = d.idelivery; iforce = v; ithreshold = d.ithreshold })
    × (2 ≤ v → d' ≡ d))
    × Says 𝓤 (third.requires tt) (third.ensures tt tt (r', (v, tt)))
    (d' ≡ record { idelivery = d.idelivery; iforce = d.iforce; ithreshold = v % 256 }))
