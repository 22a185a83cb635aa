-- Claims 40 to 42: the table of causes holds, computed row by row; it is whole; and it is about every source.
-- Assumes nothing.
use mathlib.Core.Path.{refl}
use Rattle.source_mode.specs.Mode.{is_active, is_level, is_rectified}
use Rattle.words.proofs.TestsLaws.{tested}
use Rattle.source.specs.Pending.{settled, wire_changed, pended, cleared}
use Rattle.claims_domain.specs.Causes.{happens, bit_after, table, every, source_of, row_holds, Claim-40}
use Rattle.claims_domain.specs.Causes.{same_cause, count, rows_of, Claim-41, Claim-42}
use Rattle.claims_domain.specs.Causes.Cause.{wire, setip, clrip, claim, sent}

pub claim-40 : Claim-40
unfolding Claim-40 every row_holds table happens bit_after source_of wire_changed pended cleared settled
    is_active is_level is_rectified
claim-40 = refl

pub claim-41 : Claim-41
unfolding Claim-41 every rows_of count table same_cause
claim-41 = refl

pub claim-42 : Claim-42
unfolding Claim-42 happens source_of wire_changed pended cleared settled
claim-42 s m (wire was is) = refl
claim-42 s m (setip level) = tested (is_active s.mode) (λ t. simp t) (λ u. simp u)
claim-42 s m clrip = refl
claim-42 s m claim = refl
claim-42 s m sent = refl
