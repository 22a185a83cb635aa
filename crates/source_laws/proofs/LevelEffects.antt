-- What happens to a source keeps the rule of level sources, and a source that keeps it is settled: with
-- nothing risen, settling it again changes nothing. No contract cites this file. Assumes nothing.
use mathlib.Core.Path.{◌≡◌, refl, sym, ap}
use mathlib.Core.Bool.{Bool, true, false, cond, not, ◌&&◌, ◌||◌, or-true, or-false}
use Rattle.source_mode.specs.Mode.{is_level, is_rectified}
use Rattle.source.specs.declared.Source.{Source}
use Rattle.source.specs.Pending.{with_pending, settled, cleared}
use Rattle.source_rules.specs.SourceRules.{level_rule}

-- the rule, of a level source (l) with rectified value high and pending bit p
abbrev rule : Bool → Bool → Bool → Bool → Bool
rule l m high p = not l || ((not p || high) && (m || not high || p))

rule-settled : (l m rose high p : Bool)
    → rule l m high (cond l (cond m (high && (p || rose)) high) (p || rose)) ≡ true
rule-settled false m rose high p = refl
rule-settled true true rose true p = rw or-true
rule-settled true true rose false p = refl
rule-settled true false rose true p = refl
rule-settled true false rose false p = refl

rule-raised : (l m high p : Bool) → rule l m high p ≡ true
    → rule l m high (cond l (p || (m && high)) true) ≡ true
rule-raised false m high p e = refl
rule-raised true m high true e = e
rule-raised true true true false e = refl
rule-raised true true false false e = refl
rule-raised true false high false e = e

rule-cleared : (l m high p : Bool) → rule l m high p ≡ true → rule l m high (l && not m && p) ≡ true
rule-cleared false m high p e = refl
rule-cleared true true high p e = refl
rule-cleared true false high p e = e

-- where nothing rose the pending bit stays
settled-bit : (l m high p : Bool) → rule l m high p ≡ true
    → cond l (cond m (high && (p || false)) high) (p || false) ≡ p
settled-bit false m high p e = or-false p
settled-bit true true true p e = or-false p
settled-bit true true false true e = e
settled-bit true true false false e = refl
settled-bit true false true true e = refl
settled-bit true false true false e = sym e
settled-bit true false false true e = e
settled-bit true false false false e = refl

-- what a write of the setip family makes of an active source
abbrev pub raised : Bool → Bool → Source → Source
raised m wire s =
    with_pending s (cond (is_level s.mode) (s.pending || (m && is_rectified s.mode wire)) true)

module _ (m wire : Bool) (s : Source) where
  pub level-settled : (rose : Bool) → level_rule m wire (settled s m rose (is_rectified s.mode wire)) ≡ true
  unfolding level_rule settled
  level-settled rose = rule-settled (is_level s.mode) m rose (is_rectified s.mode wire) s.pending

  module _ (e : level_rule m wire s ≡ true) where
    pub level-raised : level_rule m wire (raised m wire s) ≡ true
    unfolding level_rule
    level-raised = rule-raised (is_level s.mode) m (is_rectified s.mode wire) s.pending e

    pub level-cleared : level_rule m wire (cleared s m) ≡ true
    unfolding level_rule cleared
    level-cleared = rule-cleared (is_level s.mode) m (is_rectified s.mode wire) s.pending e

    pub settled_same : settled s m false (is_rectified s.mode wire) ≡ s
    unfolding level_rule settled
    settled_same =
        ap (with_pending s) (settled-bit (is_level s.mode) m (is_rectified s.mode wire) s.pending e)
