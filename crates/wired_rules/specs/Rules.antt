-- The state rules of the wired controller, one definition each; those of one source are in SourceRules. 01,
-- "State rules". Assumes nothing.
--   domaincfg_range d        the stored domaincfg has no bits but IE and DM
--   genmsi_range d           the stored genmsi has no bits but a hart and an identity
--   structure_range d h      the numbers of the delivery structure of hart h lie in their ranges
--   source_zero_rule ws      there is no number 0 in the set ws: no wire and no source has it
--   genmsi_rule d            genmsi is 0 in direct mode
--   source_rule c ws d i     source i keeps the rules of a source; ws are the wires
--   domain_sound c ws d      all of these, for a domain
--   delegated_rule w i       the child's sourcecfg is 0 where source i is not delegated
--   wired_sound w            every rule of the wired controller
-- c says that the domain is the child. Sources and wires are 1 to 63, harts 0 to 3.
use Rattle.std.specs.Prelude.{ℕ, Bool, true, false, not, ◌&&◌, ◌||◌, List, eqb}
use Rattle.sizes.specs.Sizes.{hart_count, source_count}
use Rattle.words.specs.Sets.{member}
use Rattle.domain_genmsi.specs.Genmsi.{kept_genmsi}
use Rattle.domain_delivery.specs.Delivery.{delivery_sound}
use Rattle.domain.specs.Domain.{Domain, domaincfg_of, by_messages, sends, genmsi_of}
use Rattle.domain.specs.Slot.{source_at}
use Rattle.domain.specs.Structure.{structure_at}
use Rattle.domain_domaincfg.specs.Domaincfg.{kept_domaincfg}
use Rattle.wired_state.specs.Wires.{Wired, is_delegated}
use Rattle.source_rules.specs.SourceRules.{source_sound}
use Rattle.words.specs.Every.{every}

unfoldable pub domaincfg_range : Domain → Bool
domaincfg_range d = eqb (domaincfg_of d) (kept_domaincfg (domaincfg_of d))

unfoldable pub genmsi_range : Domain → Bool
genmsi_range d = eqb (genmsi_of d) (kept_genmsi (genmsi_of d))

unfoldable pub structure_range : Domain → ℕ → Bool
structure_range d h = delivery_sound (structure_at d h)

unfoldable pub source_zero_rule : List ℕ → Bool
source_zero_rule ws = not (member ws 0)

-- [01 R7]
unfoldable pub genmsi_rule : Domain → Bool
genmsi_rule d = by_messages d || eqb (genmsi_of d) 0

unfoldable pub source_rule : Bool → List ℕ → Domain → ℕ → Bool
source_rule c ws d i = source_sound c (by_messages d) (sends d) (member ws i) (source_at d i)

unfoldable pub domain_sound : Bool → List ℕ → Domain → Bool
domain_sound c ws d =
    domaincfg_range d && genmsi_range d && genmsi_rule d && source_zero_rule d.pending
    && source_zero_rule d.enable
    && every (structure_range d) 0 hart_count && every (source_rule c ws d) 1 source_count

-- [01 R4]
unfoldable pub delegated_rule : Wired → ℕ → Bool
delegated_rule w i = is_delegated w i || eqb (source_at w.child i).mode 0

unfoldable pub wired_sound : Wired → Bool
wired_sound w =
    source_zero_rule w.wires && domain_sound false w.wires w.machine
    && domain_sound true w.wires w.child
    && every (delegated_rule w) 1 source_count
