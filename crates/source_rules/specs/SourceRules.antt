-- The state rules of one source of a domain, one definition each. 01, "State rules". Assumes nothing.
--   mode_range c s               the sourcecfg word is one that a write stores, where the domain has the
--                                source
--   target_range c m s           an active source's target is one that a write stores
--   inactive_rule s              an inactive source has zeros: target, pending and enable
--   level_rule m wire s          a level source whose rectified value is low is not pending; in direct mode,
--                                one whose value is high is
--   source_steady c m wire s     these four: they hold also in the middle of a call, before anything is sent
--   sent_rule sends s            where the domain sends, s is not to be sent: it is no candidate
--   source_sound c m sends wire s all of these
-- c says that the domain is the child, m is the delivery mode, true for messages; sends says that it has IE
-- and DM. That a stored number is in its range is said so: to write it would store it as it is.
use Rattle.std.specs.Prelude.{Bool, true, not, ◌&&◌, ◌||◌, eqb}
use Rattle.source_mode.specs.Mode.{is_active, is_level, is_rectified, source_word}
use Rattle.source_target.specs.Target.{kept_target}
use Rattle.source.specs.declared.Source.{Source}
use Rattle.source.specs.Pending.{candidate}

unfoldable pub mode_range : Bool → Source → Bool
mode_range c s = eqb s.mode (source_word c true s.mode)

-- [01 R1]
unfoldable pub target_range : Bool → Bool → Source → Bool
target_range c m s = not (is_active s.mode) || eqb s.target (kept_target c m s.target)

-- [01 R3]
unfoldable pub inactive_rule : Source → Bool
inactive_rule s = is_active s.mode || (eqb s.target 0 && not s.pending && not s.enabled)

-- [01 R5 R6]
unfoldable pub level_rule : Bool → Bool → Source → Bool
level_rule m wire s =
    let high = is_rectified s.mode wire in
    not (is_level s.mode) || ((not s.pending || high) && (m || not high || s.pending))

unfoldable pub source_steady : Bool → Bool → Bool → Source → Bool
source_steady c m wire s = mode_range c s && target_range c m s && inactive_rule s && level_rule m wire s

-- [01 R8]
unfoldable pub sent_rule : Bool → Source → Bool
sent_rule sends s = not (sends && candidate s)

unfoldable pub source_sound : Bool → Bool → Bool → Bool → Source → Bool
source_sound c m sends wire s = source_steady c m wire s && sent_rule sends s
