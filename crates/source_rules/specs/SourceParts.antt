-- The state rules of one source parted by what decides them: its sourcecfg and target words, and its bits.
-- The two parts together are the rule of a source (source_laws); no claim cites this file. Assumes nothing.
--   held_back c w                 sourcecfg word w of the machine domain delegates its source
--   occupied c w                  w is neither 0 nor such a word: its source is active, or w is out of range
--   straight_word w               w is Level1, whose rectified value is the wire
--   inverted_word w               w is Level0, whose rectified value is its opposite
--   slot_sound c m w t            the words w and t of a source are in their ranges; t is 0 where w is not
--                                 occupied
--   bits_sound c m sends wire s   the bits of s are as its sourcecfg word, its wire and the domain allow
-- c says that the domain is the child, m is the delivery mode, true for messages.
use Rattle.std.specs.Prelude.{ℕ, Bool, cond, not, ◌&&◌, ◌||◌, eqb}
use Rattle.source_mode.specs.Mode.{delegated_word, level1, level0, kept_mode}
use Rattle.source_target.specs.Target.{kept_target}
use Rattle.source.specs.declared.Source.{Source}
use Rattle.source_rules.specs.SourceRules.{level_rule}

unfoldable pub held_back : Bool → ℕ → Bool
held_back c w = not c && eqb w delegated_word

unfoldable pub occupied : Bool → ℕ → Bool
occupied c w = not (eqb w 0) && not (held_back c w)

unfoldable pub slot_sound : Bool → Bool → ℕ → ℕ → Bool
slot_sound c m w t = cond (occupied c w) (eqb w (kept_mode w) && eqb t (kept_target c m t)) (eqb t 0)

unfoldable pub bits_sound : Bool → Bool → Bool → Bool → Source → Bool
bits_sound c m sends wire s =
    (occupied c s.mode || (not s.pending && not s.enabled))
    && not (sends && s.pending && s.enabled) && level_rule m wire s

unfoldable pub straight_word : ℕ → Bool
straight_word w = eqb w level1

unfoldable pub inverted_word : ℕ → Bool
inverted_word w = eqb w level0
