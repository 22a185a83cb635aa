-- What happens to a source, its pending bit above all. 01, "The wired controller"; the standard 4.5.2, 4.7.
-- Assumes nothing.
--   settled s m rose high     s after its rectified value rose, or did not, and now is high, or is not
--   other_pending s rose       the pending bit of s then, if it is no level source
--   direct_pending high        of a level source in direct mode
--   messages_pending s rose high    of a level source by messages
--   wire_changed s m was is    s after its wire went from was to is
--   pended s m wire           s after a write of the setip family
--   cleared s m               s after a write of the in_clrip family, or a claim
--   switched s on             s after a write of the setie (on) or clrie family
--   changed s c m wire        the same four by their family: setip, in_clrip, setie, clrie
--   moded s m mode wire       s after its sourcecfg word became mode
--   redelivered s m wire      s after the domain's delivery mode became m
--   retargeted s c m v        s after v was written to its target, in the child domain (c) or the machine's
--   candidate s               s is to be sent, where its domain sends: active, pending and enabled
-- m is the delivery mode: true for messages, false for direct.
use Rattle.std.specs.Prelude.{ℕ, Bool, true, false, cond, not, ◌&&◌, ◌||◌}
use Rattle.source.specs.declared.Source.{Source}
use Rattle.source.specs.declared.Change.{Change}
use Rattle.source.specs.declared.Change.TheVariants.{Pend, Clear, Enable, Disable}
use Rattle.source_mode.specs.Mode.{is_active, is_level, is_rectified}
use Rattle.source_target.specs.Target.{start_target, kept_target}

abbrev pub with_pending : Source → Bool → Source
with_pending s p = record { mode = s.mode; target = s.target; pending = p; enabled = s.enabled }

abbrev pub with_enabled : Source → Bool → Source
with_enabled s e = record { mode = s.mode; target = s.target; pending = s.pending; enabled = e }

abbrev pub with_target : Source → ℕ → Source
with_target s t = record { mode = s.mode; target = t; pending = s.pending; enabled = s.enabled }

abbrev pub with_mode : Source → ℕ → Source
with_mode s m = record { mode = m; target = s.target; pending = s.pending; enabled = s.enabled }

-- a source that is not active in the domain: pending, enable and target are 0
-- [01 W22]
abbrev pub inactive : ℕ → Source
inactive m = record { mode = m; target = 0; pending = false; enabled = false }

-- a source that becomes active: enable is 0, the target has its start value
-- [01 W23]
abbrev pub fresh : Bool → ℕ → Source
fresh m mode = record { mode = mode; target = start_target m; pending = false; enabled = false }

-- ---- the pending bit by the rectified value

-- a source that is no level source: a rise sets it, else it stays (4.7); a detached source has no rise
abbrev pub other_pending : Source → Bool → Bool
other_pending s rose = s.pending || rose

-- a level source in direct mode: a copy of the rectified value (4.7)
abbrev pub direct_pending : Bool → Bool
direct_pending high = high

-- a level source by messages: a rise sets it, and it is cleared whenever the rectified value is low (4.7)
-- [01 M5]
abbrev pub messages_pending : Source → Bool → Bool → Bool
messages_pending s rose high = high && (s.pending || rose)

abbrev pub level_pending : Source → Bool → Bool → Bool → Bool
level_pending s m rose high = cond m (messages_pending s rose high) (direct_pending high)

-- [01 W28]
unfoldable pub settled : Source → Bool → Bool → Bool → Source
settled s m rose high =
    with_pending s (cond (is_level s.mode) (level_pending s m rose high) (other_pending s rose))

-- ---- what happens to the source

-- [01 W28]
unfoldable pub wire_changed : Source → Bool → Bool → Bool → Source
wire_changed s m was is =
    settled s m (not (is_rectified s.mode was) && is_rectified s.mode is) (is_rectified s.mode is)

-- a level source: not in direct mode, and by messages only while it is high
unfoldable pub pended : Source → Bool → Bool → Source
pended s m wire =
    cond (is_active s.mode)
    (with_pending s (cond (is_level s.mode) (s.pending || (m && is_rectified s.mode wire)) true)) s

-- a level source: not in direct mode
-- [01 M2]
unfoldable pub cleared : Source → Bool → Source
cleared s m = with_pending s (is_level s.mode && not m && s.pending)

unfoldable pub switched : Source → Bool → Source
switched s on = cond (is_active s.mode) (with_enabled s on) s

unfoldable pub changed : Source → Change → Bool → Bool → Source
changed s Pend m wire = pended s m wire
changed s Clear m wire = cleared s m
changed s Enable m wire = switched s true
changed s Disable m wire = switched s false

-- [01 W24 W27]
unfoldable pub moded : Source → Bool → ℕ → Bool → Source
moded s m mode wire =
    cond (is_active mode)
    (settled (cond (is_active s.mode) (with_mode s mode) (fresh m mode)) m
    (not (is_rectified s.mode wire) && is_rectified mode wire) (is_rectified mode wire))
    (inactive mode)

-- [01 W11]
unfoldable pub redelivered : Source → Bool → Bool → Source
redelivered s m wire =
    cond (is_active s.mode) (settled (with_target s (start_target m)) m false (is_rectified s.mode wire)) s

unfoldable pub retargeted : Source → Bool → Bool → ℕ → Source
retargeted s c m v = cond (is_active s.mode) (with_target s (kept_target c m v)) s

-- [01 W47]
unfoldable pub candidate : Source → Bool
candidate s = is_active s.mode && s.pending && s.enabled
