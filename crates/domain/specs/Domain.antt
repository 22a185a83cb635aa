-- A domain of the wired controller. 01, "The wired controller"; the standard 4.5. Assumes nothing.
--   Domain                 source: domaincfg, then sourcecfg[1] to [63]; target: genmsi, then target[1] to
--                          [63]; pending, enable: sets of sources; delivery: three numbers of each hart
--   domain_of l            the domain whose 144 words are l
--   ie_bit, dm_bit         where domaincfg has IE and DM
--   domaincfg_of d         the stored domaincfg: IE at bit 8, DM at bit 2
--   is_enabled d           IE
--   by_messages d          DM: true by messages, false direct
--   sends d                the domain sends: IE and DM
--   genmsi_of d            the stored genmsi
-- There is no source 0: place 0 of source has domaincfg, and place 0 of target genmsi, as in the region.
use Rattle.std.specs.Prelude.{ℕ, Bool, ◌&&◌, List, get_or, take, drop, set}
use Rattle.sizes.specs.Sizes.{slot_count, source_set_size, structures_size, targets_place, pendings_place}
use Rattle.sizes.specs.Sizes.{enables_place, structures_place}
use Rattle.words.specs.Bits.{has_bit}

pub record Domain : Type 0 where
  pub source : List ℕ
  pub target : List ℕ
  pub pending : List ℕ
  pub enable : List ℕ
  pub delivery : List ℕ

-- [01 B8]
unfoldable pub domain_of : List ℕ → Domain
domain_of l =
    record {
      source = take slot_count l;
      target = take slot_count (drop targets_place l);
      pending = take source_set_size (drop pendings_place l);
      enable = take source_set_size (drop enables_place l);
      delivery = take structures_size (drop structures_place l);
    }

abbrev pub ie_bit : ℕ
ie_bit = 8

abbrev pub dm_bit : ℕ
dm_bit = 2

unfoldable pub domaincfg_of : Domain → ℕ
domaincfg_of d = get_or d.source 0 0

-- [01 W8]
unfoldable pub is_enabled : Domain → Bool
is_enabled d = has_bit (domaincfg_of d) ie_bit

-- [01 W8]
unfoldable pub by_messages : Domain → Bool
by_messages d = has_bit (domaincfg_of d) dm_bit

-- [01 W46]
abbrev pub sends : Domain → Bool
sends d = is_enabled d && by_messages d

unfoldable pub genmsi_of : Domain → ℕ
genmsi_of d = get_or d.target 0 0

abbrev pub with_sources : Domain → List ℕ → Domain
with_sources d ws =
    record {
      source = ws;
      target = d.target;
      pending = d.pending;
      enable = d.enable;
      delivery =
          d.delivery;
    }

abbrev pub with_targets : Domain → List ℕ → Domain
with_targets d ws =
    record {
      source = d.source;
      target = ws;
      pending = d.pending;
      enable = d.enable;
      delivery =
          d.delivery;
    }

abbrev pub with_pendings : Domain → List ℕ → Domain
with_pendings d ws =
    record {
      source = d.source;
      target = d.target;
      pending = ws;
      enable = d.enable;
      delivery =
          d.delivery;
    }

abbrev pub with_enables : Domain → List ℕ → Domain
with_enables d ws =
    record {
      source = d.source;
      target = d.target;
      pending = d.pending;
      enable = ws;
      delivery =
          d.delivery;
    }

abbrev pub with_deliveries : Domain → List ℕ → Domain
with_deliveries d ws =
    record { source = d.source; target = d.target; pending = d.pending; enable = d.enable; delivery = ws }

unfoldable pub with_domaincfg : Domain → ℕ → Domain
with_domaincfg d v = with_sources d (set d.source 0 v)

unfoldable pub with_genmsi : Domain → ℕ → Domain
with_genmsi d v = with_targets d (set d.target 0 v)
