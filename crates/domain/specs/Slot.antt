-- One source of a domain, and the domain with that source replaced. 01, "The wired controller". Assumes
-- nothing.
--   source_at d i        source i: its sourcecfg and target words, its pending and enable bits
--   with_source d i s    d with source i as s
--   standing d i         source i is pending and enabled
use Rattle.std.specs.Prelude.{ℕ, Bool, ◌&&◌, get_or, set}
use Rattle.words.specs.Sets.{member, put}
use Rattle.source.specs.declared.Source.{Source}
use Rattle.domain.specs.Domain.{Domain}

unfoldable pub source_at : Domain → ℕ → Source
source_at d i =
    record {
      mode = get_or d.source i 0;
      target = get_or d.target i 0;
      pending = member d.pending i;
      enabled = member d.enable i;
    }

unfoldable pub with_source : Domain → ℕ → Source → Domain
with_source d i s =
    record {
      source = set d.source i s.mode;
      target = set d.target i s.target;
      pending = put d.pending i s.pending;
      enable = put d.enable i s.enabled;
      delivery = d.delivery;
    }

unfoldable pub standing : Domain → ℕ → Bool
standing d i = (source_at d i).pending && (source_at d i).enabled
