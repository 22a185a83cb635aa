-- What a domain is after a change that treats each source by itself. Assumes nothing.
--   Became d d' w g f    d' has the lengths, domaincfg w and genmsi g, each source j of 1 to 63 as f j makes
--                        it from that of d, and the rest as d has it: the delivery structures, and number 0,
--                        which is no source, in the sets or not
--   Touched d d' f       the same where domaincfg and genmsi stay
use Rattle.std.specs.Prelude.{ℕ, ◌≤◌, ◌<◌, ◌≡◌}
use Rattle.sizes.specs.Sizes.{slot_count}
use Rattle.words.specs.Sets.{member}
use Rattle.source.specs.declared.Source.{Source}
use Rattle.domain.specs.Domain.{Domain, domaincfg_of, genmsi_of}
use Rattle.domain.specs.Slot.{source_at}
use Rattle.domain.specs.Structure.{structure_at}
use Rattle.domain_laws.specs.Shape.{DomainShaped}

pub record Became (d d' : Domain) (w g : ℕ) (f : ℕ → Source → Source) : Type 0 where
  pub shaped : DomainShaped d'
  pub domaincfg : domaincfg_of d' ≡ w
  pub genmsi : genmsi_of d' ≡ g
  pub source : (j : ℕ) → 1 ≤ j → j < slot_count → source_at d' j ≡ f j (source_at d j)
  pub structure : (h : ℕ) → structure_at d' h ≡ structure_at d h
  pub pending-zero : member d'.pending 0 ≡ member d.pending 0
  pub enable-zero : member d'.enable 0 ≡ member d.enable 0

abbrev pub Touched : (d d' : Domain) → (ℕ → Source → Source) → Type 0
Touched d d' f = Became d d' (domaincfg_of d) (genmsi_of d) f
