-- Several sources of a domain replaced, one after the other. Assumes nothing.
--   with_each f d i n    d with each source j of the n from i on as f j makes it
--   among i n j          j is one of the n numbers from i on
use Rattle.std.specs.Prelude.{ℕ, zero, suc, ◌+◌, Bool, ◌&&◌, leb, ltb}
use Rattle.source.specs.declared.Source.{Source}
use Rattle.domain.specs.Domain.{Domain}
use Rattle.domain.specs.Slot.{source_at, with_source}

unfoldable pub with_each : (ℕ → Source → Source) → Domain → ℕ → ℕ → Domain
with_each f d i zero = d
with_each f d i (suc n) = with_each f (with_source d i (f i (source_at d i))) (suc i) n

unfoldable pub among : ℕ → ℕ → ℕ → Bool
among i n j = leb i j && ltb j (i + n)
