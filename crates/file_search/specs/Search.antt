-- The lowest identity that is both pending and enabled, before any threshold. 01, "One message file"; the
-- standard 3.9. Assumes nothing.
--   lowest p i k           the least of the k numbers from i on at which p holds, or 0
--   lowest_shared ps es    the lowest identity, from 1 on, that is in both sets, or 0
--   first_bit w k n        the lowest of the n bits of w from bit k on that is 1, or k + n
-- Number 0 has a bit in every set and is no identity: it is never the one that is shared.
use Rattle.std.specs.Prelude.{ℕ, zero, suc, Bool, cond, ◌&&◌, List}
use Rattle.sizes.specs.Sizes.{identities}
use Rattle.words.specs.Bits.{has_bit}
use Rattle.words.specs.Sets.{member}

-- [01 X11]
unfoldable pub lowest : (ℕ → Bool) → ℕ → ℕ → ℕ
lowest p i zero = 0
lowest p i (suc k) = let rest = lowest p (suc i) k in cond (p i) i rest

unfoldable pub lowest_shared : List ℕ → List ℕ → ℕ
lowest_shared ps es = lowest (λ i. member ps i && member es i) 1 identities

unfoldable pub first_bit : ℕ → ℕ → ℕ → ℕ
first_bit w k zero = k
first_bit w k (suc n) = cond (has_bit w k) k (first_bit w (suc k) n)
