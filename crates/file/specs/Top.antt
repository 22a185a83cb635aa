-- A file's top interrupt and what depends on it. 01, "One message file"; the standard 3.9, 3.10. Assumes
-- nothing.
--   passes t i         threshold t lets identity i through: Rattle.words
--   qualifies f i      i is pending and enabled, and the threshold lets it through
--   lowest p i k       the least of the k numbers from i on at which p holds, or 0: Rattle.file_search
--   top_identity n f   the lowest identity of 1 to n that qualifies, or 0
--   top_of n f         the same twice, as identity × 65536 + identity
--   claimed n f        f after a claim: the top's pending bit cleared; with no top, f
--   signals n f        f signals by itself: delivery is 1 and the top is not 0
use Rattle.std.specs.Prelude.{ℕ, ◌+◌, ◌*◌, Bool, cond, not, ◌&&◌, eqb}
use Rattle.words.specs.Sets.{member, remove}
use Rattle.file.specs.declared.File.{File}
use Rattle.file.specs.Parts.{with_pending_set}
unfoldable pub use Rattle.words.specs.Threshold.{passes}
unfoldable pub use Rattle.file_search.specs.Search.{lowest}

-- [01 F16 F17]
unfoldable pub qualifies : File → ℕ → Bool
qualifies f i = member f.pending i && member f.enable i && passes f.threshold i

-- [01 F16 T1]
unfoldable pub top_identity : ℕ → File → ℕ
top_identity n f = lowest (qualifies f) 1 n

-- [01 F18 F19]
unfoldable pub top_of : ℕ → File → ℕ
top_of n f = top_identity n f * 65536 + top_identity n f

-- [01 F20 F21]
unfoldable pub claimed : ℕ → File → File
claimed n f = cond (eqb (top_identity n f) 0) f (with_pending_set f (remove f.pending (top_identity n f)))

-- [01 S16]
unfoldable pub signals : ℕ → File → Bool
signals n f = eqb f.delivery 1 && not (eqb (top_of n f) 0)
