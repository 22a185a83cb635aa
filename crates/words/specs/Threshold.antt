-- The test of a threshold. 01, "One message file", "Direct delivery and signals"; the standard 3.8, 4.8.1.3.
-- Assumes nothing.
--   passes t i    threshold t lets number i through: t is 0, or i is below t
-- The number is an identity of a file or a priority of a domain. A threshold P shuts out P itself.
use Rattle.std.specs.Prelude.{ℕ, Bool, ◌||◌, eqb, ltb}

-- [01 F17 M1 T2 T3]
unfoldable pub passes : ℕ → ℕ → Bool
passes t i = eqb t 0 || ltb i t
