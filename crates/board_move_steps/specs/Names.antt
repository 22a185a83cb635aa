-- The file that a target of the child domain names, and the target with another file. 01, "The wired
-- controller", "The move, with its premises"; the standard 4.5.16, 4.9.1. Assumes nothing.
--   names_file t h f    the target t names file f of hart h
--   renamed t h f       t with file f of hart h in the place of its own, the same identity
-- The child sends to file 1 + guest index, so its targets name files 1 to 4.
use Rattle.std.specs.Prelude.{ℕ, ◌+◌, ◌-◌, Bool, ◌&&◌, eqb}
use Rattle.source_target.specs.Target.{hart_at, guest_at}
use Rattle.words.specs.Parts.{packed}
use Rattle.source_target.specs.Target.{hart_of, guest_of, number_of}

-- [01 V17]
unfoldable pub names_file : ℕ → ℕ → ℕ → Bool
names_file t h f = eqb (hart_of t) h && eqb (guest_of t + 1) f

-- [01 V17]
unfoldable pub renamed : ℕ → ℕ → ℕ → ℕ
renamed t h f = packed h hart_at (packed (f - 1) guest_at (number_of t))
