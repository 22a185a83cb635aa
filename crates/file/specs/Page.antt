-- A file's page. 01, "One message file"; the standard 3.5. Assumes nothing.
--   arrived n f i           f after a message with the number i: pending bit i set if 1 ≤ i ≤ n, else f
--   page_written n f a v    f after v was written at offset a: 0 takes the number, 4 with its bytes reversed
--   page_read f a           what a read at offset a gives: always 0
-- Delivery plays no part in arrival, and a write at any other offset does nothing.
use Rattle.std.specs.Prelude.{ℕ, cond, ◌&&◌, leb, eqb}
use Rattle.words.specs.Parts.{reversed}
use Rattle.words.specs.Sets.{insert}
use Rattle.file.specs.declared.File.{File}
use Rattle.file.specs.Parts.{with_pending_set}

-- [01 F1 F4 W51 T4]
unfoldable pub arrived : ℕ → File → ℕ → File
arrived n f i = cond (leb 1 i && leb i n) (with_pending_set f (insert f.pending i)) f

-- [01 C2 C23 F2 T5]
unfoldable pub page_written : ℕ → File → ℕ → ℕ → File
page_written n f a v = cond (eqb a 0) (arrived n f v) (cond (eqb a 4) (arrived n f (reversed v)) f)

-- [01 F3]
unfoldable pub page_read : File → ℕ → ℕ
page_read f a = 0
