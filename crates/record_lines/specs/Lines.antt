-- Lines out of bytes. 02, M-100; docs/RECORD.md. Assumes nothing.
--   line_feed         the byte that ends a line
--   line_size         the most bytes of a line that can be read, without its end
--   line_room         how many bytes of a line are kept: one more, which tells that it is too long
--   kept p            these bytes of the line p
--   last_of p         the line p, which has no end: none if it has no byte
--   lines_of bs       the lines of bs
--   CutAt xs f p e q the bytes of xs from f to e, behind p, end no line; q is what is kept of the line then
use Rattle.std.specs.Prelude.{ℕ, ◌+◌, ◌≤◌, ◌≡◌, List, [], ◌∷◌, ◌++◌, length, take}
use Rattle.std.proofs.Math.Seq.{slice}
use Rattle.record_lines.specs.Parted.{ended_by, rest_by}

abbrev pub line_feed : ℕ
line_feed = 10

-- [02 M100.8]
abbrev pub line_size : ℕ
line_size = 200

abbrev pub line_room : ℕ
line_room = line_size + 1

unfoldable pub kept : List ℕ → List ℕ
kept p = take line_room p

unfoldable pub last_of : List ℕ → List (List ℕ)
last_of [] = []
last_of (x ∷ xs) = (x ∷ xs) ∷ []

unfoldable pub lines_of : List ℕ → List (List ℕ)
lines_of bs = ended_by line_feed [] bs ++ last_of (rest_by line_feed [] bs)

pub record CutAt (xs : List ℕ) (f : ℕ) (p : List ℕ) (e : ℕ) (q : List ℕ) : Type 0 where
  pub start : f ≤ e
  pub end : e ≤ length xs
  pub unended : ended_by line_feed p (slice f e xs) ≡ []
  pub line : q ≡ kept (rest_by line_feed p (slice f e xs))
