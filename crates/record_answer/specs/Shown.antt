-- Numbers as a line of text. 02, M-100; docs/RECORD.md. Assumes nothing.
--   fields_shown ns   the numbers ns in decimal, each behind a tab
--   line_shown ns     the numbers ns in decimal with a tab between two, and the end of the line
--   field_room        how many bytes a number takes at most, with the tab before it or the end behind it
--   answer_room       how many bytes an answer takes at most: four numbers, a full log and the end
use Rattle.std.specs.Prelude.{ℕ, ◌+◌, ◌*◌, List, [], ◌∷◌, ◌++◌}
use Rattle.sizes.specs.Sizes.{log_size}
use Rattle.record_numbers.specs.Decimal.{text_of, number_room}
use Rattle.record_lines.specs.Lines.{line_feed}
use Rattle.record_fields.specs.Fields.{tab}

unfoldable pub fields_shown : List ℕ → List ℕ
fields_shown [] = []
fields_shown (n ∷ ns) = tab ∷ (text_of n ++ fields_shown ns)

unfoldable pub line_shown : List ℕ → List ℕ
line_shown [] = line_feed ∷ []
line_shown (n ∷ ns) = text_of n ++ (fields_shown ns ++ (line_feed ∷ []))

abbrev pub field_room : ℕ
field_room = number_room + 1

abbrev pub answer_room : ℕ
answer_room = (4 + log_size) * field_room + 1
