-- A file's own state rules, one definition each. 01, "State rules", "One message file". Assumes nothing.
--   delivery_rule g f      f stores a legal delivery (`delivery_legal` of file_select); g: a guest's file
--   threshold_rule n f     f's threshold is at most n
--   zero_rule f            identity 0 is neither pending nor enabled
--   file_sound n g f       all of these
use Rattle.std.specs.Prelude.{ℕ, Bool, not, ◌&&◌, leb}
use Rattle.words.specs.Sets.{member}
use Rattle.file_select.specs.Deliveries.{delivery_legal}
use Rattle.file.specs.declared.File.{File}

unfoldable pub delivery_rule : Bool → File → Bool
delivery_rule g f = delivery_legal g f.delivery

-- [01 R1]
unfoldable pub threshold_rule : ℕ → File → Bool
threshold_rule n f = leb f.threshold n

-- [01 R2]
unfoldable pub zero_rule : File → Bool
zero_rule f = not (member f.pending 0) && not (member f.enable 0)

unfoldable pub file_sound : ℕ → Bool → File → Bool
file_sound n g f = delivery_rule g f && threshold_rule n f && zero_rule f
