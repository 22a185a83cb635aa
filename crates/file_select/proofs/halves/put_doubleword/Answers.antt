-- `file_select::halves::put_doubleword` meets its contract: identity 0 is dropped from word 0 alone. Assumes
-- nothing.
use mathlib.Core.Path.{ap, sym, ◌∙◌}
use Rattle.file_select.specs.Halves.{put_halves}
use Rattle.file_select.proofs.HalvesLaws.{put_first}
use Rattle.file_select.proofs.halves.put_doubleword.Goals as goal

pub returns-then-j-eq0 : goal.returns-then-j-eq0
returns-then-j-eq0 c = c.put_halves.ensures ∙ ap (put_halves _ 0) c.without64.ensures
    ∙ sym (put_first _ _ _ c.if-j-eq0.true)
