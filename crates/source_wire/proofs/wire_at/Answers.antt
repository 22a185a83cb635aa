-- `source_wire::wire_at` meets its contract: the bit of a word. Assumes nothing.
use mathlib.Core.Path.{◌∙◌}
use Rattle.words.proofs.SetsLaws.{member-word}
use Rattle.source_wire.proofs.wire_at.Goals as goal

pub returns : goal.returns
returns c = c.has_bit.ensures ∙ member-word c.args.wires c.args.i
