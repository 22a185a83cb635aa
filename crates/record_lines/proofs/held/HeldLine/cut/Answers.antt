-- `record_lines::held::HeldLine::cut` meets its contract. Assumes nothing.
use Prim.Native.Nat.{◌+◌, ◌-◌, ◌≤◌, min}
use mathlib.Core.Path.{◌≡◌, sym, ap, ◌∙◌}
use native.Mathlib.Omega.{arith}
use borrow.Author.Rules.{rules}
use lib.ListN.{length, drop, length-drop}
use lib.Seq.{take_all, length-take-le}
use Rattle.record_lines.specs.Bytes.{index_of}
use Rattle.record_lines.specs.Lines.{line_feed, line_room}
use Rattle.record_lines.proofs.LinesLaws.{cut_at, cut-few, cut-stops}
use Rattle.record_lines.proofs.HeldLaws.{held_behind}
use Rattle.record_lines.proofs.held.HeldLine.cut.Goals as goal

pub returns : goal.returns
returns c =
    let chunk = c.args.chunk.now in
    let from = c.args.from in
    let p = c.args.self.now in
    let had = c.self.inside.held in
    let room = c.self.inside.room in
    let n = c.min-n.result in
    let all =
    take_all (length chunk - from) (drop from chunk) (omega (arith, length-drop from chunk)) in
    let found = c.find-much.ensures.place ∙ ap (index_of line_feed) all in
    let inside : had ≤ length room = search rules in
    let there : from + n ≤ length chunk = omega arith in
    let whole : length p ≡ had = sym (ap length c.self.view_is) ∙ length-take-le had room inside in
    let copied : n ≡ min c.find-much.result (line_room - length p) = rw whole c.min-n.ensures in
    let held =
    held_behind chunk room p from had n there inside c.self.view_is c.copy_from_slice.new.self _ _
    c.copy_from_slice.ensures.after (omega arith) (omega arith) in
    let short : length p ≤ line_room = omega (arith, whole, c.self.invariant) in
    record {
      cut_at = cut_at chunk from _ c.requires found p n short copied _
          (held _ _ _ (omega arith) (omega arith));
      few = cut-few chunk from _ c.requires found p n short copied _
          (held _ _ _ (omega arith) (omega arith));
      at_value = cut-stops chunk from _ c.requires found;
    }
