-- `wired_rules::structures::structure_pass` meets its contract: what is still to be tested settles the rest.
-- Assumes nothing.
use Prim.Native.Nat.{◌+◌, ◌-◌}
use mathlib.Core.Path.{sym, ap, ◌∙◌}
use mathlib.Core.Bool.{Bool, ◌&&◌}
use native.Mathlib.Omega.{arith}
use Rattle.domain.specs.Domain.{domain_of}
use Rattle.domain_delivery.specs.Delivery.{delivery_sound}
use Rattle.words.specs.Every.{every}
use Rattle.words.proofs.EveryLaws.{every-step, every-done}
use Rattle.wired_rules.specs.Rules.{structure_range}
use Rattle.wired_rules.proofs.structures.structure_pass.Goals as goal

pub loop-h-preserved : goal.loop-h-preserved
unfolding structure_range
loop-h-preserved c =
    let p = structure_range (domain_of c.args.part.now) in
    let h = c.loop-h.h in
    ap (λ (b : Bool). c.loop-h.sound && b && every p (h + 1) (4 - (h + 1)))
    (c.sound-sound.ensures ∙ ap delivery_sound c.load_structure.ensures)
    ∙ every-step p c.loop-h.sound h 4 (omega arith)
    ∙ c.loop-h.invariant

pub returns : goal.returns
returns c =
    sym (every-done (structure_range (domain_of c.args.part.now)) c.loop-h.sound c.loop-h.h 4 (omega arith))
    ∙ c.loop-h.invariant
