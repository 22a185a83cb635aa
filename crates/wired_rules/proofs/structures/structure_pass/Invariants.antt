-- What the loop of this function keeps: what is still to be tested settles the rest. Assumes nothing.
use Prim.Native.Nat.{◌-◌}
use mathlib.Core.Path.{◌≡◌}
use mathlib.Core.Bool.{◌&&◌}
use Rattle.domain.specs.Domain.{domain_of}
use Rattle.words.specs.Every.{every}
use Rattle.wired_rules.specs.Rules.{structure_range}
use Rattle.wired_rules.proofs.structures.structure_pass.Given as goal

abbrev pub invariant-loop-h : goal.invariant-loop-h
invariant-loop-h l =
    let p = structure_range (domain_of l.part) in
    (l.sound && every p l.h (4 - l.h)) ≡ every p 0 4
