-- `wired_sourcecfg::write_machine` meets its contract: the machine domain, and the child where the delegation
-- changes. Assumes nothing.
use mathlib.Core.Path.{refl, sym}
use mathlib.Core.Bool.{true, false}
use borrow.Author.Rules.{rules}
use Rattle.wired_state.specs.Wires.{wired_of}
use Rattle.wired_state.proofs.WiresLaws.{domain-child, domain-machine, with-child, with-machine}
use Rattle.wired_sourcecfg.proofs.DelegationLaws.{machine-stays, machine-moves}
use Rattle.wired_sourcecfg.proofs.write_machine.Goals as goal

pub returns-then-had-has : goal.returns-then-had-has
returns-then-had-has c =
    let w = wired_of c.args.w.now in
    rw (
      c.store_source.ensures,
      c.inactive.ensures,
      c.mode_source.ensures,
      with-machine w false _ refl,
      with-child _ true _ refl,
      domain-child _ true refl,
      domain-machine w false refl,
      c.wire_at-wire.ensures,
      c.wires.ensures,
      c.source_word-mode.ensures,
    )
    (sym (machine-moves w _ _ (rw (← c.delegated-had.ensures, ← c.source_word-mode.ensures) (search rules))))

pub returns-else-had-has : goal.returns-else-had-has
returns-else-had-has c =
    let w = wired_of c.args.w.now in
    rw (
      c.mode_source.ensures,
      with-machine w false _ refl,
      domain-machine w false refl,
      c.wire_at-wire.ensures,
      c.wires.ensures,
      c.source_word-mode.ensures,
    )
    (sym (machine-stays w _ _ (rw (← c.delegated-had.ensures, ← c.source_word-mode.ensures) (search rules))))
