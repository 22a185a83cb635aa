-- `wired_sourcecfg::write_child` meets its contract: the child alone changes. Assumes nothing.
use mathlib.Core.Path.{refl}
use mathlib.Core.Bool.{true}
use Rattle.wired_state.specs.Wires.{wired_of}
use Rattle.wired_state.proofs.WiresLaws.{domain-child, with-child}
use Rattle.wired_sourcecfg.specs.Delegation.{child_written}
use Rattle.wired_sourcecfg.proofs.write_child.Goals as goal

pub returns : goal.returns
unfolding child_written
returns c =
    let w = wired_of c.args.w.now in
    rw (
      c.mode_source.ensures,
      with-child w true _ refl,
      domain-child w true refl,
      c.source_word-mode.ensures,
      c.delegated.ensures,
      c.wire_at-wire.ensures,
      c.wires.ensures,
    ) refl
