-- `wired_registers::word::write_part` meets its contract: a domain's words go back where they were. Assumes
-- nothing.
use mathlib.Core.Path.{ap₂, ◌∙◌}
use mathlib.Core.List.{List}
use Prim.Native.Nat.{ℕ}
use borrow.Author.Rules.{rules}
use native.Mathlib.Omega.{arith}
use Rattle.std.proofs.lemmas.Grind.{common_steps}
use Rattle.domain.specs.Domain.{Domain}
use Rattle.domain_registers.specs.Write.{register_written}
use Rattle.wired_state.proofs.WiresLaws.{part-back, part-lent}
use Rattle.wired_registers.proofs.word.write_part.Goals as goal

pub returns : goal.returns
returns c =
    let args = c.args in
    let cut = c.split_at_mut-words.ensures in
    let lent = part-lent args.w.now args.child c.place_of.ensures cut.back c.unwrap.result.now
    (grind (arith, common_steps)) in
    part-back args.w.now args.child c.place_of.ensures cut.back c.told-w _ _ cut.front (search rules)
    (c.write.ensures
    ∙ ap₂ (λ (d : Domain) (ws : List ℕ). register_written args.child d ws args.word args.value) lent
    c.wires-levels.ensures)
