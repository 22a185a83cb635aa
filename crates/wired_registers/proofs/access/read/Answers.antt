-- `wired_registers::access::read` meets its contract: a domain's words go back where they were. Assumes
-- nothing.
use mathlib.Core.Path.{ap, ap₂, ◌∙◌}
use mathlib.Core.List.{List}
use Prim.Native.Nat.{ℕ}
use borrow.Author.Rules.{rules}
use native.Mathlib.Omega.{arith}
use Rattle.std.proofs.lemmas.Grind.{common_steps}
use Rattle.domain.specs.Domain.{Domain}
use Rattle.domain_registers.specs.Read.{register_value, claimed_by}
use Rattle.wired_state.proofs.WiresLaws.{part-back, part-lent}
use Rattle.wired_registers.proofs.access.read.Goals as goal

pub read-requires : goal.read-requires
read-requires c =
    let args = c.args in
    let lent = part-lent args.w.now args.child c.place_of.ensures c.split_at_mut-words.ensures.back
    c.unwrap.result.now (grind (arith, common_steps)) in
    (rw lent c.requires.0, c.requires.1)

pub returns : goal.returns
returns c =
    let args = c.args in
    let cut = c.split_at_mut-words.ensures in
    let lent = part-lent args.w.now args.child c.place_of.ensures cut.back c.unwrap.result.now
    (grind (arith, common_steps)) in (
      c.read.ensures.0
          ∙ ap₂ (λ (d : Domain) (ws : List ℕ). register_value d ws args.word) lent c.wires-levels.ensures,
      part-back args.w.now args.child c.place_of.ensures cut.back c.told-w _ _ cut.front (search rules)
          (c.read.ensures.1 ∙ ap (λ (d : Domain). claimed_by d args.word) lent),
    )
