-- `wired_state::state::store_source` meets its contract: a domain's words go back where they were. Assumes
-- nothing.
use mathlib.Core.Path.{ap, ◌∙◌}
use borrow.Author.Rules.{rules}
use native.Mathlib.Omega.{arith}
use Rattle.std.proofs.lemmas.Grind.{common_steps}
use Rattle.domain.specs.Domain.{Domain}
use Rattle.domain.specs.Slot.{with_source}
use Rattle.wired_state.proofs.WiresLaws.{part-back, part-lent}
use Rattle.wired_state.proofs.state.store_source.Goals as goal

pub returns : goal.returns
returns c =
    let args = c.args in
    let cut = c.split_at_mut-words.ensures in
    let lent = part-lent args.w.now args.child c.place_of.ensures cut.back c.unwrap.result.now
    (grind (arith, common_steps)) in
    part-back args.w.now args.child c.place_of.ensures cut.back c.told-w _ _ cut.front (search rules)
    (c.store.ensures ∙ ap (λ (d : Domain). with_source d args.i args.s) lent)
