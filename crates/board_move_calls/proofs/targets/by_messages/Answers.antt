-- `board_move_calls::targets::by_messages` meets its contract: the child stands last in the block. Assumes
-- nothing.
use Prim.Native.Nat.{ℕ, ◌-◌}
use mathlib.Core.Path.{◌≡◌, refl, ap, ◌∙◌}
use mathlib.Core.Bool.{true}
use mathlib.Core.List.{List}
use lib.ListN.{length, drop}
use borrow.Author.Rules.{rules}
use Rattle.sizes.specs.Sizes.{wired_size}
use Rattle.domain.specs.Domain.{by_messages}
use Rattle.wired_state.specs.Wires.{Wired, wired_of}
use Rattle.wired_state.proofs.WiresLaws.{domain-child}
use Rattle.board_block.proofs.BlockLaws.{wired-last, wired-part}
use Rattle.board_move_calls.proofs.targets.by_messages.Goals as goal

pub returns : goal.returns
returns c =
    let l = c.args.state.now in
    let long = c.told-state in
    let lent : c.unwrap.result.now ≡ drop (length l - wired_size) l = search rules in
    c.by_messages.ensures
    ∙ ap by_messages (c.domain_part.ensures
    ∙ domain-child (wired_of c.unwrap.result.now) true refl
    ∙ ap (λ (w : Wired). w.child) (ap wired_of (lent ∙ wired-last l long) ∙ wired-part l long))
