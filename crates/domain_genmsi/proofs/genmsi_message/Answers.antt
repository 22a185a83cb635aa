-- `domain_genmsi::genmsi_message` meets its contract: to the supervisor file of the child, the machine file
-- of the machine domain. Assumes nothing.
use Prim.Native.Nat.{ℕ}
use mathlib.Core.Path.{ap₂, sym, ◌∙◌}
use Rattle.file_message.specs.Message.{log_word}
use Rattle.domain_genmsi.proofs.GenmsiLaws.{genmsi-child, genmsi-machine}
use Rattle.domain_genmsi.proofs.genmsi_message.Goals as goal

pub returns-then-child : goal.returns-then-child
returns-then-child c =
    c.log_word.ensures
    ∙ ap₂ (λ (h i : ℕ). log_word h 1 i) c.hart_of.ensures.0
    c.number_of.ensures.0
    ∙ sym (genmsi-child _ _ c.if-child.true)

pub returns : goal.returns
returns c =
    c.log_word-2.ensures
    ∙ ap₂ (λ (h i : ℕ). log_word h 0 i) c.hart_of-2.ensures.0
    c.number_of-2.ensures.0
    ∙ sym (genmsi-machine _ _ c.if-child.false)
