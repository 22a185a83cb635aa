-- `wired_rules::domains::sound` meets its contract: the wires, each domain, and what concerns both. Assumes
-- nothing.
use Prim.Native.Nat.{ℕ}
use mathlib.Core.Path.{refl, ap, ap₂, ◌∙◌}
use mathlib.Core.Bool.{true, false}
use mathlib.Core.List.{List}
use Rattle.words.specs.Bits.{without}
use Rattle.words.specs.Sets.{member}
use Rattle.words.proofs.SetsLaws.{member-word}
use Rattle.words_masks.specs.Masks.{gathered}
use Rattle.domain.specs.Domain.{Domain}
use Rattle.wired_state.specs.Wires.{wired_of}
use Rattle.wired_state.proofs.WiresLaws.{domain-child, domain-machine}
use Rattle.wired_rules.specs.Rules.{domain_sound}
use Rattle.source_rules.specs.SourceParts.{held_back, occupied}
use Rattle.domain_slots.specs.Slots.{has}
use Rattle.wired_rules.proofs.RulesLaws.{wired-sound-read}
use Rattle.wired_rules.proofs.domains.sound.Goals as goal

pub returns : goal.returns
returns c =
    let w = wired_of c.args.w.now in
    let wires = c.wires-wires.ensures in
    let machine = c.domain_part-machine.ensures ∙ domain-machine w false refl in
    let child = c.domain_part-child.ensures ∙ domain-child w true refl in
    wired-sound-read w
    (c.has_bit.ensures ∙ member-word _ 0 ∙ ap (λ (ws : List ℕ). member ws 0) wires)
    (c.domain_rules.ensures
    ∙ ap₂ (λ (ws : List ℕ) (d : Domain). domain_sound false ws d) wires machine)
    (c.domain_rules-2.ensures
    ∙ ap₂ (λ (ws : List ℕ) (d : Domain). domain_sound true ws d) wires child)
    (c.without64.ensures
    ∙ ap₂ without
    (c.gather-taken.ensures.active ∙ ap (λ (d : Domain). gathered (has (occupied true) d) 64) child)
    (c.gather-given.ensures.delegated
    ∙ ap (λ (d : Domain). gathered (has (held_back false) d) 64) machine))
