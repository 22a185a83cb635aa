-- `wired_rules::domains::bits_rules` meets its contract: four words that are 0. Assumes nothing.
use mathlib.Core.Path.{refl}
use Rattle.domain.specs.Domain.{domain_of}
use Rattle.wired_rules.proofs.BitsLaws.{bits-read, set-read}
use Rattle.wired_rules.proofs.domains.bits_rules.Goals as goal

pub returns : goal.returns
returns c =
    let d = domain_of c.args.part.now in
    let ws = c.args.wires in
    bits-read c.args.child ws d c.args.g c.requires
    c.one_word-pending.result c.one_word-enable.result c.one_word-levels.result
    c.by_messages-messages.ensures c.enabled.ensures
    c.none_unused.ensures c.none_unsent.ensures
    c.none_low.ensures c.none_missing.ensures
    (set-read d.pending c.pending_word.ensures
    c.pending_word-2.ensures c.one_word-pending.ensures)
    (set-read d.enable c.enable_word.ensures
    c.enable_word-2.ensures c.one_word-enable.ensures)
    (set-read ws refl refl c.one_word-levels.ensures)
