-- `domain::domain_words::standing` meets its contract: bit i of both sets, each two words as one. Assumes
-- nothing.
use Prim.Native.Nat.{ℕ}
use mathlib.Core.Path.{ap₂, sym, ◌∙◌}
use native.Mathlib.Omega.{arith}
use lib.Bits.{bit_and}
use Rattle.words.specs.Bits.{has_bit}
use Rattle.words.specs.Parts.{joined}
use Rattle.domain.specs.Domain.{domain_of}
use Rattle.domain.proofs.SlotLaws.{standing-bit}
use Rattle.domain.proofs.domain_words.standing.Goals as goal

pub returns : goal.returns
returns c i h =
    let first = c.pending_word.ensures in
    let third = c.enable_word.ensures in
    let pending =
    c.joined64-pending.ensures ∙ ap₂ joined first c.pending_word-2.ensures in
    let enable = c.joined64-enable.ensures ∙ ap₂ joined third c.enable_word-2.ensures in
    ap₂ (λ (p e : ℕ). has_bit (bit_and p e) i) pending enable
    ∙ standing-bit (domain_of c.args.part.now) i
    (rw (sym first) (omega arith)) (rw (sym third) (omega arith)) h
