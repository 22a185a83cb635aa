-- `source_rules::target_fault` meets its contract: what is gathered is 0 exactly if no part is stray. Assumes
-- nothing.
use mathlib.Core.Path.{◌∙◌}
use mathlib.Core.Bool.{◌&&◌}
use lib.Bits.{bit_and, bit_or}
use lib.Dec.{eqb}
use Rattle.words_masks.proofs.MasksLaws.{or-none}
use Rattle.source_rules.proofs.RangeLaws.{target-legal}
use Rattle.source_rules.proofs.target_fault.Goals as goal

pub returns : goal.returns
returns c =
    let t = c.args.target in
    let high = bit_or (bit_and t 4293918720) (bit_and t 245760) in
    or-none (bit_or high (bit_or (bit_and t 3840) (bit_and t c.barred_guest-barred.result)))
    c.priority_fault.result
    ∙ (λ k. eqb (bit_or high (bit_or (bit_and t 3840) (bit_and t (c.barred_guest-barred.ensures k)))) 0
    && c.priority_fault.ensures k)
    ∙ target-legal t c.ranges.target.fits c.args.child c.args.messages
