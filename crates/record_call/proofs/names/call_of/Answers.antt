-- `record_call::names::call_of` meets its contract: the rows with so many numbers, in order. Assumes nothing.
use Prim.Native.Nat.{◌≤◌, ◌<◌, ◌^◌}
use mathlib.Core.Path.{◌≡◌, sym}
use native.Mathlib.Omega.{arith}
use borrow.Author.Rules.{rules}
use borrow.Author.Tests.{lt-ltb, le-ltb}
use Rattle.record_call.specs.Table.{third, fourth}
use Rattle.record_call.proofs.TableLaws.{none_in, one_in, two_in, three-in, four-in, five-in, many-unreadable}
use Rattle.record_call.proofs.names.call_of.Goals as goal

pub returns-in-empty : goal.returns-in-empty
returns-in-empty c = rw (none_in _ _ c.in-empty.len_below, ← c.if-is.ensures)

pub returns-in_default : goal.returns-in_default
returns-in_default c = rw (none_in _ _ c.in-empty.len_below, ← c.if-is.ensures)

pub returns-in-len1 : goal.returns-in-len1
returns-in-len1 c = rw (one_in _ _ c.in-len1.len_at_least c.in-len1.len_below, ← c.if-is-2.ensures)

pub returns-in_default-2 : goal.returns-in_default-2
returns-in_default-2 c = rw (one_in _ _ c.in-len1.len_at_least c.in-len1.len_below, ← c.if-is-2.ensures)

pub returns-in-len2 : goal.returns-in-len2
returns-in-len2 c = rw (two_in _ _ c.in-len2.len_at_least c.in-len2.len_below, ← c.if-is-3.ensures)

pub returns-in-len2-2 : goal.returns-in-len2-2
returns-in-len2-2 c =
    rw (two_in _ _ c.in-len2.len_at_least c.in-len2.len_below, ← c.if-is-3.ensures, ← c.if-is-4.ensures)

pub returns-in-len2-3 : goal.returns-in-len2-3
returns-in-len2-3 c =
    rw (
      two_in _ _ c.in-len2.len_at_least c.in-len2.len_below,
      ← c.if-is-3.ensures,
      ← c.if-is-4.ensures,
      ← c.if-is-5.ensures,
    )

pub returns-in-len2-4 : goal.returns-in-len2-4
returns-in-len2-4 c =
    rw (
      two_in _ _ c.in-len2.len_at_least c.in-len2.len_below,
      ← c.if-is-3.ensures,
      ← c.if-is-4.ensures,
      ← c.if-is-5.ensures,
      ← c.if-is-6.ensures,
    )

pub returns-in_default-3 : goal.returns-in_default-3
returns-in_default-3 c =
    rw (
      two_in _ _ c.in-len2.len_at_least c.in-len2.len_below,
      ← c.if-is-3.ensures,
      ← c.if-is-4.ensures,
      ← c.if-is-5.ensures,
      ← c.if-is-6.ensures,
    )

pub returns-in-len3 : goal.returns-in-len3
returns-in-len3 c = rw (three-in _ _ c.in-len3.len_at_least c.in-len3.len_below, ← c.if-is-7.ensures)

pub returns-in_err-ok-in-len3-2 : goal.returns-in_err-ok-in-len3-2
returns-in_err-ok-in-len3-2 c =
    let over : 2 ^ 32 ≤ third c.args.numbers.now = search rules in
    rw (
      c.from_residual.ensures,
      three-in _ _ c.in-len3.len_at_least c.in-len3.len_below,
      ← c.if-is-7.ensures,
      ← c.if-is-8.ensures,
      le-ltb _ _ over,
    )

pub returns-in_ok-ok-in-len3-2 : goal.returns-in_ok-ok-in-len3-2
returns-in_ok-ok-in-len3-2 c =
    let fits : third c.args.numbers.now < 2 ^ 32 = search rules in
    let same : c.in_ok-ok-in-len3-2.field-0 ≡ third c.args.numbers.now = search rules in
    rw (
      three-in _ _ c.in-len3.len_at_least c.in-len3.len_below,
      ← c.if-is-7.ensures,
      ← c.if-is-8.ensures,
      lt-ltb _ _ fits,
      same,
    )

pub returns-in_default-4 : goal.returns-in_default-4
returns-in_default-4 c =
    rw (
      three-in _ _ c.in-len3.len_at_least c.in-len3.len_below,
      ← c.if-is-7.ensures,
      ← c.if-is-8.ensures,
    )

pub returns-in_err-ok-in-len4 : goal.returns-in_err-ok-in-len4
returns-in_err-ok-in-len4 c =
    let over : 2 ^ 32 ≤ fourth c.args.numbers.now = search rules in
    rw (
      c.from_residual-in_err-ok-in-len4.ensures,
      four-in _ _ c.in-len4.len_at_least c.in-len4.len_below,
      ← c.if-is-9.ensures,
      le-ltb _ _ over,
    )

pub returns-in_ok-ok-in-len4 : goal.returns-in_ok-ok-in-len4
returns-in_ok-ok-in-len4 c =
    let fits : fourth c.args.numbers.now < 2 ^ 32 = search rules in
    let same : c.in_ok-ok-in-len4.field-0 ≡ fourth c.args.numbers.now = search rules in
    rw (
      four-in _ _ c.in-len4.len_at_least c.in-len4.len_below,
      ← c.if-is-9.ensures,
      lt-ltb _ _ fits,
      same,
    )

pub returns-in_default-5 : goal.returns-in_default-5
returns-in_default-5 c =
    rw (four-in _ _ c.in-len4.len_at_least c.in-len4.len_below, ← c.if-is-9.ensures)

pub returns-in-len5 : goal.returns-in-len5
returns-in-len5 c = rw (five-in _ _ c.in-len5.len_at_least c.in-len5.len_below, ← c.if-is-10.ensures)

pub returns-in-len5-2 : goal.returns-in-len5-2
returns-in-len5-2 c =
    rw (five-in _ _ c.in-len5.len_at_least c.in-len5.len_below, ← c.if-is-10.ensures, ← c.if-is-11.ensures)

pub returns-in_default-6 : goal.returns-in_default-6
returns-in_default-6 c =
    rw (five-in _ _ c.in-len5.len_at_least c.in-len5.len_below, ← c.if-is-10.ensures, ← c.if-is-11.ensures)

pub returns-in_default-7 : goal.returns-in_default-7
returns-in_default-7 c = sym (many-unreadable _ _ (omega (arith, c.in_default.len_at_least)))
