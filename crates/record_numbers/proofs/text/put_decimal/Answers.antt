-- `record_numbers::text::put_decimal` meets its contract: one digit is put alone; of more, those that stand
-- and those of what is left are all. Assumes nothing.
use Prim.Native.Nat.{◌+◌}
use native.Mathlib.Omega.{arith}
use native.Mathlib.Numerals.{add-one}
use lib.Seq.{take-suc-set}
use Rattle.record_numbers.specs.Decimal.{number_room}
use Rattle.record_numbers.proofs.TextLaws.{places-le, text-one}
use Rattle.record_numbers.proofs.PuttingLaws.{standing-start, standing-more, standing-end}
use Rattle.record_numbers.proofs.text.put_decimal.Goals as goal

pub returns-then-n-lt10 : goal.returns-then-n-lt10
returns-then-n-lt10 c =
    let args = c.args in
    let put = take-suc-set args.out.now args.at (48 + args.n) (omega arith) in
    record {
      out_after = rw (add-one, text-one args.n c.if-n-lt10.true) put;
      upper_bound = omega arith;
      lower_bound = omega arith;
    }

pub overflow_add-end : goal.overflow_add-end
overflow_add-end c = omega (arith, places-le number_room c.args.n)

pub loop-i-init : goal.loop-i-init
loop-i-init c =
    let args = c.args in
    let few = places-le number_room args.n in
    standing-start args.n args.at _ args.out.now (omega arith) (omega arith)

pub loop-i-preserved : goal.loop-i-preserved
loop-i-preserved c = standing-more c.loop-i.invariant c.loop-i-test.true

pub shape_of-out : goal.shape_of-out
shape_of-out c = c.loop-i.invariant.long

pub returns : goal.returns
returns c =
    let few = places-le number_room c.args.n in
    record {
      out_after = standing-end c.loop-i.invariant c.loop-i-test.false;
      upper_bound = omega arith;
      lower_bound = omega arith;
    }
