-- `record_lines::scan::find` meets its contract. Assumes nothing.
use native.Mathlib.Omega.{arith}
use borrow.Author.Rules.{rules}
use borrow.Author.Tests.{tests}
use lib.Dec.{eqb}
use Rattle.std.proofs.lemmas.Iterator.{YieldsList-from_slice}
use Rattle.std.proofs.lemmas.Iterator.Search.{position_from_yields_List}
use Rattle.record_lines.proofs.FoundLaws.{found_in, found_nowhere}
use Rattle.record_lines.proofs.scan.find.Goals as goal

pub returns-in-Some-clause-place : goal.returns-in-Some-clause-place
returns-in-Some-clause-place c =
    let byte = c.args.byte in
    let found = found_in byte c.args.bytes.now c.position.result c.in-Some.i
    (position_from_yields_List (λ x. eqb x byte) _ _ c.position.result c.position.ensures.ran
    (YieldsList-from_slice c.args.bytes.now cc) (λ x b q k. search (rules, tests))) c.in-Some.is in
    omega (arith, found)

pub returns-in-None-clause-place : goal.returns-in-None-clause-place
returns-in-None-clause-place c =
    let byte = c.args.byte in
    let found = found_nowhere byte c.args.bytes.now c.position.result
    (position_from_yields_List (λ x. eqb x byte) _ _ c.position.result c.position.ensures.ran
    (YieldsList-from_slice c.args.bytes.now cc) (λ x b q k. search (rules, tests))) c.in-None.is in
    omega (arith, found)
