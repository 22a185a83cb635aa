-- `domain_slots::gather` meets its contract: each turn takes in seven sources. Assumes nothing.
use native.Mathlib.Omega.{arith}
use Rattle.domain_slots.proofs.SlotsLaws.{so-far-none, so-far-at}
use Rattle.domain_slots.proofs.gather.Goals as goal

pub loop-seven-init : goal.loop-seven-init
loop-seven-init c = (c.by_messages-messages.ensures, so-far-none _ _)

pub slot_at-g-requires : goal.slot_at-g-requires
slot_at-g-requires c =
    let inv = c.loop-seven.invariant in (omega arith, omega arith, inv.0, inv.1)

pub slot_at-g-requires-in-loop-seven : goal.slot_at-g-requires-in-loop-seven
slot_at-g-requires-in-loop-seven c =
    let inv = c.loop-seven.invariant in
    (omega arith, omega arith, inv.0, c.slot_at-g.ensures)

pub slot_at-g-requires-in-loop-seven-2 : goal.slot_at-g-requires-in-loop-seven-2
slot_at-g-requires-in-loop-seven-2 c =
    let inv = c.loop-seven.invariant in
    (omega arith, omega arith, inv.0, so-far-at _ _ (omega arith) c.slot_at-g-in-loop-seven.ensures)

pub slot_at-g-requires-in-loop-seven-3 : goal.slot_at-g-requires-in-loop-seven-3
slot_at-g-requires-in-loop-seven-3 c =
    let inv = c.loop-seven.invariant in
    (omega arith, omega arith, inv.0, so-far-at _ _ (omega arith) c.slot_at-g-in-loop-seven-2.ensures)

pub slot_at-g-requires-in-loop-seven-4 : goal.slot_at-g-requires-in-loop-seven-4
slot_at-g-requires-in-loop-seven-4 c =
    let inv = c.loop-seven.invariant in
    (omega arith, omega arith, inv.0, so-far-at _ _ (omega arith) c.slot_at-g-in-loop-seven-3.ensures)

pub slot_at-g-requires-in-loop-seven-5 : goal.slot_at-g-requires-in-loop-seven-5
slot_at-g-requires-in-loop-seven-5 c =
    let inv = c.loop-seven.invariant in
    (omega arith, omega arith, inv.0, so-far-at _ _ (omega arith) c.slot_at-g-in-loop-seven-4.ensures)

pub slot_at-g-requires-in-loop-seven-6 : goal.slot_at-g-requires-in-loop-seven-6
slot_at-g-requires-in-loop-seven-6 c =
    let inv = c.loop-seven.invariant in
    (omega arith, omega arith, inv.0, so-far-at _ _ (omega arith) c.slot_at-g-in-loop-seven-5.ensures)

pub loop-seven-preserved : goal.loop-seven-preserved
loop-seven-preserved c =
    (c.loop-seven.invariant.0, so-far-at _ _ (omega arith) c.slot_at-g-in-loop-seven-6.ensures)

pub returns : goal.returns
returns c = so-far-at _ _ (omega arith) c.loop-seven.invariant.1
