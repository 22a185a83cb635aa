-- `board::apply` meets its contract: case by case it is the call of that case. Assumes nothing.
use mathlib.Core.Path.{sym}
use Rattle.board_call_laws.proofs.GivesEffects.{gives_of}
use Rattle.board.proofs.apply.Goals as goal

pub returns-in-Reset : goal.returns-in-Reset
returns-in-Reset c =
    gives_of (sym c.in-Reset.is) _ _ _ _ _ _ _
    (c.reset.ensures _)

pub returns-in-Wire : goal.returns-in-Wire
returns-in-Wire c =
    gives_of (sym c.in-Wire.is) _ _ _ _ _ _ _
    (c.wire.ensures _)

pub returns-in-DomainRead : goal.returns-in-DomainRead
returns-in-DomainRead c =
    gives_of (sym c.in-DomainRead.is) _ _ _ _ _ _ _
    (c.domain_read.ensures _)

pub returns-in-DomainWrite : goal.returns-in-DomainWrite
returns-in-DomainWrite c =
    gives_of (sym c.in-DomainWrite.is) _ _ _ _ _ _ _
    (c.domain_write.ensures _)

pub returns-in-PageRead : goal.returns-in-PageRead
returns-in-PageRead c =
    gives_of (sym c.in-PageRead.is) _ _ _ _ _ _ _
    (c.page_read.ensures _)

pub returns-in-PageWrite : goal.returns-in-PageWrite
returns-in-PageWrite c =
    gives_of (sym c.in-PageWrite.is) _ _ _ _ _ _ _
    (c.page_write.ensures _)

pub returns-in-Register : goal.returns-in-Register
returns-in-Register c =
    gives_of (sym c.in-Register.is) _ _ _ _ _ _ _
    (c.register.ensures _)

pub returns-in-Top : goal.returns-in-Top
returns-in-Top c =
    gives_of (sym c.in-Top.is) _ _ _ _ _ _ _
    (c.top.ensures _)

pub returns-in-Claim : goal.returns-in-Claim
returns-in-Claim c =
    gives_of (sym c.in-Claim.is) _ _ _ _ _ _ _
    (c.claim.ensures _)

pub returns-in-Signals : goal.returns-in-Signals
returns-in-Signals c =
    gives_of (sym c.in-Signals.is) _ _ _ _ _ _ _
    (c.signals.ensures _)

pub returns-in-Move : goal.returns-in-Move
returns-in-Move c =
    gives_of (sym c.in-Move.is) _ _ _ _ _ _ _
    c.make_access.ensures
