-- What the pass after a change sends fits the log's 63 words. No contract cites this file. Assumes nothing.
use Prim.Native.Nat.{◌≤◌}
use mathlib.Core.Bool.{true, false}
use mathlib.Core.List.{append-nil}
use mathlib.Core.Logic.{inl, inr}
use lib.ListN.{length}
use Rattle.wired_state.specs.Wires.{Wired}
use Rattle.domain_sending.specs.Sending.{sent}
use Rattle.domain_sending_laws.proofs.SendingEffects.{sent-count}
use Rattle.wired.specs.Controller.{flushed, OneSends}

pub flushed-count : (w : Wired) → OneSends w → length (flushed w).messages ≤ 63
unfolding flushed
flushed-count w (inl e) = rw e (sent-count true w.child)
flushed-count w (inr e) =
    rw (e, append-nil (sent false w.machine).messages) (sent-count false w.machine)
