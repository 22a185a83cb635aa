-- Laws of specs/Pass.antt. No contract cites this file. Assumes nothing.
use mathlib.Core.Path.{◌≡◌, refl}
use mathlib.Core.Bool.{true, false}
use mathlib.Core.List.{◌++◌}
use Rattle.domain_sending.specs.Sending.{sent}
use Rattle.wired_state.specs.Wires.{Wired}
use Rattle.wired_state.specs.Pass.{Out, flushed}

-- both passes together
abbrev pub both_sent : Wired → Out
both_sent w =
    record {
      wired =
          record {
            wires = w.wires;
            machine = (sent false w.machine).domain;
            child = (sent true w.child).domain;
          };
      messages = (sent false w.machine).messages ++ (sent true w.child).messages;
    }

pub flushed-both : (w : Wired) → flushed w ≡ both_sent w
unfolding flushed
flushed-both w = refl
