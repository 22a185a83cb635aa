-- The pass after a change of the wired controller: each domain sends what is to be sent. 01, "The wired
-- controller"; the standard 4.9. Assumes nothing.
--   Out          the controller after a change and the pass, and the messages sent, in order
--   flushed w    w after the pass of both domains, the machine domain first, and what they sent
use Rattle.std.specs.Prelude.{ℕ, true, false, List, ◌++◌}
use Rattle.domain_sending.specs.Sending.{sent}
use Rattle.wired_state.specs.Wires.{Wired}

pub record Out : Type 0 where
  pub wired : Wired
  pub messages : List ℕ

-- [01 W45]
unfoldable pub flushed : Wired → Out
flushed w =
    let first = sent false w.machine in
    let second = sent true w.child in
    record {
      wired = record { wires = w.wires; machine = first.domain; child = second.domain };
      messages = first.messages ++ second.messages;
    }
