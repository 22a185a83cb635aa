-- What a wire that is set, a read and a write do to the wired controller, and the messages that they send.
-- 01, "The wired controller"; the standard 4.5.15, 4.9. Assumes nothing.
--   Out, flushed w       the pass of both domains, and what they sent: Rattle.wired_state
--   genmsi_as c d v x    what a write of v to a register of d whose role is x sends at once: genmsi's
--                        message, else nothing
--   genmsi_by c d r v    what a write of v to register r of d sends at once
--   wire_call w i level  wire i is set, and what is then to be sent is sent
--   read_call w c r      register r of a domain is read; only a claimi changes anything
--   write_call w c r v   v is written to register r of a domain
--   OneSends w           at most one of the two domains has something to send
--   Leaves o w l l' n    a function that does o leaves the controller w, makes of the log l the log l', and
--                        counts n messages
-- c says that the domain is the child.
use Rattle.std.specs.Prelude.{ℕ, ◌≡◌, Bool, true, false, List, [], ◌++◌, ◌⊎◌, length}
use Rattle.domain_region.specs.declared.Word.{Word}
use Rattle.domain_region.specs.declared.role.Role.{Role}
use Rattle.domain_region.specs.declared.role.Role.TheVariants.{Claims, Configures, Generates, Plain}
use Rattle.domain_region.specs.Role.{role_of}
use Rattle.domain.specs.Domain.{Domain}
use Rattle.wired_state.specs.Wires.{Wired, domain_in, wire_set}
use Rattle.wired_registers.specs.Wired.{claimed_in, written_in}
use Rattle.domain_sending.specs.Sending.{sent, sent_nothing, logged}
use Rattle.domain_genmsi.specs.Genmsi.{genmsi_sent}
pub use Rattle.wired_state.specs.Pass.{Out}
unfoldable pub use Rattle.wired_state.specs.Pass.{flushed}

unfoldable pub genmsi_as : Bool → Domain → ℕ → Role → List ℕ
genmsi_as c d v (Claims h) = []
genmsi_as c d v (Configures i) = []
genmsi_as c d v Generates = genmsi_sent c d v
genmsi_as c d v Plain = []

unfoldable pub genmsi_by : Bool → Domain → Word → ℕ → List ℕ
genmsi_by c d r v = genmsi_as c d v (role_of r)

unfoldable pub wire_call : Wired → ℕ → Bool → Out
wire_call w i level = flushed (wire_set w i level)

unfoldable pub read_call : Wired → Bool → Word → Out
read_call w c r = flushed (claimed_in w c r)

unfoldable pub write_call : Wired → Bool → Word → ℕ → Out
write_call w c r v =
    let after = flushed (written_in w c r v) in
    record { wired = after.wired; messages = genmsi_by c (domain_in w c) r v ++ after.messages }

abbrev pub OneSends : Wired → Type 0
OneSends w = ((sent false w.machine).messages ≡ []) ⊎ (sent true w.child ≡ sent_nothing w.child)

abbrev pub Leaves : Out → Wired → List ℕ → List ℕ → ℕ → Type 0
Leaves o w l l' n = (w ≡ o.wired) × (l' ≡ logged l o.messages) × (n ≡ length o.messages)
