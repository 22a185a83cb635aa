-- The calls of the wired controller, on one that keeps the rules: every message names a file that exists, the
-- log's 63 words suffice, and the rules hold again. No contract cites this file. Assumes nothing.
use Prim.Native.Nat.{ℕ, ◌≤◌, ◌<◌}
use mathlib.Core.Path.{◌≡◌}
use mathlib.Core.Bool.{Bool, true, false}
use mathlib.Core.List.{List, ◌++◌, append-nil}
use native.Mathlib.Omega.{arith}
use lib.ListN.{length}
use Rattle.words.proofs.TestsLaws.{tested}
use Rattle.file_message.specs.Message.{file_in}
use Rattle.domain_genmsi.specs.Genmsi.{genmsi_message}
use Rattle.domain_region.specs.Region.{Within}
use Rattle.domain_region.specs.declared.Word.{Word}
use Rattle.domain_region.proofs.RoleLaws.{generates-only}
use Rattle.domain.specs.Domain.{Domain, by_messages}
use Rattle.wired_state.specs.Wires.{Wired, domain_in, wire_set}
use Rattle.wired_registers.specs.Wired.{written_in, claimed_in}
use Rattle.wired_rules.specs.Rules.{wired_sound}
use Rattle.domain_sending.specs.Sending.{sent}
use Rattle.domain_sending_laws.proofs.MessageEffects.{Every, every-none, every_one, every_append, sent-named}
use Rattle.domain_sending_laws.proofs.MessageEffects.{genmsi-names}
use Rattle.domain_genmsi.specs.Genmsi.{genmsi_sent}
use Rattle.domain_genmsi.proofs.GenmsiLaws.{genmsi-on, genmsi-off}
use Rattle.wired_rules_laws.specs.Steady.{WiredSteady, WiredQuiet}
use Rattle.wired_rules_laws.proofs.WiredEffects.{steady-wire_set, steady-claimed_in, sound-passed}
use Rattle.wired_rules_laws.proofs.DelegationEffects.{steady-written_in}
use Rattle.wired.specs.Controller.{flushed, genmsi_by, wire_call, read_call, write_call}
use Rattle.wired.proofs.ControllerLaws.{genmsi-cases}
use Rattle.wired.proofs.CallLaws.{one-wire_set, one-written_in, genmsi-silent}
use Rattle.wired_laws.proofs.CountEffects.{flushed-count}

abbrev pub Exists : ℕ → Type 0
Exists m = file_in m < 5

-- ---- every message names a file that exists

pub flushed-exists : (w : Wired) → Every Exists (flushed w).messages
unfolding flushed
flushed-exists w =
    every_append Exists (sent false w.machine).messages (sent true w.child).messages
    (λ k h. (sent-named false w.machine k h).exists) (λ k h. (sent-named true w.child k h).exists)

pub genmsi_by-exists : (c : Bool) (d : Domain) (r : Word) (v : ℕ) → Every Exists (genmsi_by c d r v)
genmsi_by-exists c d r v =
    genmsi-cases c d r v (Every Exists)
    (λ _. tested (by_messages d)
    (λ m. rw (genmsi-on c d v m) (every_one Exists (genmsi_message c v) (genmsi-names c v).exists))
    (λ n. rw (genmsi-off c d v n) (every-none Exists)))
    (every-none Exists)

pub wire-exists : (w : Wired) (i : ℕ) (level : Bool) → Every Exists (wire_call w i level).messages
unfolding wire_call
wire-exists w i level = flushed-exists (wire_set w i level)

pub write-exists : (w : Wired) (c : Bool) (r : Word) (v : ℕ) → Every Exists (write_call w c r v).messages
unfolding write_call
write-exists w c r v =
    every_append Exists (genmsi_by c (domain_in w c) r v) (flushed (written_in w c r v)).messages
    (genmsi_by-exists c (domain_in w c) r v) (flushed-exists (written_in w c r v))

-- ---- 63 log words suffice

genmsi_sent-count : (c : Bool) (d : Domain) (v : ℕ) → length (genmsi_sent c d v) ≤ 1
genmsi_sent-count c d v =
    tested (by_messages d) (λ m. rw (genmsi-on c d v m) (omega arith))
    (λ n. rw (genmsi-off c d v n) (omega arith))

module _ (w : Wired) (s : WiredSteady w) (q : WiredQuiet w) where
  pub wire-count : (i : ℕ) → 1 ≤ i → i < 64 → (level : Bool) → length (wire_call w i level).messages ≤ 63
  unfolding wire_call
  wire-count i l h level = flushed-count (wire_set w i level) (one-wire_set w s q i l h level)

  pub write-count : (c : Bool) (r : Word) → Within r → (v : ℕ) → length (write_call w c r v).messages ≤ 63
  unfolding write_call
  write-count c r b v =
      let after = written_in w c r v in
      let d = domain_in w c in
      genmsi-cases c d r v (λ (ms : List ℕ). length (ms ++ (flushed after).messages) ≤ 63)
      (λ t. rw (genmsi-silent w s q c r (generates-only r t) v, append-nil (genmsi_sent c d v))
      (omega (arith, genmsi_sent-count c d v)))
      (flushed-count after (one-written_in w s q c r b v))

-- ---- the rules hold again

flushed-sound : (w : Wired) → WiredSteady w → wired_sound (flushed w).wired ≡ true
flushed-sound w s = sound-passed w s

module _ (w : Wired) (s : WiredSteady w) where
  pub wire-sound : (i : ℕ) → 1 ≤ i → i < 64 → (level : Bool) → wired_sound (wire_call w i level).wired ≡ true
  unfolding wire_call
  wire-sound i l h level = flushed-sound (wire_set w i level) (steady-wire_set w s i l h level)

  pub read-sound : (c : Bool) (r : Word) → wired_sound (read_call w c r).wired ≡ true
  unfolding read_call
  read-sound c r = flushed-sound (claimed_in w c r) (steady-claimed_in w s c r)

  pub write-sound : (c : Bool) (r : Word) → Within r → (v : ℕ) → wired_sound (write_call w c r v).wired ≡ true
  unfolding write_call
  write-sound c r b v = flushed-sound (written_in w c r v) (steady-written_in w s c r b v)
