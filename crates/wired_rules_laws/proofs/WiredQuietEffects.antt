-- What can be sent after a change to a controller that has sent all: a wire changes one domain at most, a
-- write leaves the other domain with all sent, and a read or a write to genmsi or a target leaves both so. No
-- contract cites this file. Assumes nothing.
use Prim.Native.Nat.{ℕ, ◌≤◌, ◌<◌}
use mathlib.Core.Path.{◌≡◌, refl}
use mathlib.Core.Bool.{Bool, true, false, beq, not}
use mathlib.Core.Logic.{◌⊎◌, inl, inr, ⊎_elim}
use lib.Dec.{eqb, leb}
use borrow.Author.Tests.{eqb-true, leb-true}
use Rattle.words.specs.Sets.{member}
use Rattle.words.proofs.TestsLaws.{tested, or_cases}
use Rattle.source_mode.specs.Mode.{source_word}
use Rattle.source_mode.proofs.ModeLaws.{active-zero}
use Rattle.domain_region.specs.Region.{Within}
use Rattle.domain_region.specs.declared.Word.{Word}
use Rattle.domain_region.specs.declared.Word.TheVariants.{Genmsi, Target}
use Rattle.source.specs.Pending.{retargeted}
use Rattle.source_laws.proofs.SentEffects.{sent-retargeted}
use Rattle.domain.specs.Domain.{Domain, by_messages, sends}
use Rattle.domain.specs.Slot.{source_at}
use Rattle.domain_writes.specs.Writes.{target_written}
use Rattle.domain_registers.specs.Read.{claimed_by}
use Rattle.domain_registers.specs.Write.{register_written}
use Rattle.wired_state.specs.Wires.{Wired, domain_in, with_domain, wire_set, is_delegated}
use Rattle.wired_registers.specs.Wired.{claimed_in, part_written}
use Rattle.wired_sourcecfg.specs.Delegation.{child_written, machine_written, source_written}
use Rattle.wired_registers.specs.Wired.{written_as, written_in}
use Rattle.wired_sourcecfg.proofs.DelegationLaws.{machine-stays, machine-moves}
use Rattle.wired_registers.proofs.WiredLaws.{written-cases}
use Rattle.wired_rules.specs.Rules.{delegated_rule}
use Rattle.wired_rules_laws.specs.Steady.{Quiet, WiredSteady, WiredQuiet}
use Rattle.wired_rules_laws.proofs.QuietEffects.{quiet-started, quiet-with_source}
use Rattle.wired_rules_laws.proofs.DomaincfgEffects.{quiet-genmsi_written}
use Rattle.wired_rules_laws.proofs.ReadEffects.{quiet-claimed_by}
use Rattle.wired_rules_laws.proofs.SourceEffects.{active-high, source_wired-inactive}
use Rattle.wired_rules_laws.proofs.WiredEffects.{steady-domain_in}

-- ---- a wire: a source is active in one domain at most

module _ (w : Wired) (i : ℕ) (level : Bool) where
  wire-delegated : is_delegated w i ≡ true → (wire_set w i level).machine ≡ w.machine
  unfolding wire_set is_delegated
  wire-delegated t =
      source_wired-inactive w.machine i (member w.wires i) level
      (active-high (source_at w.machine i).mode (leb-true 1024 (source_at w.machine i).mode t))

  wire-own : eqb (source_at w.child i).mode 0 ≡ true → (wire_set w i level).child ≡ w.child
  unfolding wire_set
  wire-own t =
      source_wired-inactive w.child i (member w.wires i) level
      (active-zero (source_at w.child i).mode (eqb-true (source_at w.child i).mode 0 t))

  pub wire_set-one : WiredSteady w → 1 ≤ i → i < 64
      → ((wire_set w i level).machine ≡ w.machine) ⊎ ((wire_set w i level).child ≡ w.child)
  unfolding delegated_rule
  wire_set-one s l h =
      ⊎_elim (λ t. inl (wire-delegated t)) (λ t. inr (wire-own t))
      (or_cases (is_delegated w i) (eqb (source_at w.child i).mode 0) (s.delegated i l h))

-- ---- one domain replaced

pub other-with_domain : (w : Wired) (c : Bool) (d : Domain)
    → domain_in (with_domain w c d) (not c) ≡ domain_in w (not c)
unfolding domain_in with_domain
other-with_domain w true d = refl
other-with_domain w false d = refl

module _ (w : Wired) (q : WiredQuiet w) where
  pub quiet-domain_in : (c : Bool) → Quiet (domain_in w c)
  unfolding domain_in
  quiet-domain_in true = q.child
  quiet-domain_in false = q.machine

  quiet-with_domain : (c : Bool) (d : Domain) → Quiet d → WiredQuiet (with_domain w c d)
  unfolding with_domain
  quiet-with_domain true d e = record { machine = q.machine; child = e }
  quiet-with_domain false d e = record { machine = e; child = q.child }

  pub quiet-claimed_in : (c : Bool) (r : Word) → WiredQuiet (claimed_in w c r)
  quiet-claimed_in c r =
      quiet-with_domain c (claimed_by (domain_in w c) r)
      (quiet-claimed_by (domain_in w c) (quiet-domain_in c) r)

  module _ (s : WiredSteady w) where
    pub quiet-genmsi : (c : Bool) (v : ℕ) → WiredQuiet (part_written w c Genmsi v)
    unfolding register_written
    quiet-genmsi c v =
        quiet-with_domain c (register_written c (domain_in w c) w.wires Genmsi v)
        (quiet-genmsi_written c w.wires (domain_in w c) (steady-domain_in w s c) v (quiet-domain_in c))

    pub quiet-written_in-genmsi : (c : Bool) (v : ℕ) → WiredQuiet (written_in w c Genmsi v)
    unfolding written_in written_as
    quiet-written_in-genmsi c v = quiet-genmsi c v

    -- a target: what is pending and enabled stays
    pub quiet-target : (c : Bool) (i : ℕ) → 1 ≤ i → i < 64 → (v : ℕ) → WiredQuiet
        (written_in w c (Target i) v)
    unfolding written_in written_as register_written target_written
    quiet-target c i l h v =
        let d = domain_in w c in
        let q' = quiet-domain_in c in
        let x = retargeted (source_at d i) c (by_messages d) v in
        let e = sent-retargeted (sends d) (source_at d i) (q' i l h) c (by_messages d) v in
        quiet-with_domain c (target_written c d i v)
        (quiet-with_source d q' i x e (steady-domain_in w s c).shaped l h)

    -- ---- a write: the other domain

    module _ (i : ℕ) (l : 1 ≤ i) (h : i < 64) (v : ℕ) where
      other-machine_written : Quiet (machine_written w i v).child
      other-machine_written =
          tested (beq (is_delegated w i) (leb 1024 (source_word false false v)))
          (λ t. rw (machine-stays w i v t) q.child)
          (λ f. rw (machine-moves w i v f) (quiet-started w.child q.child i s.child.shaped l h))

      other-source_written : (c : Bool) → Quiet (domain_in (source_written w c i v) (not c))
      unfolding domain_in source_written child_written
      other-source_written true = q.machine
      other-source_written false = other-machine_written

    pub quiet-other : (c : Bool) (r : Word) → Within r → (v : ℕ)
        → Quiet (domain_in (written_in w c r v) (not c))
    quiet-other c r b v =
        written-cases w c r v (λ (x : Wired). Quiet (domain_in x (not c))) b
        (rw (other-with_domain w c (register_written c (domain_in w c) w.wires r v))
        (quiet-domain_in (not c)))
        (λ i l h. other-source_written i l h v c)
