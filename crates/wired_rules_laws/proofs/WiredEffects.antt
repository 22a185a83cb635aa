-- A wire, a read, a write and the pass of messages keep the rules of the controller. No contract cites this
-- file. Assumes nothing.
use Prim.Native.Nat.{ℕ, ◌≤◌, ◌<◌}
use mathlib.Core.Path.{◌≡◌, ◌∙◌}
use mathlib.Core.Bool.{Bool, true, false, or-true}
use mathlib.Core.List.{List}
use native.Mathlib.Omega.{arith}
use lib.ListN.{length}
use borrow.Author.Tests.{eq-eqb}
use Rattle.words.specs.Sets.{put}
use Rattle.words.proofs.SetsLaws.{member-put-other, length-put}
use Rattle.domain_region.specs.Region.{Within}
use Rattle.domain_region.specs.declared.Word.{Word}
use Rattle.domain.specs.Domain.{Domain}
use Rattle.domain.specs.Slot.{source_at}
use Rattle.domain_registers.specs.Read.{claimed_by}
use Rattle.domain_registers.specs.Write.{register_written}
use Rattle.wired_state.specs.Wires.{Wired, domain_in, with_domain, wire_set, is_delegated}
use Rattle.wired_state.specs.Pass.{flushed}
use Rattle.wired_registers.specs.Wired.{claimed_in, part_written}
use Rattle.wired_rules.specs.Rules.{source_zero_rule, delegated_rule, wired_sound}
use Rattle.wired_rules_laws.specs.Steady.{Steady, DomainKept, WiredSteady, WiredQuiet, passed}
use Rattle.wired_rules_laws.proofs.SoundParts.{wired-sound-joined}
use Rattle.wired_rules_laws.proofs.SteadyEffects.{kept-none}
use Rattle.wired_rules_laws.proofs.RegisterEffects.{kept-register_written}
use Rattle.wired_rules_laws.proofs.ReadEffects.{kept-claimed_by}
use Rattle.wired_rules_laws.proofs.PassEffects.{kept-sent, quiet-sent}
use Rattle.wired_rules_laws.proofs.SourceEffects.{kept-source_wired}

-- ---- the rule of delegation

module _ (w : Wired) (i : ℕ) where
  pub delegated-yes : is_delegated w i ≡ true → delegated_rule w i ≡ true
  unfolding delegated_rule
  delegated-yes t = rw t

  pub delegated-zero : (source_at w.child i).mode ≡ 0 → delegated_rule w i ≡ true
  unfolding delegated_rule
  delegated-zero z = rw (eq-eqb (source_at w.child i).mode 0 z, or-true)

  -- it goes by the sourcecfg words of the source
  pub delegated-same : (v : Wired) → (source_at v.machine i).mode ≡ (source_at w.machine i).mode
      → (source_at v.child i).mode ≡ (source_at w.child i).mode → delegated_rule v i ≡ delegated_rule w i
  unfolding delegated_rule is_delegated
  delegated-same v a b = rw (a, b)

-- ---- a change that leaves the sourcecfg words

module _ (w : Wired) (s : WiredSteady w) where
  wired-kept : (ws : List ℕ) (r c : Domain) → length ws ≡ 2 → source_zero_rule ws ≡ true
      → DomainKept false ws w.machine r → DomainKept true ws w.child c
      → WiredSteady record { wires = ws; machine = r; child = c }
  wired-kept ws r c long zero kr kc =
      record {
        long = long;
        zero = zero;
        machine = kr.steady;
        child = kc.steady;
        delegated = λ i l h. delegated-same w i record { wires = ws; machine = r; child = c }
            (kr.modes i l h) (kc.modes i l h) ∙ s.delegated i l h;
      }

  machine-none : DomainKept false w.wires w.machine w.machine
  machine-none = kept-none false w.wires w.machine s.machine

  child-none : DomainKept true w.wires w.child w.child
  child-none = kept-none true w.wires w.child s.child

  pub steady-domain_in : (c : Bool) → Steady c w.wires (domain_in w c)
  unfolding domain_in
  steady-domain_in true = s.child
  steady-domain_in false = s.machine

  -- in one domain
  wired-with_domain : (c : Bool) (d : Domain) → DomainKept c w.wires (domain_in w c) d
      → WiredSteady (with_domain w c d)
  unfolding with_domain domain_in
  wired-with_domain true d k = wired-kept w.wires w.machine d s.long s.zero machine-none k
  wired-with_domain false d k = wired-kept w.wires d w.child s.long s.zero k child-none

  pub steady-wire_set : (i : ℕ) → 1 ≤ i → i < 64 → (level : Bool) → WiredSteady (wire_set w i level)
  unfolding wire_set source_zero_rule
  steady-wire_set i l h level =
      wired-kept (put w.wires i level) _ _ (length-put w.wires i level ∙ s.long)
      (rw (member-put-other w.wires i level 0 (λ e. omega arith)) s.zero)
      (kept-source_wired false w.wires w.machine s.machine i l h s.long level)
      (kept-source_wired true w.wires w.child s.child i l h s.long level)

  pub steady-claimed_in : (c : Bool) (r : Word) → WiredSteady (claimed_in w c r)
  steady-claimed_in c r =
      wired-with_domain c (claimed_by (domain_in w c) r)
      (kept-claimed_by c w.wires (domain_in w c) (steady-domain_in c) r)

  pub steady-part_written : (c : Bool) (r : Word) → Within r → (v : ℕ) → WiredSteady (part_written w c r v)
  steady-part_written c r q v =
      wired-with_domain c (register_written c (domain_in w c) w.wires r v)
      (kept-register_written c w.wires (domain_in w c) (steady-domain_in c) r q v)

-- ---- the pass of messages of both domains, after which all is sent

pub quiet-passed : (w : Wired) → WiredQuiet (passed w)
unfolding flushed
quiet-passed w = record { machine = quiet-sent false w.machine; child = quiet-sent true w.child }

module _ (w : Wired) (s : WiredSteady w) where
  pub steady-passed : WiredSteady (passed w)
  unfolding flushed
  steady-passed =
      wired-kept w s w.wires _ _ s.long s.zero (kept-sent false w.wires w.machine s.machine)
      (kept-sent true w.wires w.child s.child)

  -- so every rule holds
  pub sound-passed : wired_sound (passed w) ≡ true
  sound-passed = wired-sound-joined (passed w) steady-passed (quiet-passed w)
