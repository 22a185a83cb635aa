-- Claims 72 to 75: what the contract of the test says is the claim itself, the test is its plain statements,
-- and the operations keep the rules by the laws of wired_rules_laws. Assumes nothing.
use Prim.Native.Nat.{ℕ, ◌≤◌, ◌<◌}
use mathlib.Core.Path.{◌≡◌, sym, ap, ◌∙◌}
use mathlib.Core.Bool.{Bool, true, false, ◌&&◌}
use mathlib.Core.List.{List}
use mathlib.Core.Logic.{◌≢◌}
use native.Mathlib.Omega.{arith}
use lib.ListN.{length-take}
use borrow.Author.Tests.{eqb-true, eq-eqb, leb-false, not-true}
use Rattle.words.specs.Sets.{member}
use Rattle.words.proofs.TestsLaws.{tested, not_same}
use Rattle.source_mode.specs.Mode.{is_active}
use Rattle.source_mode.proofs.ModeLaws.{active-zero}
use Rattle.domain_delivery.proofs.DeliveryLaws.{sound-iff}
use Rattle.domain.specs.Domain.{Domain, domaincfg_of, is_enabled, by_messages, genmsi_of}
use Rattle.domain.specs.Slot.{source_at}
use Rattle.domain.specs.Structure.{structure_at}
use Rattle.domain_laws.specs.Shape.{DomainShaped}
use Rattle.domain_laws.proofs.SlotEffects.{domain_of-shaped}
use Rattle.wired_state.specs.Wires.{Wired, wired_of, is_delegated}
use Rattle.wired_state.specs.Pass.{flushed}
use Rattle.wired_state.proofs.WiresLaws.{machine-long, child-long}
use Rattle.source_laws.proofs.ModeEffects.{active-delegated}
use Rattle.wired_rules.specs.Rules.{domaincfg_range, genmsi_range, structure_range, source_zero_rule}
use Rattle.wired_rules.specs.Rules.{genmsi_rule}
use Rattle.wired_rules.specs.Rules.{delegated_rule, wired_sound}
use Rattle.wired_rules_laws.specs.Steady.{Steady, Quiet, WiredSteady}
use Rattle.wired_rules_laws.proofs.SoundParts.{wired-sound-steady, wired-sound-quiet, wired-sound-joined}
use Rattle.wired_rules_laws.proofs.WiredEffects.{delegated-yes, delegated-zero, steady-wire_set}
use Rattle.wired_rules_laws.proofs.WiredEffects.{steady-claimed_in}
use Rattle.wired_rules_laws.proofs.WiredEffects.{steady-passed, sound-passed}
use Rattle.wired_rules_laws.proofs.DelegationEffects.{steady-written_in}
use Rattle.wired_rules_laws.proofs.WiredSameEffects.{delegated-word}
use Rattle.claims_registers.specs.Rules.{Long, Sound, DomainRules}
use Rattle.claims_registers.specs.Rules.{WiredRules, all_sent, Claim-72, Claim-73, Claim-74, Claim-75}
use Rattle.claims_registers.proofs.SourceRules.{domaincfg-is, genmsi-is, source-on, source_of}
use Rattle.claims_registers.proofs.SourceRules.{source-sent}

pub claim-72 : Claim-72
unfolding Claim-72 wired_of
claim-72 = (
  (λ l b r learnt. learnt),
  λ l long. (
    simp length-take (omega arith),
    domain_of-shaped _ (machine-long l long),
    domain_of-shaped _ (child-long l long),
  ),
  λ d. (
    (λ s. (s.sources, s.targets, s.pendings, s.enables, s.deliveries)),
    (λ p. record { sources = p.0; targets = p.1; pendings = p.2; enables = p.3; deliveries = p.4 }),
  ),
)

-- ---- a domain

module _ (c : Bool) (ws : List ℕ) (d : Domain) where
  domain-on : Steady c ws d → Quiet d → DomainRules c ws d
  unfolding domaincfg_range genmsi_range structure_range source_zero_rule genmsi_rule is_enabled by_messages
  domain-on s q =
      let range = eqb-true (domaincfg_of d) _ s.domaincfg in
      let genmsi = eqb-true (genmsi_of d) _ s.genmsi-range in
      record {
        domaincfg = range ∙ domaincfg-is (domaincfg_of d);
        genmsi = genmsi ∙ genmsi-is (genmsi_of d);
        direct = λ f. eqb-true (genmsi_of d) 0 (rw f at s.genmsi);
        structures = λ h l. let p = (sound-iff (structure_at d h)).0 (s.structures h l) in
            (p.0, p.1, omega (arith, p.2));
        zero = (not-true _ s.pending-zero, not-true _ s.enable-zero);
        sources = λ i l h. source-on c (by_messages d) (is_enabled d && by_messages d) (member ws i)
            (source_at d i) (s.source i l (omega arith)) (q i l (omega arith));
      }

  module _ (r : DomainRules c ws d) where
    domain-of : DomainShaped d → Steady c ws d
    unfolding domaincfg_range genmsi_range structure_range source_zero_rule genmsi_rule is_enabled by_messages
    domain-of shaped =
        record {
          shaped = shaped;
          domaincfg = eq-eqb (domaincfg_of d) _ (r.domaincfg ∙ sym (domaincfg-is (domaincfg_of d)));
          genmsi-range = eq-eqb (genmsi_of d) _ (r.genmsi ∙ sym (genmsi-is (genmsi_of d)));
          genmsi = tested (by_messages d) (λ t. rw t)
              (λ f. rw f (eq-eqb (genmsi_of d) 0 (r.direct f)));
          structures = λ h l. let p = r.structures h l in
              (sound-iff (structure_at d h)).1 (p.0, p.1, omega (arith, p.2));
          pending-zero = rw r.zero.0;
          enable-zero = rw r.zero.1;
          source = λ i l h. source_of c (by_messages d) (is_enabled d && by_messages d) (member ws i)
              (source_at d i) (r.sources i l (omega arith));
        }

    domain-sent : Quiet d
    domain-sent i l h =
        source-sent c (by_messages d) (is_enabled d && by_messages d) (member ws i) (source_at d i)
        (r.sources i l (omega arith))

-- ---- the controller

module _ (w : Wired) where
  rules-on : Long w → wired_sound w ≡ true → WiredRules w
  unfolding source_zero_rule delegated_rule
  rules-on long e =
      let s = wired-sound-steady w e long.0 long.1 long.2 in
      let q = wired-sound-quiet w e in
      record {
        zero = not-true _ s.zero;
        machine = domain-on false w.wires w.machine s.machine q.machine;
        child = domain-on true w.wires w.child s.child q.child;
        undelegated = λ i l h n. let at = s.delegated i l (omega arith) in
            tested (is_delegated w i) (λ t. absurd (n (delegated-word w s i l (omega arith) t)))
            (λ f. eqb-true (source_at w.child i).mode 0 (rw f at at));
      }

  delegated-of : WiredRules w → (i : ℕ) → 1 ≤ i → i < 64 → delegated_rule w i ≡ true
  unfolding is_delegated
  delegated-of r i l h =
      tested (is_delegated w i) (delegated-yes w i)
      (λ f. delegated-zero w i (r.undelegated i l (omega arith)
      (λ e. omega (arith, leb-false 1024 (source_at w.machine i).mode f))))

  rules-of : Long w → WiredRules w → wired_sound w ≡ true
  unfolding source_zero_rule
  rules-of long r =
      wired-sound-joined w
      record {
        long = long.0;
        zero = rw r.zero;
        machine = domain-of false w.wires w.machine r.machine long.1;
        child = domain-of true w.wires w.child r.child long.2;
        delegated = delegated-of r;
      }
      record {
        machine = domain-sent false w.wires w.machine r.machine;
        child = domain-sent true w.wires w.child r.child;
      }

pub claim-73 : Claim-73
unfolding Claim-73
claim-73 w long = (rules-on w long, rules-of w long)

-- ---- they are kept

sound-steady : (w : Wired) → Sound w → WiredSteady w
sound-steady w p = wired-sound-steady w p.1 p.0.0 p.0.1 p.0.2

sound-after : (w : Wired) → WiredSteady w → Sound (all_sent w)
unfolding flushed
sound-after w s =
    let after = steady-passed w s in
    ((after.long, after.machine.shaped, after.child.shaped), sound-passed w s)

pub claim-74 : Claim-74
unfolding Claim-74
claim-74 w p =
    let s = sound-steady w p in (
      λ i l h level. sound-after _ (steady-wire_set w s i l (omega arith) level),
      λ c r q v. sound-after _ (steady-written_in w s c r q v),
      λ c r. sound-after _ (steady-claimed_in w s c r),
    )

pub claim-75 : Claim-75
unfolding Claim-75
claim-75 w p i l h a =
    let other : (source_at w.machine i).mode ≢ 1024 =
    λ e. not_same (is_active (source_at w.machine i).mode) a (ap is_active e ∙ active-delegated) in
    active-zero (source_at w.child i).mode ((rules-on w p.0 p.1).undelegated i l h other)
