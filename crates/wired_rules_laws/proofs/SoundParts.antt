-- The state rules, a computed test, taken apart into the two halves of specs/Steady.antt, and put together.
-- No contract cites this file. Assumes nothing.
use Prim.Native.Nat.{ℕ, ◌≤◌, ◌<◌}
use mathlib.Core.Path.{◌≡◌}
use mathlib.Core.Bool.{Bool, true, false, ◌&&◌}
use mathlib.Core.List.{List}
use native.Mathlib.Omega.{arith}
use lib.ListN.{length}
use Rattle.words.specs.Sets.{member}
use Rattle.words.proofs.TestsLaws.{and_first, and_second, and_both}
use Rattle.domain.specs.Domain.{Domain, by_messages, sends}
use Rattle.domain.specs.Slot.{source_at}
use Rattle.domain_laws.specs.Shape.{DomainShaped}
use Rattle.wired_state.specs.Wires.{Wired}
use Rattle.source_rules.specs.SourceRules.{source_steady, sent_rule, source_sound}
use Rattle.words.specs.Every.{every}
use Rattle.wired_rules.specs.Rules.{domaincfg_range, genmsi_range, structure_range, source_zero_rule}
use Rattle.wired_rules.specs.Rules.{genmsi_rule}
use Rattle.wired_rules.specs.Rules.{source_rule, domain_sound, delegated_rule, wired_sound}
use Rattle.words.proofs.EveryLaws.{every-each, every_of}
use Rattle.wired_rules_laws.specs.Steady.{Steady, Quiet, WiredSteady, WiredQuiet}

-- ---- a joined test

four : (a b c d : Bool) → (a && b && c && d) ≡ true → (a ≡ true) × (b ≡ true) × (c ≡ true) × (d ≡ true)
four a b c d e =
    let abc = and_first (a && b && c) d e in
    let ab = and_first (a && b) c abc in
    (and_first a b ab, and_second a b ab, and_second (a && b) c abc, and_second (a && b && c) d e)

-- ---- a domain

module _ (c : Bool) (ws : List ℕ) (d : Domain) where
  -- the rules of source i
  abbrev rule-steady : ℕ → Bool
  rule-steady i = source_steady c (by_messages d) (member ws i) (source_at d i)

  abbrev rule-sent : ℕ → Bool
  rule-sent i = sent_rule (sends d) (source_at d i)

  rule-joined : (i : ℕ) → rule-steady i ≡ true → rule-sent i ≡ true → source_rule c ws d i ≡ true
  unfolding source_rule source_sound
  rule-joined i = and_both (rule-steady i) (rule-sent i)

  -- the rules of a domain in two groups
  abbrev own : Bool
  own = domaincfg_range d && genmsi_range d && genmsi_rule d && source_zero_rule d.pending

  module _ (e : domain_sound c ws d ≡ true) where
    later : (own ≡ true) × (source_zero_rule d.enable ≡ true) × (every (structure_range d) 0 4 ≡ true)
        × (every (source_rule c ws d) 1 63 ≡ true)
    unfolding domain_sound
    later =
        four own (source_zero_rule d.enable) (every (structure_range d) 0 4) (every (source_rule c ws d) 1 63)
        e

    first : (domaincfg_range d ≡ true) × (genmsi_range d ≡ true) × (genmsi_rule d ≡ true)
        × (source_zero_rule d.pending ≡ true)
    first = four (domaincfg_range d) (genmsi_range d) (genmsi_rule d) (source_zero_rule d.pending) later.0

    rule : (i : ℕ) → 1 ≤ i → i < 64 → (rule-steady i && rule-sent i) ≡ true
    unfolding source_rule source_sound
    rule = every-each (source_rule c ws d) 1 63 later.3

    pub sound-steady : DomainShaped d → Steady c ws d
    sound-steady shaped =
        record {
          shaped = shaped;
          domaincfg = first.0;
          genmsi-range = first.1;
          genmsi = first.2;
          structures = λ h q. every-each (structure_range d) 0 4 later.2 h (omega arith) q;
          pending-zero = first.3;
          enable-zero = later.1;
          source = λ i l h. and_first (rule-steady i) (rule-sent i) (rule i l h);
        }

    pub sound-quiet : Quiet d
    sound-quiet i l h = and_second (rule-steady i) (rule-sent i) (rule i l h)

  pub sound-joined : Steady c ws d → Quiet d → domain_sound c ws d ≡ true
  unfolding domain_sound
  sound-joined s q =
      let structures = every_of (structure_range d) 0 4 (λ h l u. s.structures h u) in
      let sources =
      every_of (source_rule c ws d) 1 63 (λ i l h. rule-joined i (s.source i l h) (q i l h)) in
      rw (s.domaincfg, s.genmsi-range, s.genmsi, s.pending-zero, s.enable-zero, structures, sources)

-- ---- the controller

module _ (w : Wired) where
  module _ (e : wired_sound w ≡ true) where
    parts : (source_zero_rule w.wires ≡ true) × (domain_sound false w.wires w.machine ≡ true)
        × (domain_sound true w.wires w.child ≡ true) × (every (delegated_rule w) 1 63 ≡ true)
    unfolding wired_sound
    parts =
        four (source_zero_rule w.wires) (domain_sound false w.wires w.machine)
        (domain_sound true w.wires w.child) (every (delegated_rule w) 1 63) e

    pub wired-sound-steady : length w.wires ≡ 2 → DomainShaped w.machine → DomainShaped w.child
        → WiredSteady w
    wired-sound-steady long r c =
        record {
          long = long;
          zero = parts.0;
          machine = sound-steady false w.wires w.machine parts.1 r;
          child = sound-steady true w.wires w.child parts.2 c;
          delegated = every-each (delegated_rule w) 1 63 parts.3;
        }

    pub wired-sound-quiet : WiredQuiet w
    wired-sound-quiet =
        record {
          machine = sound-quiet false w.wires w.machine parts.1;
          child = sound-quiet true w.wires w.child parts.2;
        }

  pub wired-sound-joined : WiredSteady w → WiredQuiet w → wired_sound w ≡ true
  unfolding wired_sound
  wired-sound-joined s q =
      let machine = sound-joined false w.wires w.machine s.machine q.machine in
      let child = sound-joined true w.wires w.child s.child q.child in
      rw (s.zero, machine, child) (every_of (delegated_rule w) 1 63 s.delegated)
