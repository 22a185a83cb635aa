-- The state rules in two halves: those that hold also in the middle of a call, before anything is sent, and
-- that everything has been sent. 01, "State rules". Assumes nothing.
--   Steady c ws d         every rule of a domain but the one that it has sent all; ws are the wires
--   DomainKept c ws d d'  d' is steady and has the sourcecfg words of d
--   Quiet d               the domain has sent all
--   WiredSteady w         every rule of the controller but that its domains have sent all
--   WiredQuiet w          both domains have sent all
--   passed w              w after the pass of messages of both domains
-- c says that the domain is the child.
use Rattle.std.specs.Prelude.{ℕ, ◌≤◌, ◌<◌, ◌≡◌, Bool, true, false, List, length}
use Rattle.sizes.specs.Sizes.{hart_count, slot_count, source_set_size}
use Rattle.words.specs.Sets.{member}
use Rattle.domain.specs.Domain.{Domain, by_messages, sends}
use Rattle.domain.specs.Slot.{source_at}
use Rattle.domain_laws.specs.Shape.{DomainShaped}
use Rattle.wired_state.specs.Wires.{Wired}
use Rattle.wired_state.specs.Pass.{flushed}
use Rattle.source_rules.specs.SourceRules.{source_steady, sent_rule}
use Rattle.wired_rules.specs.Rules.{domaincfg_range, genmsi_range, structure_range, source_zero_rule}
use Rattle.wired_rules.specs.Rules.{genmsi_rule}
use Rattle.wired_rules.specs.Rules.{delegated_rule}

pub record Steady (c : Bool) (ws : List ℕ) (d : Domain) : Type 0 where
  pub shaped : DomainShaped d
  pub domaincfg : domaincfg_range d ≡ true
  pub genmsi-range : genmsi_range d ≡ true
  pub genmsi : genmsi_rule d ≡ true
  pub structures : (h : ℕ) → h < hart_count → structure_range d h ≡ true
  pub pending-zero : source_zero_rule d.pending ≡ true
  pub enable-zero : source_zero_rule d.enable ≡ true
  pub source : (i : ℕ) → 1 ≤ i → i < slot_count → source_steady c (by_messages d) (member ws i)
      (source_at d i)
      ≡ true

pub record DomainKept (c : Bool) (ws : List ℕ) (d d' : Domain) : Type 0 where
  pub steady : Steady c ws d'
  pub modes : (i : ℕ) → 1 ≤ i → i < slot_count → (source_at d' i).mode ≡ (source_at d i).mode

abbrev pub Quiet : Domain → Type 0
Quiet d = (i : ℕ) → 1 ≤ i → i < slot_count → sent_rule (sends d) (source_at d i) ≡ true

pub record WiredSteady (w : Wired) : Type 0 where
  pub long : length w.wires ≡ source_set_size
  pub zero : source_zero_rule w.wires ≡ true
  pub machine : Steady false w.wires w.machine
  pub child : Steady true w.wires w.child
  pub delegated : (i : ℕ) → 1 ≤ i → i < slot_count → delegated_rule w i ≡ true

pub record WiredQuiet (w : Wired) : Type 0 where
  pub machine : Quiet w.machine
  pub child : Quiet w.child

abbrev pub passed : Wired → Wired
passed w = (flushed w).wired
