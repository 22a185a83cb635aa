-- A wire that is set on two controllers that differ in targets of the child: they differ in just those after
-- it, and what they send differs in the target alone. No contract cites this file. Assumes nothing.
--   ..-targets    what is done to a domain, and to it with other targets
use Prim.Native.Nat.{ℕ, zero, suc, ◌≤◌, ◌<◌}
use mathlib.Core.Path.{◌≡◌, refl, sym, ap, ap₂, ◌∙◌}
use mathlib.Core.Bool.{Bool, true, false, ◌&&◌}
use mathlib.Core.List.{List, [], ◌∷◌}
use mathlib.Core.Logic.{◌⊎◌, inl, inr, ⊎_elim}
use lib.ListN.{get_or}
use Rattle.words.specs.Sets.{member, put}
use Rattle.words.proofs.TestsLaws.{tested, and_first, and_second}
use Rattle.source_target.specs.Target.{message_of}
use Rattle.source.specs.Pending.{settled, wire_changed}
use Rattle.domain.specs.Domain.{Domain, domaincfg_of, is_enabled, by_messages, sends, with_targets}
use Rattle.domain.specs.Domain.{with_pendings}
use Rattle.domain.specs.Slot.{source_at}
use Rattle.domain.proofs.DomainLaws.{domain-path}
use Rattle.domain_laws.proofs.SlotEffects.{with_source-pending, with_source-unpended}
use Rattle.wired_state.specs.Wires.{Wired, domain_in, source_wired, wire_set}
use Rattle.domain_sending.specs.Sending.{candidate, Sent, served_at, sent_from, sent}
use Rattle.domain_sending.proofs.SendingLaws.{served-hit, served-miss, sent-on, sent-off}
use Rattle.domain_sending_laws.specs.Candidates.{message_at, DomainPendingOnly}
use Rattle.domain_sending_laws.proofs.SendingEffects.{sent-rest}
use Rattle.wired_rules_laws.specs.Steady.{WiredSteady, WiredQuiet}
use Rattle.wired.specs.Controller.{flushed, wire_call}
use Rattle.wired_laws.proofs.WireEffects.{wire-message, wire-silent}
use Rattle.board_move_wired_laws.specs.Retargeted.{TargetsOnly, Same, Rewritten, TargetsMoved}

-- ---- the child of the one is that of the other with other targets

pub only_child : {w u : Wired} → TargetsOnly w u → w.child ≡ with_targets u.child w.child.target
only_child r = domain-path r.source refl r.pending r.enable r.delivery

pub child-only : (w u : Wired) → w.wires ≡ u.wires → w.machine ≡ u.machine
    → (ts : List ℕ) → w.child ≡ with_targets u.child ts → TargetsOnly w u
child-only w u wires machine ts e =
    record {
      wires = wires;
      machine = machine;
      source = ap (λ (d : Domain). d.source) e;
      pending = ap (λ (d : Domain). d.pending) e;
      enable = ap (λ (d : Domain). d.enable) e;
      delivery = ap (λ (d : Domain). d.delivery) e;
    }

-- so it delivers in the same mode
pub only-messages : {w u : Wired} → TargetsOnly w u → by_messages w.child ≡ by_messages u.child
unfolding by_messages domaincfg_of
only-messages r = ap by_messages (only_child r)

-- ---- a domain with other targets

-- a wire changes a pending bit, and no target has a say in it
wired-pending : (d : Domain) (i : ℕ) (was is : Bool)
    → let s = wire_changed (source_at d i) (by_messages d) was is in
    source_wired d i was is ≡ with_pendings d (put d.pending i s.pending)
unfolding source_wired wire_changed settled
wired-pending d i was is = sym (with_source-pending d i _)

wired-targets : (d : Domain) (ts : List ℕ) (i : ℕ) (was is : Bool)
    → source_wired (with_targets d ts) i was is ≡ with_targets (source_wired d i was is) ts
unfolding wire_changed settled source_at by_messages domaincfg_of
wired-targets d ts i was is =
    wired-pending (with_targets d ts) i was is
    ∙ sym (ap (λ (e : Domain). with_targets e ts) (wired-pending d i was is))

served-targets : (d : Domain) (ts : List ℕ) (i : ℕ)
    → served_at (with_targets d ts) i ≡ with_targets (served_at d i) ts
unfolding candidate source_at
served-targets d ts i =
    let d' = with_targets d ts in
    tested (candidate (source_at d i))
    (λ t. served-hit d' i t ∙ with_source-unpended d' i
    ∙ sym (ap (λ (e : Domain). with_targets e ts) (served-hit d i t ∙ with_source-unpended d i)))
    (λ f. served-miss d' i f ∙ sym (ap (λ (e : Domain). with_targets e ts) (served-miss d i f)))

from-targets : (c : Bool) (d : Domain) (ts : List ℕ) (i n : ℕ)
    → (sent_from c (with_targets d ts) i n).domain ≡ with_targets (sent_from c d i n).domain ts
unfolding sent_from
from-targets c d ts i zero = refl
from-targets c d ts i (suc n) =
    ap (λ (e : Domain). (sent_from c e (suc i) n).domain) (served-targets d ts i)
    ∙ from-targets c (served_at d i) ts (suc i) n

sent-targets : (c : Bool) (d : Domain) (ts : List ℕ)
    → (sent c (with_targets d ts)).domain ≡ with_targets (sent c d).domain ts
unfolding is_enabled by_messages domaincfg_of
sent-targets c d ts =
    let d' = with_targets d ts in
    tested (sends d)
    (λ t. ap (λ (r : Sent). r.domain) (sent-on c d' t) ∙ from-targets c d ts 1 63
    ∙ sym (ap (λ (r : Sent). with_targets r.domain ts) (sent-on c d t)))
    (λ f. ap (λ (r : Sent). r.domain) (sent-off c d' f)
    ∙ sym (ap (λ (r : Sent). with_targets r.domain ts) (sent-off c d f)))

-- ---- the call on one controller

-- a domain after the call, where the wires were ws
abbrev after : Bool → ℕ → Bool → Domain → List ℕ → Domain
after c i level d ws = (sent c (source_wired d i (member ws i) level)).domain

after-rest : (c : Bool) (i : ℕ) (level : Bool) (d : Domain) (ws : List ℕ)
    → DomainPendingOnly d (after c i level d ws)
after-rest c i level d ws =
    let rest = sent-rest c (source_wired d i (member ws i) level) in
    let e = wired-pending d i (member ws i) level in
    record {
      source = rest.source ∙ ap (λ (x : Domain). x.source) e;
      target = rest.target ∙ ap (λ (x : Domain). x.target) e;
      enable = rest.enable ∙ ap (λ (x : Domain). x.enable) e;
      delivery = rest.delivery ∙ ap (λ (x : Domain). x.delivery) e;
    }

module _ (w : Wired) (i : ℕ) (level : Bool) where
  -- the pending bits of both domains are all that changes, besides the wire
  pub wire-frame : (c : Bool) → DomainPendingOnly (domain_in w c) (domain_in (wire_call w i level).wired c)
  unfolding domain_in wire_call flushed wire_set
  wire-frame true = after-rest true i level w.child w.wires
  wire-frame false = after-rest false i level w.machine w.wires

  pub wire-wires : (wire_call w i level).wired.wires ≡ put w.wires i level
  unfolding wire_call flushed wire_set
  wire-wires = refl

  pub wire-target : (j : ℕ)
      → (source_at (wire_call w i level).wired.child j).target ≡ (source_at w.child j).target
  unfolding source_at domain_in
  wire-target j = ap (λ (ts : List ℕ). get_or ts j 0) (wire-frame true).target

-- ---- the call on both

after-targets : (i : ℕ) (level : Bool) (d : Domain) (ws ts : List ℕ)
    → after true i level (with_targets d ts) ws ≡ with_targets (after true i level d ws) ts
after-targets i level d ws ts =
    ap (λ (e : Domain). (sent true e).domain) (wired-targets d ts i (member ws i) level)
    ∙ sent-targets true (source_wired d i (member ws i) level) ts

module _ {w u : Wired} (r : TargetsOnly w u) (i : ℕ) (level : Bool) where
  pub wire-related : TargetsOnly (wire_call w i level).wired (wire_call u i level).wired
  unfolding wire_call flushed wire_set
  wire-related =
      child-only (wire_call w i level).wired (wire_call u i level).wired
      (ap (λ (ws : List ℕ). put ws i level) r.wires) (ap₂ (after false i level) r.machine r.wires)
      w.child.target
      (ap₂ (after true i level) (only_child r) r.wires
      ∙ after-targets i level u.child u.wires w.child.target)

-- no target changes
pub targets-wire : (oh of nh nf n : ℕ) (w u : Wired) → TargetsMoved oh of nh nf n w u
    → (i : ℕ) (level : Bool)
    → TargetsMoved oh of nh nf n (wire_call w i level).wired (wire_call u i level).wired
targets-wire oh of nh nf n w u m i level j l h =
    rw (wire-target w i level j, wire-target u i level j) (m j l h)

-- ---- what the call sends on both

-- source i of a domain is to be sent once its wire is set, where the wires were ws
abbrev due : ℕ → Bool → Domain → List ℕ → Bool
due i level d ws = sends d && candidate (wire_changed (source_at d i) (by_messages d) (member ws i) level)

-- no target has a say in it
due-same : {w u : Wired} → TargetsOnly w u → (i : ℕ) (level c : Bool)
    → due i level (domain_in w c) w.wires ≡ due i level (domain_in u c) u.wires
unfolding domain_in candidate wire_changed settled source_at is_enabled by_messages domaincfg_of
due-same r i level true = ap₂ (due i level) (only_child r) r.wires
due-same r i level false = ap₂ (due i level) r.machine r.wires

module _ (w : Wired) (s : WiredSteady w) (q : WiredQuiet w) (i : ℕ) (l : 1 ≤ i) (h : i < 64)
    (level : Bool) where
  due-sent : (c : Bool) → due i level (domain_in w c) w.wires ≡ true
      → (wire_call w i level).messages ≡ message_at c (domain_in w c) i ∷ []
  due-sent c t =
      let d = domain_in w c in
      let y = candidate (wire_changed (source_at d i) (by_messages d) (member w.wires i) level) in
      wire-message w s q i l h level c (and_first (sends d) y t) (and_second (sends d) y t)

module _ {w u : Wired} (r : TargetsOnly w u) (sw : WiredSteady w) (qw : WiredQuiet w) (su : WiredSteady u)
    (qu : WiredQuiet u) (i : ℕ) (l : 1 ≤ i) (h : i < 64) (level : Bool) where
  -- the messages of the two calls
  abbrev Both : List ℕ → List ℕ → Type 0
  Both ms ms' = ((wire_call w i level).messages ≡ ms) × ((wire_call u i level).messages ≡ ms')

  both-sent : (c : Bool) → due i level (domain_in w c) w.wires ≡ true
      → Both (message_at c (domain_in w c) i ∷ []) (message_at c (domain_in u c) i ∷ [])
  both-sent c t =
      (due-sent w sw qw i l h level c t, due-sent u su qu i l h level c (sym (due-same r i level c) ∙ t))

  -- none, or the same of the machine domain, or those of the child, each to the target that stands there
  pub wire-both : Both [] [] ⊎ Both (message_at false w.machine i ∷ [])
      (message_at false w.machine i ∷ [])
      ⊎ Both (message_at true w.child i ∷ []) (message_at true u.child i ∷ [])
  unfolding domain_in
  wire-both =
      let on : Bool → Bool = λ c. due i level (domain_in w c) w.wires in
      tested (on true) (λ t. inr (inr (both-sent true t)))
      (λ f. tested (on false)
      (λ t. inr (inl ((both-sent false t).0, rw r.machine (both-sent false t).1)))
      (λ g. let none : (c : Bool) → on c ≡ false = elim [ true ↦ f | false ↦ g ] in
      inl (
        wire-silent w sw qw i l h level none,
        wire-silent u su qu i l h level (λ c. sym (due-same r i level c) ∙ none c),
      )))

  -- and in the middle of a move those two targets are one, or the first is the second rewritten
  pub wire-moved : (oh of nh nf n : ℕ) → TargetsMoved oh of nh nf n w u
      → let t = (source_at w.child i).target in
      let t' = (source_at u.child i).target in
      Both [] [] ⊎ Both (message_at false w.machine i ∷ []) (message_at false w.machine i ∷ [])
      ⊎ (Both (message_of true t ∷ []) (message_of true t' ∷ [])
      × (Same oh of nh nf n i t t' ⊎ Rewritten oh of nh nf n i t t'))
  wire-moved oh of nh nf n m =
      ⊎_elim inl (λ e. inr (⊎_elim inl (λ b. inr (b, m i l h)) e)) wire-both
