-- A wire that is set, with what is then sent, in a controller that keeps the rules: it changes its own source
-- alone, and sends that source's message or none. No contract cites this file. Assumes nothing.
--   wire_set-..    before anything is sent
--   wire-..        after the messages: -other of any other source, -own of its own
use Prim.Native.Nat.{ℕ, ◌≤◌, ◌<◌}
use mathlib.Core.Path.{◌≡◌, refl, sym, ap, ap₂, ◌∙◌}
use mathlib.Core.Bool.{Bool, true, false, cond, ◌&&◌}
use mathlib.Core.List.{[], ◌∷◌, ◌++◌}
use mathlib.Core.Logic.{◌≢◌, ◌⊎◌, inl, inr, ⊎_elim}
use native.Mathlib.Omega.{arith}
use lib.ListN.{length}
use Rattle.words.specs.Sets.{member}
use Rattle.words.proofs.TestsLaws.{tested, and_first, and_second}
use Rattle.source_target.specs.Target.{message_of}
use Rattle.source.specs.declared.Source.{Source}
use Rattle.source.specs.Pending.{settled, wire_changed}
use Rattle.domain.specs.Domain.{Domain, by_messages, sends}
use Rattle.domain.specs.Slot.{source_at}
use Rattle.domain_laws.specs.Shape.{DomainShaped}
use Rattle.domain_laws.proofs.OwnEffects.{domaincfg_of-with_source}
use Rattle.domain_laws.proofs.SlotEffects.{source_at-with_source-same, source_at-with_source-other}
use Rattle.wired_state.specs.Wires.{Wired, domain_in, wire_set, source_wired}
use Rattle.domain_sending.specs.Sending.{candidate, Sent, sent}
use Rattle.domain_sending.proofs.SendingLaws.{messages-hit, messages-miss, sent-off}
use Rattle.domain_sending_laws.specs.Candidates.{message_at, spent}
use Rattle.domain_sending_laws.proofs.SendingEffects.{sent-source}
use Rattle.domain_sending_laws.proofs.OneEffects.{sent-one, sent-one-other}
use Rattle.wired_rules_laws.specs.Steady.{WiredSteady, WiredQuiet}
use Rattle.wired_rules_laws.proofs.QuietEffects.{sends-same}
use Rattle.wired_rules_laws.proofs.PassEffects.{quiet-candidate}
use Rattle.wired_rules_laws.proofs.WiredQuietEffects.{quiet-domain_in}
use Rattle.wired.specs.Controller.{flushed, wire_call}
use Rattle.wired.proofs.CallLaws.{one-wire_set}

-- ---- before anything is sent

wire-domain : (w : Wired) (i : ℕ) (level c : Bool)
    → domain_in (wire_set w i level) c ≡ source_wired (domain_in w c) i (member w.wires i) level
unfolding domain_in wire_set
wire-domain w i level true = refl
wire-domain w i level false = refl

call-domain : (w : Wired) (i : ℕ) (level c : Bool)
    → domain_in (wire_call w i level).wired c ≡ (sent c (domain_in (wire_set w i level) c)).domain
unfolding domain_in wire_call flushed
call-domain w i level true = refl
call-domain w i level false = refl

module _ (w : Wired) (i : ℕ) (level c : Bool) where
  abbrev before : Domain
  before = domain_in w c

  abbrev after : Domain
  after = domain_in (wire_set w i level) c

  abbrev changed : Source
  changed = wire_changed (source_at before i) (by_messages before) (member w.wires i) level

  pub wire_set-other : (j : ℕ) → j ≢ i → source_at after j ≡ source_at before j
  unfolding source_wired
  wire_set-other j n =
      ap (λ (d : Domain). source_at d j) (wire-domain w i level c)
      ∙ source_at-with_source-other before i changed j n

  pub wire_set-own : DomainShaped before → i < 64 → source_at after i ≡ changed
  unfolding source_wired
  wire_set-own shaped h =
      ap (λ (d : Domain). source_at d i) (wire-domain w i level c)
      ∙ source_at-with_source-same before i changed shaped h

  pub wire_set-sends : 1 ≤ i → sends after ≡ sends before
  unfolding source_wired
  wire_set-sends l =
      ap sends (wire-domain w i level c) ∙ sends-same before _ (domaincfg_of-with_source before i changed l)

  -- its message goes where it would have gone
  pub wire_set-target : DomainShaped before → i < 64 → (source_at after i).target ≡
      (source_at before i).target
  unfolding wire_changed settled
  wire_set-target shaped h = ap (λ (s : Source). s.target) (wire_set-own shaped h)

-- ---- after the messages

module _ (w : Wired) (q : WiredQuiet w) (i : ℕ) (l : 1 ≤ i) (h : i < 64) (level c : Bool) where
  -- all had been sent, so nothing but source i can be to be sent
  wire-one : sends (domain_in (wire_set w i level) c) ≡ true → (j : ℕ) → j ≢ i → 1 ≤ j → j < 64
      → candidate (source_at (domain_in (wire_set w i level) c) j) ≡ false
  wire-one t j n a b =
      ap candidate (wire_set-other w i level c j n)
      ∙ quiet-candidate c (domain_in w c) (quiet-domain_in w q c)
      (sym (wire_set-sends w i level c l) ∙ t) j a b

  pub wire-other : (j : ℕ) → j ≢ i → 1 ≤ j → j < 64
      → source_at (domain_in (wire_call w i level).wired c) j ≡ source_at (domain_in w c) j
  wire-other j n a b =
      ap (λ (d : Domain). source_at d j) (call-domain w i level c)
      ∙ sent-one-other c (domain_in (wire_set w i level) c) i wire-one j n a b
      ∙ wire_set-other w i level c j n

  pub wire-own : DomainShaped (domain_in w c)
      → let s = changed w i level c in
      source_at (domain_in (wire_call w i level).wired c) i ≡ cond (sends (domain_in w c)) (spent s) s
  wire-own shaped =
      let d = domain_in (wire_set w i level) c in
      let same = wire_set-sends w i level c l in
      let own = wire_set-own w i level c shaped h in
      ap (λ (x : Domain). source_at x i) (call-domain w i level c)
      ∙ tested (sends d)
      (λ t. sent-source c d t i l h ∙ ap spent own ∙ rw (sym same ∙ t))
      (λ f. ap (λ (r : Sent). source_at r.domain i) (sent-off c d f) ∙ own ∙ rw (sym same ∙ f))

  wire-hit : DomainShaped (domain_in w c) → sends (domain_in w c) ≡ true → candidate (changed w i level c)
      ≡ true
      → (sent c (domain_in (wire_set w i level) c)).messages ≡ message_at c (domain_in w c) i ∷ []
  wire-hit shaped t y =
      let d = domain_in (wire_set w i level) c in
      let hit = messages-hit c d i (ap candidate (wire_set-own w i level c shaped h) ∙ y) in
      sent-one c d i wire-one l h ∙ rw (wire_set-sends w i level c l ∙ t) hit
      ∙ ap (λ (x : ℕ). message_of c x ∷ []) (wire_set-target w i level c shaped h)

  wire-miss : DomainShaped (domain_in w c) → (sends (domain_in w c) && candidate (changed w i level c))
      ≡ false
      → (sent c (domain_in (wire_set w i level) c)).messages ≡ []
  wire-miss shaped f =
      let d = domain_in (wire_set w i level) c in
      let one = sent-one c d i wire-one l h in
      let own = ap candidate (wire_set-own w i level c shaped h) in
      tested (sends d)
      (λ t. one ∙ rw t (messages-miss c d i (own ∙ rw (sym (wire_set-sends w i level c l) ∙ t) at f)))
      (λ n. one ∙ rw n)

  wire-sent : DomainShaped (domain_in w c)
      → ((sent c (domain_in (wire_set w i level) c)).messages ≡ [])
      ⊎ ((sent c (domain_in (wire_set w i level) c)).messages ≡ message_at c (domain_in w c) i ∷ [])
  wire-sent shaped =
      let on = sends (domain_in w c) in
      let due = candidate (changed w i level c) in
      tested (on && due)
      (λ t. inr (wire-hit shaped (and_first on due t) (and_second on due t))) (λ f. inl (wire-miss shaped f))

-- ---- the messages of the call

module _ (w : Wired) (s : WiredSteady w) (q : WiredQuiet w) (i : ℕ) (l : 1 ≤ i) (h : i < 64)
    (level : Bool) where
  -- where the source is to be sent it is, and nothing else
  pub wire-message : (c : Bool) → sends (domain_in w c) ≡ true → candidate (changed w i level c) ≡ true
      → (wire_call w i level).messages ≡ message_at c (domain_in w c) i ∷ []
  unfolding domain_in wire_call flushed
  wire-message true t y =
      let own = wire-hit w q i l h level true s.child.shaped t y in
      ⊎_elim (λ e. ap₂ ◌++◌ e own)
      (λ e. let z : 0 ≡ 1 = ap length (sym (ap (λ (r : Sent). r.messages) e) ∙ own) in
      absurd (omega (arith, z)))
      (one-wire_set w s q i l h level)
  wire-message false t y =
      let own = wire-hit w q i l h level false s.machine.shaped t y in
      ⊎_elim (λ e. let z : 0 ≡ 1 = ap length (sym e ∙ own) in absurd (omega (arith, z)))
      (λ e. ap₂ ◌++◌ own (ap (λ (r : Sent). r.messages) e)) (one-wire_set w s q i l h level)

  pub wire-silent : ((c : Bool) → (sends (domain_in w c) && candidate (changed w i level c)) ≡ false)
      → (wire_call w i level).messages ≡ []
  unfolding domain_in wire_call flushed
  wire-silent f =
      ap₂ ◌++◌ (wire-miss w q i l h level false s.machine.shaped (f false))
      (wire-miss w q i l h level true s.child.shaped (f true))

-- the message of source i in one of the two domains, or none
pub wire-messages : (w : Wired) → WiredSteady w → WiredQuiet w → (i : ℕ) → 1 ≤ i → i < 64 → (level : Bool)
    → let ms = (wire_call w i level).messages in
    (ms ≡ []) ⊎ (ms ≡ message_at false w.machine i ∷ []) ⊎ (ms ≡ message_at true w.child i ∷ [])
unfolding domain_in wire_call flushed
wire-messages w s q i l h level =
    let first = (sent false (wire_set w i level).machine).messages in
    let second = (sent true (wire_set w i level).child).messages in
    ⊎_elim
    (λ e. ⊎_elim (λ z. inl (ap₂ ◌++◌ e z)) (λ z. inr (inr (ap₂ ◌++◌ e z)))
    (wire-sent w q i l h level true s.child.shaped))
    (λ e. let none : second ≡ [] = ap (λ (r : Sent). r.messages) e in
    ⊎_elim (λ z. inl (ap₂ ◌++◌ z none)) (λ z. inr (inl (ap₂ ◌++◌ z none)))
    (wire-sent w q i l h level false s.machine.shaped))
    (one-wire_set w s q i l h level)
