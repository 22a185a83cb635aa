-- The pass of messages keeps the rules of a domain and leaves it with all sent, and where all is sent
-- already it changes nothing and sends nothing. No contract cites this file. Assumes nothing.
use Prim.Native.Nat.{ℕ, ◌≤◌, ◌<◌}
use mathlib.Core.Path.{◌≡◌, ap, ◌∙◌}
use mathlib.Core.Bool.{Bool, true, false, cond}
use mathlib.Core.List.{List}
use native.Mathlib.Omega.{arith}
use lib.ListN.{get_or}
use borrow.Author.Tests.{not-true}
use Rattle.words.specs.Sets.{member}
use Rattle.words.proofs.TestsLaws.{tested, and_second}
use Rattle.source.specs.declared.Source.{Source}
use Rattle.domain.specs.Domain.{Domain, domaincfg_of, genmsi_of, is_enabled, by_messages, sends}
use Rattle.domain.specs.Slot.{source_at}
use Rattle.domain.specs.Structure.{structure_at}
use Rattle.domain_laws.specs.Shape.{DomainShaped}
use Rattle.domain_laws.specs.Became.{Touched}
use Rattle.domain_sending.specs.Sending.{candidate, Sent, sent_nothing, sent}
use Rattle.domain_sending.proofs.SendingLaws.{sent-off}
use Rattle.domain_sending_laws.specs.Candidates.{spent}
use Rattle.domain_sending_laws.proofs.SendingEffects.{spent-hit, spent-miss, sent-rest, sent-other, sent-long}
use Rattle.domain_sending_laws.proofs.SendingEffects.{sent-source, sent-quiet, sent-none}
use Rattle.source_rules.specs.SourceRules.{source_steady}
use Rattle.source_laws.proofs.SteadyEffects.{steady-unpended}
use Rattle.source_laws.proofs.SentEffects.{sent-sends, sent-silent}
use Rattle.wired_rules_laws.specs.Steady.{Steady, DomainKept, Quiet}
use Rattle.wired_rules_laws.proofs.ModeEffects.{spent-mode}
use Rattle.wired_rules_laws.proofs.SteadyEffects.{steady-touched, became-modes}
use Rattle.wired_rules_laws.proofs.QuietEffects.{sends-same}

-- ---- a domain after the pass

module _ (c : Bool) (d : Domain) where
  abbrev after : Domain
  after = (sent c d).domain

  shaped-sent : DomainShaped d → DomainShaped after
  shaped-sent shaped =
      let rest = sent-rest c d in
      record {
        sources = rw rest.source shaped.sources;
        targets = rw rest.target shaped.targets;
        pendings = sent-long c d ∙ shaped.pendings;
        enables = rw rest.enable shaped.enables;
        deliveries = rw rest.delivery shaped.deliveries;
      }

  domaincfg-sent : domaincfg_of after ≡ domaincfg_of d
  unfolding domaincfg_of
  domaincfg-sent = ap (λ (l : List ℕ). get_or l 0 0) (sent-rest c d).source

  -- where the domain sends, each source had its turn
  abbrev turned : ℕ → Source → Source
  turned j s = cond (sends d) (spent s) s

  source-sent : (j : ℕ) → 1 ≤ j → j < 64 → source_at after j ≡ turned j (source_at d j)
  source-sent j l h =
      tested (sends d) (λ t. sent-source c d t j l h ∙ rw t)
      (λ f. ap (λ (x : Sent). source_at x.domain j) (sent-off c d f) ∙ rw f)

  pending-sent : member after.pending 0 ≡ member d.pending 0
  unfolding source_at
  pending-sent = ap (λ (s : Source). s.pending) (sent-other c d 0 (λ p. omega (arith, p.0)))

  pub touched-sent : DomainShaped d → Touched d after turned
  touched-sent shaped =
      let rest = sent-rest c d in
      record {
        shaped = shaped-sent shaped;
        domaincfg = domaincfg-sent;
        genmsi = unfold genmsi_of in ap (λ (l : List ℕ). get_or l 0 0) rest.target;
        source = source-sent;
        structure = λ h. unfold structure_at in rw rest.delivery;
        pending-zero = pending-sent;
        enable-zero = ap (λ (l : List ℕ). member l 0) rest.enable;
      }

-- ---- it keeps the rules

module _ (c m wire : Bool) (s : Source) (e : source_steady c m wire s ≡ true) where
  steady-spent : m ≡ true → source_steady c m wire (spent s) ≡ true
  steady-spent t =
      tested (candidate s) (λ y. rw (spent-hit s y) (steady-unpended c m wire s e t))
      (λ n. rw (spent-miss s n) e)

module _ (c : Bool) (ws : List ℕ) (d : Domain) (s : Steady c ws d) where
  pub kept-sent : DomainKept c ws d (sent c d).domain
  kept-sent =
      let touched = touched-sent c d s.shaped in
      record {
        steady =
            steady-touched c ws ws d s touched
            (λ i l h. tested (sends d)
            (λ t. rw t (steady-spent c (by_messages d) (member ws i) (source_at d i) (s.source i l h)
            (and_second (is_enabled d) (by_messages d) t)))
            (λ f. rw f (s.source i l h)));
        modes =
            became-modes touched
            (λ i l h. tested (sends d) (λ t. rw t (spent-mode (source_at d i))) (λ f. rw f));
      }

-- ---- and all is sent

module _ (c : Bool) (d : Domain) where
  pub quiet-sent : Quiet (sent c d).domain
  quiet-sent i l h =
      rw (sends-same d (sent c d).domain (domaincfg-sent c d))
      (tested (sends d) (λ t. rw (t, sent-sends, sent-quiet c d t i l h))
      (λ f. rw (f, sent-silent)))

  pub quiet-candidate : Quiet d → sends d ≡ true → (i : ℕ) → 1 ≤ i → i < 64 → candidate (source_at d i)
      ≡ false
  quiet-candidate q t i l h = not-true (candidate (source_at d i)) (rw (t, sent-sends) at (q i l h))

  pub sent-again : Quiet d → sent c d ≡ sent_nothing d
  sent-again q = tested (sends d) (λ t. sent-none c d (quiet-candidate q t)) (sent-off c d)
