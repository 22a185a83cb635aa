-- When a domain has sent all, after a change that treats each source by itself, after a source was
-- replaced, and in direct mode, where it sends nothing. No contract cites this file. Assumes nothing.
use Prim.Native.Nat.{ℕ, ◌≤◌, ◌<◌}
use mathlib.Core.Path.{◌≡◌, ap₂}
use mathlib.Core.Bool.{true, false, cond, ◌&&◌, and-false}
use native.Mathlib.Decide.{ℕ_discrete}
use lib.Dec.{eqb}
use borrow.Author.Tests.{eq-eqb, ne_eqb}
use Rattle.source.specs.declared.Source.{Source}
use Rattle.source.specs.Pending.{inactive}
use Rattle.domain.specs.Domain.{Domain, domaincfg_of, by_messages, sends}
use Rattle.domain.specs.Slot.{source_at, with_source}
use Rattle.domain_laws.specs.Shape.{DomainShaped}
use Rattle.domain_laws.specs.Became.{Became}
use Rattle.domain_laws.proofs.BecameEffects.{touched-with_source}
use Rattle.domain_laws.proofs.OwnEffects.{is_enabled-same, by_messages-same}
use Rattle.source_rules.specs.SourceRules.{sent_rule}
use Rattle.source_laws.proofs.SentEffects.{sent-silent, sent-start}
use Rattle.wired_rules_laws.specs.Steady.{Quiet}

pub quiet-direct : (d : Domain) → by_messages d ≡ false → Quiet d
quiet-direct d m i l h = rw (m, and-false) (sent-silent (source_at d i))

pub sends-same : (d e : Domain) → domaincfg_of e ≡ domaincfg_of d → sends e ≡ sends d
sends-same d e same = ap₂ ◌&&◌ (is_enabled-same d e same) (by_messages-same d e same)

-- where domaincfg stays
pub quiet-became : {d d' : Domain} {g : ℕ} {f : ℕ → Source → Source} → Became d d' (domaincfg_of d) g f
    → ((i : ℕ) → 1 ≤ i → i < 64 → sent_rule (sends d) (f i (source_at d i)) ≡ true) → Quiet d'
quiet-became {d} {d'} b keeps i l h = rw (sends-same d d' b.domaincfg, b.source i l h) (keeps i l h)

module _ (d : Domain) (q : Quiet d) (i : ℕ) (x : Source) (e : sent_rule (sends d) x ≡ true) where
  quiet_at : (j : ℕ) → 1 ≤ j → j < 64 → Dec (i ≡ j)
      → sent_rule (sends d) (cond (eqb i j) x (source_at d j)) ≡ true
  quiet_at j l h (yes y) = rw (eq-eqb i j y) e
  quiet_at j l h (no n) = rw (ne_eqb i j n) (q j l h)

  pub quiet-with_source : DomainShaped d → 1 ≤ i → i < 64 → Quiet (with_source d i x)
  quiet-with_source shaped l h =
      quiet-became (touched-with_source d i (λ j _. x) shaped l h) (λ j a b. quiet_at j a b (ℕ_discrete i j))

-- a source that starts anew has nothing to send
pub quiet-started : (d : Domain) → Quiet d → (i : ℕ) → DomainShaped d → 1 ≤ i → i < 64
    → Quiet (with_source d i (inactive 0))
quiet-started d q i = quiet-with_source d q i (inactive 0) (sent-start (sends d))
