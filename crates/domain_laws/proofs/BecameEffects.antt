-- Laws of specs/Became.antt: changes one after the other, the delivery mode and IE after a change, and the
-- changes that replace one source, domaincfg or genmsi. No contract cites this file. Assumes nothing.
use Prim.Native.Nat.{ℕ, ◌≤◌, ◌<◌}
use mathlib.Core.Path.{◌≡◌, refl, sym, ap, ◌∙◌}
use mathlib.Core.Bool.{cond}
use native.Mathlib.Decide.{ℕ_discrete}
use lib.Dec.{eqb}
use borrow.Author.Tests.{eq-eqb, ne_eqb}
use Rattle.words.specs.Bits.{has_bit}
use Rattle.source.specs.declared.Source.{Source}
use Rattle.domain.specs.Domain.{Domain, domaincfg_of, is_enabled, by_messages, genmsi_of, with_domaincfg}
use Rattle.domain.specs.Domain.{with_genmsi}
use Rattle.domain.specs.Slot.{source_at, with_source}
use Rattle.domain_laws.specs.Shape.{DomainShaped}
use Rattle.domain_laws.specs.Became.{Became, Touched}
use Rattle.domain_laws.proofs.SlotEffects.{source_at-with_source-same, source_at-with_source-other}
use Rattle.domain_laws.proofs.SlotEffects.{structure_at-with_source, shaped-with_source}
use Rattle.domain_laws.proofs.SlotEffects.{pending-zero-with_source, enable-zero-with_source}
use Rattle.domain_laws.proofs.OwnEffects as own

-- ---- any change

-- nothing changed
pub touched_none : (d : Domain) → DomainShaped d → Touched d d (λ j s. s)
touched_none d shaped =
    record {
      shaped = shaped;
      domaincfg = refl;
      genmsi = refl;
      source = λ j l h. refl;
      structure = λ h. refl;
      pending-zero = refl;
      enable-zero = refl;
    }

module _ {d e : Domain} {w g : ℕ} {f : ℕ → Source → Source} (p : Became d e w g f) where
  -- a change after a change
  pub became-joined : {e' : Domain} {w' g' : ℕ} {f' : ℕ → Source → Source} → Became e e' w' g' f'
      → Became d e' w' g' (λ j s. f' j (f j s))
  became-joined {e'} {w'} {g'} {f'} q =
      record {
        shaped = q.shaped;
        domaincfg = q.domaincfg;
        genmsi = q.genmsi;
        source = λ j l h. q.source j l h ∙ ap (f' j) (p.source j l h);
        structure = λ h. q.structure h ∙ p.structure h;
        pending-zero = q.pending-zero ∙ p.pending-zero;
        enable-zero = q.enable-zero ∙ p.enable-zero;
      }

  -- the same change in other words
  pub became-as : (w' g' : ℕ) (f' : ℕ → Source → Source) → w ≡ w' → g ≡ g'
      → ((j : ℕ) → 1 ≤ j → j < 64 → f j (source_at d j) ≡ f' j (source_at d j)) → Became d e w' g' f'
  became-as w' g' f' ew eg ef =
      record {
        shaped = p.shaped;
        domaincfg = p.domaincfg ∙ ew;
        genmsi = p.genmsi ∙ eg;
        source = λ j l h. p.source j l h ∙ ef j l h;
        structure = p.structure;
        pending-zero = p.pending-zero;
        enable-zero = p.enable-zero;
      }

  pub became-messages : by_messages e ≡ has_bit w 2
  unfolding by_messages
  became-messages = ap (λ (x : ℕ). has_bit x 2) p.domaincfg

  pub became-enabled : is_enabled e ≡ has_bit w 8
  unfolding is_enabled
  became-enabled = ap (λ (x : ℕ). has_bit x 8) p.domaincfg

-- after a change one that touches the sources
pub became-touched : {d e e' : Domain} {w g : ℕ} {f f' : ℕ → Source → Source} → Became d e w g f
    → Touched e e' f' → Became d e' w g (λ j s. f' j (f j s))
became-touched {d} {e} {e'} {w} {g} {f} {f'} p q =
    became-as (became-joined p q) w g (λ j s. f' j (f j s)) p.domaincfg p.genmsi (λ j l h. refl)

module _ {d e : Domain} {f : ℕ → Source → Source} (p : Touched d e f) where
  pub touched-messages : by_messages e ≡ by_messages d
  touched-messages = own.by_messages-same d e p.domaincfg

  pub touched-enabled : is_enabled e ≡ is_enabled d
  touched-enabled = own.is_enabled-same d e p.domaincfg

  pub touched-as : (f' : ℕ → Source → Source)
      → ((j : ℕ) → 1 ≤ j → j < 64 → f j (source_at d j) ≡ f' j (source_at d j)) → Touched d e f'
  touched-as f' ef = became-as p (domaincfg_of d) (genmsi_of d) f' refl refl ef

-- ---- one part replaced

module _ (d : Domain) (i : ℕ) (g : ℕ → Source → Source) (shaped : DomainShaped d) where
  abbrev replaced : Domain
  replaced = with_source d i (g i (source_at d i))

  each : i < 64 → (j : ℕ) → Dec (i ≡ j)
      → source_at replaced j ≡ cond (eqb i j) (g j (source_at d j)) (source_at d j)
  each h j (yes e) =
      rw (eq-eqb i j e) (ap (source_at replaced) (sym e)
      ∙ source_at-with_source-same d i (g i (source_at d i)) shaped h ∙ ap (λ (k : ℕ). g k (source_at d k)) e)
  each h j (no n) =
      rw (ne_eqb i j n) (source_at-with_source-other d i (g i (source_at d i)) j (λ e. n (sym e)))

  -- source i as g makes it
  pub touched-with_source : 1 ≤ i → i < 64 → Touched d replaced (λ j s. cond (eqb i j) (g j s) s)
  touched-with_source l h =
      let s = g i (source_at d i) in
      record {
        shaped = shaped-with_source d i s shaped;
        domaincfg = own.domaincfg_of-with_source d i s l;
        genmsi = own.genmsi_of-with_source d i s l;
        source = λ j _ _. each h j (ℕ_discrete i j);
        structure = structure_at-with_source d i s;
        pending-zero = pending-zero-with_source d i s l;
        enable-zero = enable-zero-with_source d i s l;
      }

module _ (d : Domain) (v : ℕ) (shaped : DomainShaped d) where
  pub became-with_domaincfg : Became d (with_domaincfg d v) v (genmsi_of d) (λ j s. s)
  became-with_domaincfg =
      record {
        shaped = own.shaped-with_domaincfg d v shaped;
        domaincfg = own.domaincfg_of-with_domaincfg d v shaped;
        genmsi = own.genmsi_of-with_domaincfg d v;
        source = λ j l h. own.source_at-with_domaincfg d v j l;
        structure = own.structure_at-with_domaincfg d v;
        pending-zero = unfold with_domaincfg in refl;
        enable-zero = unfold with_domaincfg in refl;
      }

  pub became-with_genmsi : Became d (with_genmsi d v) (domaincfg_of d) v (λ j s. s)
  became-with_genmsi =
      record {
        shaped = own.shaped-with_genmsi d v shaped;
        domaincfg = own.domaincfg_of-with_genmsi d v;
        genmsi = own.genmsi_of-with_genmsi d v shaped;
        source = λ j l h. own.source_at-with_genmsi d v j l;
        structure = own.structure_at-with_genmsi d v;
        pending-zero = unfold with_genmsi in refl;
        enable-zero = unfold with_genmsi in refl;
      }
