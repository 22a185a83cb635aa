-- What the writes of specs/Domaincfg.antt, to domaincfg and genmsi, make of a domain, as specs/Became.antt of
-- domain_laws has it. No contract cites this file. Assumes nothing.
use Prim.Native.Nat.{ℕ, zero, suc, ◌≤◌}
use mathlib.Core.Path.{◌≡◌, refl, ap, ◌∙◌}
use mathlib.Core.Bool.{Bool, beq, cond}
use mathlib.Core.List.{List}
use native.Mathlib.Omega.{arith}
use Rattle.words.specs.Bits.{bit_of, has_bit}
use Rattle.words.specs.Parts.{field_of, packed}
use Rattle.words.specs.Sets.{member}
use Rattle.words.proofs.BitsLaws.{has_bit-bit_of}
use Rattle.words.proofs.TestsLaws.{tested}
use Rattle.domain_genmsi.specs.Genmsi.{kept_genmsi}
use Rattle.source.specs.declared.Source.{Source}
use Rattle.source.specs.Pending.{redelivered}
use Rattle.domain.specs.Domain.{Domain, domaincfg_of, is_enabled, by_messages, genmsi_of, with_domaincfg}
use Rattle.domain.specs.Domain.{with_genmsi}
use Rattle.domain.specs.Slot.{source_at, with_source}
use Rattle.domain_laws.specs.Shape.{DomainShaped}
use Rattle.domain_laws.specs.Became.{Became, Touched}
use Rattle.domain_laws.specs.Each.{with_each}
use Rattle.domain_laws.proofs.EachEffects.{touched-with_each, among_in}
use Rattle.domain_laws.proofs.OwnEffects.{by_messages-with_source}
use Rattle.domain_laws.proofs.BecameEffects.{became-with_domaincfg, became-with_genmsi, became-joined}
use Rattle.domain_laws.proofs.BecameEffects.{became-touched, became-as, became-messages, became-enabled}
use Rattle.domain_laws.proofs.BecameEffects.{touched_none, touched-as}
use Rattle.domain_domaincfg.specs.Domaincfg.{kept_domaincfg, redelivered_at, redelivered_from}
use Rattle.domain_domaincfg.specs.Domaincfg.{domaincfg_written}
use Rattle.domain_domaincfg.proofs.DomaincfgLaws.{mode-same, mode-changed}
use Rattle.domain_genmsi.specs.Genmsi.{genmsi_written}
use Rattle.domain_genmsi.proofs.GenmsiLaws.{genmsi-messages, genmsi-direct}
use Rattle.domain_writes_laws.specs.Named.{keeps_mode}

-- ---- what is stored of domaincfg

module _ (v : ℕ) where
  pub kept_domaincfg-messages : has_bit (kept_domaincfg v) 2 ≡ has_bit v 2
  unfolding kept_domaincfg bit_of packed field_of
  kept_domaincfg-messages = has_bit-bit_of (kept_domaincfg v) 2 v 2 (omega arith)

  pub kept_domaincfg-enabled : has_bit (kept_domaincfg v) 8 ≡ has_bit v 8
  unfolding kept_domaincfg bit_of packed field_of
  kept_domaincfg-enabled = has_bit-bit_of (kept_domaincfg v) 8 v 8 (omega arith)

-- ---- a change of the delivery mode

module _ (ws : List ℕ) (m : Bool) where
  -- what it makes of source j where the mode becomes m
  abbrev resettled : ℕ → Source → Source
  resettled j s = redelivered s m (member ws j)

  redelivered_from-each : (d : Domain) (i n : ℕ) → by_messages d ≡ m → 1 ≤ i
      → redelivered_from d ws i n ≡ with_each resettled d i n
  unfolding redelivered_from redelivered_at with_each
  redelivered_from-each d i zero e l = refl
  redelivered_from-each d i (suc n) e l =
      rw e
      (redelivered_from-each (with_source d i (resettled i (source_at d i))) (suc i) n
      (by_messages-with_source d i _ l ∙ e) (omega arith))

  touched-redelivered : (d : Domain) → by_messages d ≡ m → DomainShaped d
      → Touched d (redelivered_from d ws 1 63) resettled
  touched-redelivered d e shaped =
      rw (redelivered_from-each d 1 63 e (omega arith))
      (touched-as (touched-with_each resettled d 1 63 shaped (omega arith) (omega arith)) resettled
      (λ j l h. rw (among_in 1 63 j l h)))

-- ---- a write to domaincfg

module _ (d : Domain) (ws : List ℕ) (v : ℕ) (shaped : DomainShaped d) where
  -- the word stored, and nothing else
  abbrev stored : Domain
  stored = with_domaincfg d (kept_domaincfg v)

  became-stored : Became d stored (kept_domaincfg v) (genmsi_of d) (λ j s. s)
  became-stored = became-with_domaincfg d (kept_domaincfg v) shaped

  stored-messages : by_messages stored ≡ has_bit v 2
  stored-messages = became-messages became-stored ∙ kept_domaincfg-messages v

  -- and genmsi emptied
  abbrev emptied : Domain
  emptied = with_genmsi stored 0

  became-emptied : Became d emptied (kept_domaincfg v) 0 (λ j s. s)
  became-emptied =
      became-as (became-joined became-stored (became-with_genmsi stored 0 became-stored.shaped))
      (kept_domaincfg v) 0 (λ j s. s) became-stored.domaincfg refl (λ j l h. refl)

  became-resettled : Became d (redelivered_from emptied ws 1 63) (kept_domaincfg v) 0
      (resettled ws (has_bit v 2))
  became-resettled =
      let mode = became-messages became-emptied ∙ kept_domaincfg-messages v in
      became-touched became-emptied
      (touched-redelivered ws (has_bit v 2) emptied mode became-emptied.shaped)

  -- with the same DM nothing but domaincfg changes, and with another every source is settled anew
  pub became-domaincfg_written : Became d (domaincfg_written d ws v) (kept_domaincfg v)
      (cond (keeps_mode d v) (genmsi_of d) 0)
      (λ j s. cond (keeps_mode d v) s (redelivered s (has_bit v 2) (member ws j)))
  unfolding domaincfg_written
  became-domaincfg_written =
      let modes = ap (beq (by_messages d)) stored-messages in
      tested (keeps_mode d v) (λ t. rw (mode-same d ws stored (modes ∙ t)) (simp t became-stored))
      (λ f. rw (mode-changed d ws stored (modes ∙ f)) (simp f became-resettled))

  pub by_messages-domaincfg_written : by_messages (domaincfg_written d ws v) ≡ has_bit v 2
  by_messages-domaincfg_written = became-messages became-domaincfg_written ∙ kept_domaincfg-messages v

  pub is_enabled-domaincfg_written : is_enabled (domaincfg_written d ws v) ≡ has_bit v 8
  is_enabled-domaincfg_written = became-enabled became-domaincfg_written ∙ kept_domaincfg-enabled v

-- ---- a write to genmsi

pub became-genmsi_written : (d : Domain) (v : ℕ) → DomainShaped d
    → Became d (genmsi_written d v) (domaincfg_of d) (cond (by_messages d) (kept_genmsi v) (genmsi_of d))
    (λ j s. s)
became-genmsi_written d v shaped =
    tested (by_messages d)
    (λ t. rw (genmsi-messages d v t, t) (became-with_genmsi d (kept_genmsi v) shaped))
    (λ f. rw (genmsi-direct d v f, f) (touched_none d shaped))
