-- Every write to a register of a domain keeps the rules of the domain, before anything is sent. No contract
-- cites this file. Assumes nothing.
use Prim.Native.Nat.{ℕ, ◌≤◌, ◌<◌}
use mathlib.Core.Bool.{Bool}
use mathlib.Core.List.{List}
use native.Mathlib.Omega.{arith}
use lib.Dec.{eqb}
use Rattle.words.specs.Parts.{reversed}
use Rattle.words.specs.Sets.{member}
use Rattle.words.proofs.TestsLaws.{tested}
use Rattle.domain_region.specs.Region.{Within}
use Rattle.domain_region.specs.declared.Word.{Word}
use Rattle.domain_region.specs.declared.Word.TheVariants.{Domaincfg, Sourcecfg, Setip, Setipnum, InClrip}
use Rattle.domain_region.specs.declared.Word.TheVariants.{Clripnum}
use Rattle.domain_region.specs.declared.Word.TheVariants.{Setie, Setienum, Clrie, Clrienum, SetipnumLe}
use Rattle.domain_region.specs.declared.Word.TheVariants.{SetipnumBe}
use Rattle.domain_region.specs.declared.Word.TheVariants.{Genmsi, Target, Idelivery, Iforce, Ithreshold}
use Rattle.domain_region.specs.declared.Word.TheVariants.{Topi}
use Rattle.domain_region.specs.declared.Word.TheVariants.{Claimi, Unused}
use Rattle.source.specs.declared.Change.{Change}
use Rattle.source.specs.declared.Change.TheVariants.{Pend, Clear, Enable, Disable}
use Rattle.source.specs.Pending.{retargeted}
use Rattle.domain.specs.Domain.{Domain, by_messages}
use Rattle.domain.specs.Slot.{source_at}
use Rattle.domain_laws.specs.Became.{Touched}
use Rattle.domain_writes.specs.Writes.{word_changed, number_changed, target_written}
use Rattle.domain_writes_laws.specs.Named.{named, changing}
use Rattle.domain_writes_laws.proofs.WritesEffects.{touched-word_changed, touched-number_changed}
use Rattle.domain_direct.specs.declared.Setting.TheVariants as setting
use Rattle.domain_registers.specs.Write.{register_written}
use Rattle.source_laws.proofs.SteadyEffects.{steady-changed, steady-retargeted}
use Rattle.wired_rules_laws.specs.Steady.{Steady, DomainKept}
use Rattle.wired_rules_laws.proofs.ModeEffects.{changed-mode, retargeted-mode}
use Rattle.wired_rules_laws.proofs.SteadyEffects.{steady-touched, became-modes, kept-none}
use Rattle.wired_rules_laws.proofs.SteadyEffects.{kept-with_source}
use Rattle.wired_rules_laws.proofs.DomaincfgEffects.{kept-domaincfg_written, kept-genmsi_written}
use Rattle.wired_rules_laws.proofs.DomaincfgEffects.{kept-setting_written}

module _ (c : Bool) (ws : List ℕ) (d : Domain) (s : Steady c ws d) where
  -- ---- writes that name sources

  -- a write of the family x that names the sources of p
  kept-changing : (x : Change) (p : ℕ → Bool) {d' : Domain} → Touched d d' (changing d ws x p)
      → DomainKept c ws d d'
  kept-changing x p t =
      let m = by_messages d in
      record {
        steady =
            steady-touched c ws ws d s t
            (λ i l h. tested (p i)
            (λ y. rw y (steady-changed c m (member ws i) (source_at d i) (s.source i l h) x))
            (λ n. rw n (s.source i l h)));
        modes =
            became-modes t
            (λ i l h. tested (p i) (λ y. rw y (changed-mode (source_at d i) x m (member ws i))) (λ n. rw n));
      }

  pub kept-word_changed : (x : Change) (k : ℕ) → k < 2 → (v : ℕ) → DomainKept c ws d (word_changed d ws x k v)
  kept-word_changed x k h v = kept-changing x (named k v) (touched-word_changed d ws x v s.shaped k h)

  pub kept-number_changed : (x : Change) (v : ℕ) → DomainKept c ws d (number_changed d ws x v)
  kept-number_changed x v = kept-changing x (eqb v) (touched-number_changed d ws x v s.shaped)

  pub kept-target_written : (i : ℕ) → 1 ≤ i → i < 64 → (v : ℕ) → DomainKept c ws d (target_written c d i v)
  unfolding target_written
  kept-target_written i l h v =
      let x = source_at d i in
      let m = by_messages d in
      kept-with_source c ws d s i (retargeted x c m v) l h
      (steady-retargeted c m (member ws i) x (s.source i l h) v) (retargeted-mode x c m v)

  -- ---- a write to any register

  pub kept-register_written : (r : Word) → Within r → (v : ℕ) → DomainKept c ws d
      (register_written c d ws r v)
  unfolding register_written
  kept-register_written Domaincfg q v = kept-domaincfg_written c ws d s v
  kept-register_written (Sourcecfg i) q v = kept-none c ws d s
  kept-register_written (Setip k) q v = kept-word_changed Pend k q v
  kept-register_written Setipnum q v = kept-number_changed Pend v
  kept-register_written (InClrip k) q v = kept-word_changed Clear k q v
  kept-register_written Clripnum q v = kept-number_changed Clear v
  kept-register_written (Setie k) q v = kept-word_changed Enable k q v
  kept-register_written Setienum q v = kept-number_changed Enable v
  kept-register_written (Clrie k) q v = kept-word_changed Disable k q v
  kept-register_written Clrienum q v = kept-number_changed Disable v
  kept-register_written SetipnumLe q v = kept-number_changed Pend v
  kept-register_written SetipnumBe q v = kept-number_changed Pend (reversed v)
  kept-register_written Genmsi q v = kept-genmsi_written c ws d s v
  kept-register_written (Target i) q v = kept-target_written i q.0 (omega arith) v
  kept-register_written (Idelivery h) q v = kept-setting_written c ws d s h q setting.Idelivery v
  kept-register_written (Iforce h) q v = kept-setting_written c ws d s h q setting.Iforce v
  kept-register_written (Ithreshold h) q v = kept-setting_written c ws d s h q setting.Ithreshold v
  kept-register_written (Topi h) q v = kept-none c ws d s
  kept-register_written (Claimi h) q v = kept-none c ws d s
  kept-register_written Unused q v = kept-none c ws d s
