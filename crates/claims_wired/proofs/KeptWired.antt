-- Claim-155, register by register, in both domains. Assumes nothing.
use Prim.Native.Nat.{ℕ, ◌≤◌}
use mathlib.Core.Path.{◌≡◌, refl, sym, subst}
use mathlib.Core.Bool.{Bool, true, false, beq, not, ◌&&◌}
use mathlib.Core.List.{List}
use mathlib.Core.Logic.{◌≢◌}
use native.Mathlib.Decide.{ℕ_discrete}
use native.Mathlib.Omega.{arith}
use lib.Dec.{eqb, leb}
use borrow.Author.Tests.{eq-eqb, ne_eqb, eqb-false}
use Rattle.words.specs.Parts.{reversed}
use Rattle.words.specs.Sets.{member}
use Rattle.words.proofs.SetsLaws.{member-put-other}
use Rattle.words.proofs.TestsLaws.{tested}
use Rattle.source_mode.specs.Mode.{source_word}
use Rattle.source.specs.declared.Source.{Source}
use Rattle.source.specs.declared.Change.TheVariants.{Pend, Clear, Enable, Disable}
use Rattle.source.specs.Pending.{inactive, settled, wire_changed, cleared, moded}
use Rattle.domain_region.specs.Region.{Within}
use Rattle.domain_region.specs.Role.{role_of}
use Rattle.domain_region.specs.declared.role.Role.{Role}
use Rattle.domain_region.specs.declared.role.Role.TheVariants.{Claims, Configures, Generates, Plain}
use Rattle.domain_region.proofs.RoleLaws.{configures-only, configures-range}
use Rattle.domain_region.specs.declared.Word.{Word}
use Rattle.domain_region.specs.declared.Word.TheVariants.{Domaincfg, Sourcecfg, Setip, Setipnum, InClrip}
use Rattle.domain_region.specs.declared.Word.TheVariants.{Clripnum, Setie, Setienum, Clrie, Clrienum}
use Rattle.domain_region.specs.declared.Word.TheVariants.{SetipnumLe, SetipnumBe, Genmsi, Target, Idelivery}
use Rattle.domain_region.specs.declared.Word.TheVariants.{Iforce, Ithreshold, Topi, Claimi, Unused}
use Rattle.domain_delivery.specs.Delivery.{with_idelivery, with_iforce, with_ithreshold, without_force}
use Rattle.domain.specs.Domain.{Domain, by_messages}
use Rattle.domain.specs.Slot.{source_at, with_source}
use Rattle.domain_laws.specs.Shape.{DomainShaped}
use Rattle.domain_laws.proofs.BecameEffects.{touched-with_source}
use Rattle.domain_writes_laws.specs.Named.{named}
use Rattle.domain_writes_laws.proofs.WritesEffects.{touched-word_changed, touched-number_changed}
use Rattle.domain_topi.proofs.TopLaws.{top_source-lt}
use Rattle.domain_direct.specs.declared.Setting.{Setting}
use Rattle.domain_direct.specs.declared.Setting.TheVariants as setting
use Rattle.domain_direct.specs.Direct.{top_source, unforced, released, hart_claimed, written_at}
use Rattle.domain_direct.specs.Direct.{setting_written}
use Rattle.domain_direct.proofs.DirectLaws.{claimed-messages, claimed-none, claimed-some, written-messages}
use Rattle.domain_direct.proofs.DirectLaws.{written-direct}
use Rattle.domain_registers.specs.Write.{register_written}
use Rattle.domain_registers.specs.Read.{claimed_as, claimed_by}
use Rattle.wired_state.specs.Wires.{Wired, domain_in, with_domain, is_delegated, source_wired, wire_set}
use Rattle.wired_sourcecfg.specs.Delegation.{source_moded, child_written, machine_written, source_written}
use Rattle.wired_registers.specs.Wired.{claimed_in, part_written, written_as, written_in}
use Rattle.claims_registers.specs.Rules.{Long}
use Rattle.claims_wired.specs.Kept.{Touch, none, sources, harts, while_direct, writes, claims, reads}
use Rattle.claims_wired.specs.Kept.{writes_in, reads_in, Spares, Claim-155}
use Rattle.claims_registers.proofs.Accesses.{wires-with}
use Rattle.claims_wired.proofs.Kept.{out, keep, pending_of, enabled_of, target_of, mode_of, kept_same}
use Rattle.claims_wired.proofs.Kept.{kept-became, kept-pendings, kept-wholes, kept-pend, kept-clear}
use Rattle.claims_wired.proofs.Kept.{kept-enable, kept-disable, kept-domaincfg, kept-genmsi}
use Rattle.claims_wired.proofs.Kept.{kept_target, kept-structure}

module _ (d : Domain) (shaped : DomainShaped d) where
  -- ---- the settable numbers of hart h

  module _ (h : ℕ) where
    -- in direct mode the hart is touched
    own-hart : {A : Type 0} → by_messages d ≡ false → while_direct d h h ≡ false → A
    own-hart f e = absurd (eqb-false h h (rw f at e) refl)

    kept-setting : (g : Setting) (t : Touch) (v : ℕ)
        → (by_messages d ≡ false → Spares t d (setting_written d h g v))
        → Spares t d (setting_written d h g v)
    kept-setting g t v on =
        tested (by_messages d) (λ m. rw (written-messages d h g v m) (kept_same t d)) on

    kept-idelivery : (v : ℕ)
        → Spares (harts (while_direct d h) none none) d (setting_written d h setting.Idelivery v)
    unfolding written_at with_idelivery
    kept-idelivery v =
        kept-setting setting.Idelivery (harts (while_direct d h) none none) v
        (λ f. rw (written-direct d h setting.Idelivery v f)
        (kept-structure d shaped h _ (harts (while_direct d h) none none) (λ e. own-hart f e) (λ e. refl)
        (λ e. refl)))

    kept-iforce : (v : ℕ)
        → Spares (harts none (while_direct d h) none) d (setting_written d h setting.Iforce v)
    unfolding written_at with_iforce
    kept-iforce v =
        kept-setting setting.Iforce (harts none (while_direct d h) none) v
        (λ f. rw (written-direct d h setting.Iforce v f)
        (kept-structure d shaped h _ (harts none (while_direct d h) none) (λ e. refl) (λ e. own-hart f e)
        (λ e. refl)))

    kept-ithreshold : (v : ℕ)
        → Spares (harts none none (while_direct d h)) d (setting_written d h setting.Ithreshold v)
    unfolding written_at with_ithreshold
    kept-ithreshold v =
        kept-setting setting.Ithreshold (harts none none (while_direct d h)) v
        (λ f. rw (written-direct d h setting.Ithreshold v f)
        (kept-structure d shaped h _ (harts none none (while_direct d h)) (λ e. refl) (λ e. refl)
        (λ e. own-hart f e)))

  -- ---- a write to any register but a sourcecfg

  kept-written : (c : Bool) (ws : List ℕ) (r : Word) → Within r → (v : ℕ)
      → Spares (writes d r v) d (register_written c d ws r v)
  unfolding writes register_written named
  kept-written c ws Domaincfg q v = kept-domaincfg d shaped ws v
  kept-written c ws (Sourcecfg i) q v = kept_same _ d
  kept-written c ws (Setip k) q v = kept-pend d ws (named k v) (touched-word_changed d ws Pend v shaped k q)
  kept-written c ws Setipnum q v = kept-pend d ws (eqb v) (touched-number_changed d ws Pend v shaped)
  kept-written c ws (InClrip k) q v =
      kept-clear d ws (named k v) (touched-word_changed d ws Clear v shaped k q)
  kept-written c ws Clripnum q v = kept-clear d ws (eqb v) (touched-number_changed d ws Clear v shaped)
  kept-written c ws (Setie k) q v =
      kept-enable d ws (named k v) (touched-word_changed d ws Enable v shaped k q)
  kept-written c ws Setienum q v = kept-enable d ws (eqb v) (touched-number_changed d ws Enable v shaped)
  kept-written c ws (Clrie k) q v =
      kept-disable d ws (named k v) (touched-word_changed d ws Disable v shaped k q)
  kept-written c ws Clrienum q v = kept-disable d ws (eqb v) (touched-number_changed d ws Disable v shaped)
  kept-written c ws SetipnumLe q v = kept-pend d ws (eqb v) (touched-number_changed d ws Pend v shaped)
  kept-written c ws SetipnumBe q v =
      kept-pend d ws (eqb (reversed v)) (touched-number_changed d ws Pend (reversed v) shaped)
  kept-written c ws Genmsi q v = kept-genmsi d shaped v
  kept-written c ws (Target i) q v = kept_target d shaped c i v q.0 q.1
  kept-written c ws (Idelivery h) q v = kept-idelivery h v
  kept-written c ws (Iforce h) q v = kept-iforce h v
  kept-written c ws (Ithreshold h) q v = kept-ithreshold h v
  kept-written c ws (Topi h) q v = kept_same _ d
  kept-written c ws (Claimi h) q v = kept_same _ d
  kept-written c ws Unused q v = kept_same _ d

  -- ---- a claim

  kept-claimed : (h : ℕ) → Spares (claims d h) d (hart_claimed d h)
  kept-claimed h =
      tested (by_messages d) (λ m. rw (claimed-messages d h m) (kept_same (claims d h) d))
      (λ f. at f (ℕ_discrete (top_source d h) 0))
    where
      at : by_messages d ≡ false → Dec (top_source d h ≡ 0) → Spares (claims d h) d (hart_claimed d h)
      at f (yes z) =
          unfold unforced without_force in
          rw (claimed-none d h f z, eq-eqb (top_source d h) 0 z)
          (kept-structure d shaped h _ (harts none (while_direct d h) none) (λ e. refl) (λ e. own-hart h f e)
          (λ e. refl))
      at f (no n) =
          unfold released cleared in
          rw (claimed-some d h f n, ne_eqb (top_source d h) 0 n)
          (kept-became
          (touched-with_source d (top_source d h) (λ j s. cleared s false) shaped (omega (arith, n))
          (top_source-lt d h))
          (sources (λ i. not (by_messages d) && eqb (top_source d h) i) none none none)
          (λ j e. out pending_of (eqb (top_source d h) j) _ _ (rw f at e))
          (λ j e. keep enabled_of (eqb (top_source d h) j) _ _ refl)
          (λ j e. keep target_of (eqb (top_source d h) j) _ _ refl)
          (λ j e. keep mode_of (eqb (top_source d h) j) _ _ refl) (λ e. refl) (λ e. refl))

  kept_read : (r : Word) → Spares (reads d r) d (claimed_by d r)
  unfolding reads claimed_by claimed_as
  kept_read Domaincfg = kept_same _ d
  kept_read (Sourcecfg i) = kept_same _ d
  kept_read (Setip k) = kept_same _ d
  kept_read Setipnum = kept_same _ d
  kept_read (InClrip k) = kept_same _ d
  kept_read Clripnum = kept_same _ d
  kept_read (Setie k) = kept_same _ d
  kept_read Setienum = kept_same _ d
  kept_read (Clrie k) = kept_same _ d
  kept_read Clrienum = kept_same _ d
  kept_read SetipnumLe = kept_same _ d
  kept_read SetipnumBe = kept_same _ d
  kept_read Genmsi = kept_same _ d
  kept_read (Target i) = kept_same _ d
  kept_read (Idelivery h) = kept_same _ d
  kept_read (Iforce h) = kept_same _ d
  kept_read (Ithreshold h) = kept_same _ d
  kept_read (Topi h) = kept_same _ d
  kept_read (Claimi h) = kept-claimed h
  kept_read Unused = kept_same _ d

-- ---- both domains

-- source i replaced by what g makes of it
module _ (d : Domain) (shaped : DomainShaped d) (i : ℕ) (l : 1 ≤ i) (h : i ≤ 63)
    (g : ℕ → Source → Source) where
  kept-replaced : Spares (sources (eqb i) (eqb i) (eqb i) (eqb i)) d (with_source d i (g i (source_at d i)))
  kept-replaced = kept-wholes (eqb i) g (touched-with_source d i g shaped l (omega arith))

module _ (w : Wired) (long : Long w) where
  shaped_in : (c : Bool) → DomainShaped (domain_in w c)
  unfolding domain_in
  shaped_in true = long.2
  shaped_in false = long.1

  -- ---- a wire

  kept-wire : (i : ℕ) → 1 ≤ i → i ≤ 63 → (level e : Bool)
      → Spares (sources (eqb i) none none none) (domain_in w e) (domain_in (wire_set w i level) e)
  kept-wire i l h level e =
      let was = member w.wires i in
      let d = domain_in w e in
      subst (Spares (sources (eqb i) none none none) d) (sym (at e))
      (kept-pendings (eqb i) (λ j s. wire_changed s (by_messages d) was level)
      (touched-with_source d i (λ j s. wire_changed s (by_messages d) was level) (shaped_in e) l
      (omega arith))
      (λ j s. unfold wire_changed settled in refl) (λ j s. unfold wire_changed settled in refl)
      (λ j s. unfold wire_changed settled in refl))
    where
      at : (e : Bool)
          → domain_in (wire_set w i level) e
          ≡ with_source (domain_in w e) i
          (wire_changed (source_at (domain_in w e) i) (by_messages (domain_in w e)) (member w.wires i) level)
      at true = unfold domain_in wire_set source_wired in refl
      at false = unfold domain_in wire_set source_wired in refl

  other-wire : (i j : ℕ) (level : Bool) → j ≢ i → member (wire_set w i level).wires j ≡ member w.wires j
  unfolding wire_set
  other-wire i j level n = member-put-other w.wires i level j n

  -- ---- a register

  abbrev Stays : Bool → Word → ℕ → Bool → Wired → Type 0
  Stays c r v e w' = Spares (writes_in w c r v e) (domain_in w e) (domain_in w' e) × (w'.wires ≡ w.wires)

  kept-part : (c : Bool) (r : Word) → Within r → (v : ℕ) (e : Bool)
      → Spares (writes_in w c r v e) (domain_in w e) (domain_in (part_written w c r v) e)
  unfolding writes_in domain_in with_domain
  kept-part true r q v true = kept-written w.child long.2 true w.wires r q v
  kept-part true r q v false = kept_same _ w.machine
  kept-part false r q v true = kept_same _ w.child
  kept-part false r q v false = kept-written w.machine long.1 false w.wires r q v

  module _ (i : ℕ) (l : 1 ≤ i) (h : i ≤ 63) (v : ℕ) where
    modes : Domain → ℕ → ℕ → Source → Source
    modes d m j s = moded s (by_messages d) m (member w.wires i)

    kept-source : (c e : Bool)
        → Spares (writes_in w c (Sourcecfg i) v e) (domain_in w e) (domain_in (source_written w c i v) e)
    unfolding writes_in writes domain_in source_written child_written machine_written source_moded modes
    kept-source true true = kept-replaced w.child long.2 i l h (modes w.child _)
    kept-source true false = kept_same _ w.machine
    kept-source false true =
        tested (beq (is_delegated w i) (leb 1024 (source_word false false v)))
        (λ t. rw t (kept_same _ w.child))
        (λ f. rw f (kept-replaced w.child long.2 i l h (λ j s. inactive 0)))
    kept-source false false = kept-replaced w.machine long.1 i l h (modes w.machine _)

    wires-source : (c : Bool) → (source_written w c i v).wires ≡ w.wires
    unfolding source_written child_written machine_written
    wires-source true = refl
    wires-source false = refl

  kept-written_in : (c : Bool) (r : Word) → Within r → (v : ℕ) (e : Bool) → Stays c r v e (written_in w c r v)
  unfolding written_in
  kept-written_in c r q v e = at (role_of r) refl
    where
      part : Stays c r v e (part_written w c r v)
      part = (kept-part c r q v e, wires-with w c _)

      at : (x : Role) → role_of r ≡ x → Stays c r v e (written_as w c r v x)
      at (Claims h) p = unfold written_as in part
      at (Configures i) p =
          unfold written_as in
          let range = configures-range r q i p in (
            subst
                (λ (x : Word). Spares (writes_in w c x v e) (domain_in w e)
                (domain_in (source_written w c i v) e))
                (sym (configures-only r i p)) (kept-source i range.0 range.1 v c e),
            wires-source i range.0 range.1 v c,
          )
      at Generates p = unfold written_as in part
      at Plain p = unfold written_as in part

  kept-claimed_in : (c : Bool) (r : Word) (e : Bool)
      → Spares (reads_in w c r e) (domain_in w e) (domain_in (claimed_in w c r) e)
  unfolding reads_in domain_in with_domain
  kept-claimed_in true r true = kept_read w.child long.2 r
  kept-claimed_in true r false = kept_same _ w.machine
  kept-claimed_in false r true = kept_same _ w.child
  kept-claimed_in false r false = kept_read w.machine long.1 r

pub claim-155 : Claim-155
unfolding Claim-155
claim-155 w long e = (
  (λ i l h level. (kept-wire w long i l h level e, (λ j n. other-wire w long i j level n))),
  (λ c r q v. kept-written_in w long c r q v e),
  (λ c r. (kept-claimed_in w long c r e, wires-with w c _)),
)
