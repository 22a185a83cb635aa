-- Claim-137, from the laws of modes and of delegation, and Claim-94. Assumes nothing.
use Prim.Native.Nat.{ℕ, ◌/◌, ◌%◌, ◌≤◌, ◌<◌}
use mathlib.Core.Path.{◌≡◌, refl, sym, ap, ◌∙◌}
use mathlib.Core.Bool.{Bool, true, false, beq}
use mathlib.Core.Logic.{◌≢◌, ⊎_elim, inl, inr}
use native.Mathlib.Omega.{arith}
use lib.Dec.{leb}
use borrow.Author.Tests.{lt-leb, le-leb}
use Rattle.words.specs.Bits.{has_bit}
use Rattle.words.specs.Parts.{field_of}
use Rattle.words.specs.Sets.{member}
use Rattle.words.proofs.TestsLaws.{tested}
use Rattle.source_mode.specs.Mode.{kept_mode, source_word}
use Rattle.source_mode.proofs.ModeLaws.{kept_reserved, kept-other, word-child-bit, word-child-has}
use Rattle.source_mode.proofs.ModeLaws.{word-child-not, word-delegated, word-machine}
use Rattle.source.specs.declared.Source.{Source}
use Rattle.source.specs.Pending.{inactive}
use Rattle.domain.specs.Domain.{Domain, by_messages}
use Rattle.domain.specs.Slot.{source_at, with_source}
use Rattle.domain_laws.specs.Shape.{DomainShaped}
use Rattle.domain_laws.proofs.SlotEffects.{source_at-with_source-same, source_at-with_source-other}
use Rattle.domain_laws.proofs.SlotEffects.{structure_at-with_source}
use Rattle.domain_laws.proofs.OwnEffects.{domaincfg_of-with_source, genmsi_of-with_source}
use Rattle.wired_state.specs.Wires.{Wired, domain_in, is_delegated}
use Rattle.wired_state.proofs.WiresLaws.{delegated-mode}
use Rattle.wired_sourcecfg.specs.Delegation.{source_moded, child_written, machine_written, source_written}
use Rattle.wired_sourcecfg.proofs.DelegationLaws.{machine-stays, machine-moves}
use Rattle.wired_rules.specs.Rules.{wired_sound}
use Rattle.claims_registers.specs.Rules.{Long}
use Rattle.claims_registers.specs.Modes.{Claim-94}
use Rattle.claims_registers.specs.Sourcecfg.{ModeOf, SourceAlone, WrittenInMachine, WrittenInChild}
use Rattle.claims_registers.specs.Sourcecfg.{Claim-137}
use Rattle.claims_registers.proofs.Modes.{claim-94}
use Rattle.claims_registers.proofs.Registers.{bit-one, rules-in}
use Rattle.claims_registers.proofs.Writes.{word-written}

-- ---- the number

module _ (v : ℕ) where
  kept-plain : ModeOf v (kept_mode v)
  unfolding field_of
  kept-plain =
      let low : field_of v 0 3 ≡ v % 8 = omega arith in (
        λ e. kept_reserved v (⊎_elim (λ t. inl (low ∙ t)) (λ t. inr (low ∙ t)) e),
        λ a b. kept-other v (λ t. a (sym low ∙ t)) (λ t. b (sym low ∙ t)) ∙ low,
      )

  bit-clear : v / 1024 % 2 ≡ 0 → has_bit v 10 ≡ false
  bit-clear z =
      tested (has_bit v 10) (λ t. absurd (omega (arith, (bit-one v 10).1 t))) (λ f. f)

-- ---- the rest stays

module _ (d : Domain) (i : ℕ) where
  alone-none : SourceAlone i d d
  alone-none =
      record { others = λ j n. refl; domaincfg = refl; genmsi = refl; structures = λ h. refl }

  pub alone-put : 1 ≤ i → (s : Source) → SourceAlone i d (with_source d i s)
  alone-put l s =
      record {
        others = source_at-with_source-other d i s;
        domaincfg = domaincfg_of-with_source d i s l;
        genmsi = genmsi_of-with_source d i s l;
        structures = structure_at-with_source d i s;
      }

  -- the word of a source that was written
  stored-word : DomainShaped d → i < 64 → (m : ℕ) (wire : Bool)
      → (source_at (source_moded d i m wire) i).mode ≡ m
  unfolding source_moded Claim-94
  stored-word shaped h m wire =
      ap (λ (s : Source). s.mode) (source_at-with_source-same d i _ shaped h)
      ∙ (claim-94 (by_messages d) wire (source_at d i) m).mode

-- the child after a write to the machine domain
machine-alone : (w : Wired) (i v : ℕ) → 1 ≤ i → SourceAlone i w.child (machine_written w i v).child
machine-alone w i v l =
    tested (beq (is_delegated w i) (leb 1024 (source_word false false v)))
    (λ t. rw (machine-stays w i v t) (alone-none w.child i))
    (λ f. rw (machine-moves w i v f) (alone-put w.child i l (inactive 0)))

-- what is stored, from the word that a write makes
mode-as : (v m : ℕ) → m ≡ kept_mode v → ModeOf v m
mode-as v m e = (λ r. e ∙ (kept-plain v).0 r, λ a b. e ∙ (kept-plain v).1 a b)

module _ (w : Wired) (long : Long w) (i : ℕ) (l : 1 ≤ i) (h : i ≤ 63) (v : ℕ) where
  in-machine : WrittenInMachine w i v
  in-machine =
      let word = stored-word w.machine i long.1 (omega arith) (source_word false false v)
      (member w.wires i) in
      rw (word-written w false i v) (unfold source_written machine_written in (
        λ t. word ∙ word-delegated v false false refl ((bit-one v 10).0 t),
        λ z. mode-as v _ (word ∙ word-machine v false false refl (bit-clear v z)),
        unfold source_moded in alone-put w.machine i l _,
        machine-alone w i v l,
        refl,
      ))

  -- a sound machine domain has a mode or 1024
  undelegated : wired_sound w ≡ true → (source_at w.machine i).mode ≢ 1024 → is_delegated w i ≡ false
  unfolding domain_in
  undelegated sound n =
      delegated-mode w i
      ∙ lt-leb 1024 (source_at w.machine i).mode
      (⊎_elim (λ p. omega (arith, p.0)) (λ p. absurd (n p.1))
      ((rules-in w (long, sound) false).sources i l h).mode)

  in-child : WrittenInChild w i v
  in-child =
      let word = stored-word w.child i long.2 (omega arith) (source_word true (is_delegated w i) v)
      (member w.wires i) in
      rw (word-written w true i v) (unfold source_written child_written in (
        λ t. word ∙ word-child-bit v true (is_delegated w i) refl ((bit-one v 10).0 t),
        λ sound n. word ∙ word-child-not v true (is_delegated w i) refl (undelegated sound n),
        λ z e. mode-as v _ (word ∙ word-child-has v true (is_delegated w i) refl
            (delegated-mode w i ∙ le-leb 1024 (source_at w.machine i).mode (omega arith)) (bit-clear v z)),
        unfold source_moded in alone-put w.child i l _,
        refl,
        refl,
      ))

pub claim-137 : Claim-137
unfolding Claim-137
claim-137 w long i l h v = (in-machine w long i l h v, in-child w long i l h v)
