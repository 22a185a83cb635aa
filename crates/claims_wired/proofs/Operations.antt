-- Claim-59, from the laws of writes, claims, sending and the wired controller. Assumes nothing.
use Prim.Native.Nat.{ℕ, ◌/◌, ◌%◌, ◌≤◌, ◌<◌}
use mathlib.Core.Path.{◌≡◌, refl, sym, ◌∙◌}
use mathlib.Core.Bool.{true, false}
use mathlib.Core.List.{List}
use mathlib.Core.Logic.{◌≢◌}
use native.Mathlib.Omega.{arith}
use borrow.Author.Tests.{eq-eqb}
use Rattle.words.specs.Bits.{has_bit}
use Rattle.words.specs.Parts.{reversed}
use Rattle.words.specs.Sets.{member}
use Rattle.words.proofs.PartsLaws.{reversed-back}
use Rattle.domain_region.specs.declared.Word.TheVariants.{Claimi}
use Rattle.source.specs.declared.Source.{Source}
use Rattle.source.specs.declared.Change.{Change}
use Rattle.source.specs.declared.Change.TheVariants.{Pend, Clear}
use Rattle.source.specs.Pending.{cleared, changed}
use Rattle.domain.specs.Domain.{Domain, by_messages}
use Rattle.domain.specs.Slot.{source_at}
use Rattle.domain_laws.specs.Shape.{DomainShaped}
use Rattle.domain_laws.proofs.SlotEffects.{source_at-with_source-same}
use Rattle.domain_writes.specs.Writes.{word_changed, number_changed}
use Rattle.domain_writes_laws.specs.Named.{named}
use Rattle.domain_writes_laws.proofs.WritesEffects.{touched-word_changed, touched-number_changed}
use Rattle.domain_direct.specs.Direct.{top_source, released}
use Rattle.domain_direct.proofs.DirectLaws.{claimed-some}
use Rattle.domain_registers.specs.Write.{register_written}
use Rattle.domain_registers.specs.Read.{claimed_by}
use Rattle.domain_registers.proofs.ReadLaws.{claimed-by}
use Rattle.domain_sending_laws.proofs.SendingEffects.{sent-source, spent-hit}
use Rattle.wired_state.specs.Wires.{wire_set, source_wired}
use Rattle.wired_sourcecfg.specs.Delegation.{source_moded, child_written, machine_written}
use Rattle.wired_sourcecfg.specs.Delegation.{source_written}
use Rattle.claims_domain.specs.Causes.{happens}
use Rattle.claims_wired.specs.Operations.{Claim-59}
use Rattle.claims_registers.proofs.Writes.{word-written}

module _ (d : Domain) (wires : List ℕ) (family : Change) (shaped : DomainShaped d) (i : ℕ) (l : 1 ≤ i)
    (h : i < 64) where
  -- what the family makes of source i
  abbrev made : Source
  made = changed (source_at d i) family (by_messages d) (member wires i)

  word-does : (v : ℕ) → has_bit v (i % 32) ≡ true → source_at (word_changed d wires family (i / 32) v) i
      ≡ made
  unfolding named
  word-does v b =
      (touched-word_changed d wires family v shaped (i / 32) (omega arith)).source i l h
      ∙ rw (eq-eqb (i / 32) (i / 32) refl, b)

  number-does : source_at (number_changed d wires family i) i ≡ made
  number-does =
      (touched-number_changed d wires family i shaped).source i l h ∙ rw (eq-eqb i i refl)

claim-does : (d : Domain) (h i : ℕ) → DomainShaped d → i < 64 → i ≢ 0 → by_messages d ≡ false
    → top_source d h ≡ i → source_at (claimed_by d (Claimi h)) i ≡ cleared (source_at d i) (by_messages d)
unfolding released
claim-does d h i shaped u n m e =
    let some : top_source d h ≢ 0 = λ z. n (sym e ∙ z) in
    rw (claimed-by d (Claimi h) h refl, claimed-some d h m some, e, m)
    (source_at-with_source-same d i (cleared (source_at d i) false) shaped u)

pub claim-59 : Claim-59
unfolding Claim-59 happens register_written changed
claim-59 = (
  λ c d wires i shaped l h.
      let u : i < 64 = omega arith in
      let turned : reversed (reversed i) ≡ i = reversed-back i (omega arith) in (
        λ v b. (word-does d wires Pend shaped i l u v b, word-does d wires Clear shaped i l u v b),
        number-does d wires Pend shaped i l u,
        number-does d wires Pend shaped i l u,
        rw turned (number-does d wires Pend shaped i l u),
        number-does d wires Clear shaped i l u,
        λ g q m e. claim-does d g i shaped u (λ z. omega arith) m e,
        λ on to. sent-source c d on i l u ∙ spent-hit (source_at d i) to,
      ),
  λ w long i l h level. unfold wire_set source_wired in (
    source_at-with_source-same w.machine i _ long.1 (omega arith),
    source_at-with_source-same w.child i _ long.2 (omega arith),
  ),
  λ w long i l h v. (
    rw (word-written w false i v) (unfold source_written machine_written source_moded in
        source_at-with_source-same w.machine i _ long.1 (omega arith)),
    rw (word-written w true i v) (unfold source_written child_written source_moded in
        source_at-with_source-same w.child i _ long.2 (omega arith)),
  ),
)
