-- Claims 138 and 140, from claims 56, 131, 135 to 137 and the laws of writes and claims. Assumes nothing.
use Prim.Native.Nat.{ℕ, zero, suc, ◌+◌, ◌*◌, ◌/◌, ◌%◌, ◌^◌, ◌≤◌, ◌<◌}
use mathlib.Core.Path.{◌≡◌, refl, sym, ap, ◌∙◌}
use mathlib.Core.Bool.{Bool, true, false, cond, not, ◌&&◌, ◌||◌, or-true, or-false, true≢false}
use mathlib.Core.Bool.{false≢true}
use mathlib.Core.List.{List}
use mathlib.Core.Logic.{◌≢◌}
use native.Mathlib.Omega.{arith}
use lib.Dec.{eqb, leb}
use borrow.Author.Tests.{eq-eqb, leb-true}
use Rattle.words.specs.Bits.{has_bit}
use Rattle.words.specs.Sets.{member}
use Rattle.words.proofs.TestsLaws.{tested}
use Rattle.words.specs.Parts.{field_of, packed}
use Rattle.source_mode.specs.Mode.{is_active, is_level, is_rectified}
use Rattle.source_target.specs.Target.{hart_of, guest_of, number_of, priority_of, receiver_of, kept_target}
use Rattle.domain_region.specs.declared.Word.{Word}
use Rattle.domain_region.specs.declared.Word.TheVariants.{Domaincfg, Sourcecfg, Setip, InClrip, Setie}
use Rattle.domain_region.specs.declared.Word.TheVariants.{Genmsi, Target, Idelivery, Iforce, Ithreshold}
use Rattle.domain_region.specs.declared.Word.TheVariants.{Clrie, Topi, Claimi}
use Rattle.domain_region.specs.declared.role.Role.TheVariants.{Claims}
use Rattle.domain_region.specs.Role.{role_of}
use Rattle.domain_region.proofs.RoleLaws.{claims-only}
use Rattle.source.specs.declared.Source.{Source}
use Rattle.source.specs.declared.Change.TheVariants.{Pend, Clear, Enable}
use Rattle.source.specs.declared.Change.{Change}
use Rattle.source.proofs.PendingLaws.{retargeted-active, retargeted-inactive}
use Rattle.source.specs.Pending.{pended, cleared, switched, changed}
use Rattle.domain.specs.Domain.{Domain, by_messages}
use Rattle.domain.specs.Slot.{source_at}
use Rattle.domain.specs.Structure.{structure_at}
use Rattle.domain_laws.specs.Shape.{DomainShaped}
use Rattle.domain_domaincfg.specs.Domaincfg.{kept_domaincfg}
use Rattle.domain_writes.specs.Writes.{word_changed}
use Rattle.domain_writes_laws.specs.Named.{named}
use Rattle.domain_writes_laws.proofs.DomaincfgEffects.{became-domaincfg_written}
use Rattle.domain_writes_laws.proofs.WritesEffects.{touched-word_changed, source_at-target_written-same}
use Rattle.domain_inputs.specs.Inputs.{input_bit, inputs_to, input_word}
use Rattle.domain_direct.specs.declared.Setting.TheVariants as setting
use Rattle.domain_direct.specs.Direct.{number_at}
use Rattle.domain_direct.proofs.DirectLaws.{setting-direct}
use Rattle.domain_registers.specs.Read.{register_value}
use Rattle.domain_registers.specs.Write.{register_written}
use Rattle.domain_registers.proofs.ReadLaws.{claimed-by, claimed-none}
use Rattle.wired_state.specs.Wires.{Wired, domain_in, with_domain}
use Rattle.wired_registers.specs.Wired.{read_in, part_written, written_as, written_in}
use Rattle.wired_laws.proofs.ReadEffects.{claimed_in-none}
use Rattle.claims_registers.specs.Rules.{Long, Sound}
use Rattle.claims_registers.specs.Registers.{Bit, Claim-132}
use Rattle.claims_registers.specs.Settings.{Claim-135, Claim-136}
use Rattle.claims_registers.specs.Sourcecfg.{ModeOf, Claim-137}
use Rattle.claims_registers.specs.Accesses.{read_back, sets_pending, Claim-138}
use Rattle.claims_registers.specs.Accesses.{Claim-140}
use Rattle.claims_registers.proofs.Registers.{rules-in, claim-132}
use Rattle.claims_registers.proofs.Settings.{claim-135, claim-136}
use Rattle.claims_registers.proofs.Sourcecfg.{claim-137}

-- ---- one of the two domains

module _ (w : Wired) where
  own-with : (c : Bool) (d : Domain) → domain_in (with_domain w c d) c ≡ d
  unfolding domain_in with_domain
  own-with true d = refl
  own-with false d = refl

  pub wires-with : (c : Bool) (d : Domain) → (with_domain w c d).wires ≡ w.wires
  unfolding with_domain
  wires-with true d = refl
  wires-with false d = refl

-- ---- what a read leaves

no-claim : (r : Word) → ((h : ℕ) → r ≢ Claimi h) → (h : ℕ) → role_of r ≢ Claims h
no-claim r n h e = n h (claims-only r h e)

pub claim-140 : Claim-140
unfolding Claim-140
claim-140 = (
  λ d r n. claimed-none d r (no-claim r n),
  λ w c r n. claimed_in-none w c r (no-claim r n),
  λ w h. unfold with_domain domain_in in (
    rw (claimed-by w.machine (Claimi h) h refl),
    rw (claimed-by w.child (Claimi h) h refl),
  ),
)

-- ---- write, then read

-- a register that is no sourcecfg is written in its domain alone
part-back : (w : Wired) (c : Bool) (v : ℕ) (r : Word) → written_in w c r v ≡ part_written w c r v
    → read_back w c v r ≡ register_value (register_written c (domain_in w c) w.wires r v) w.wires r
part-back w c v r e =
    let d' = register_written c (domain_in w c) w.wires r v in
    ap (λ (x : Wired). read_in x c r) e ∙ rw (own-with w c d', wires-with w c d')

domaincfg-plain : (v : ℕ) → kept_domaincfg v ≡ v / 256 % 2 * 256 + v / 4 % 2 * 4
unfolding kept_domaincfg packed field_of
domaincfg-plain v = omega arith

-- what a target keeps
target-plain : (c m : Bool) (v : ℕ)
    → kept_target c m v
    ≡ v / 2 ^ 18 % 4 * 2 ^ 18
    + cond m (cond c (v / 2 ^ 12 % 4 * 2 ^ 12) 0 + v % 256) (cond (eqb (v % 256) 0) 1 (v % 256))
unfolding kept_target receiver_of priority_of packed hart_of guest_of number_of field_of
target-plain true true v = omega arith
target-plain false true v = omega arith
target-plain c false v =
    let low : v / 2 ^ 0 % 2 ^ 8 ≡ v % 256 = omega arith in
    rw low (omega arith)

-- the pending bit after a write of the setip family
pended-bit : (s : Source) (m wire named : Bool)
    → (cond named (pended s m wire) s).pending
    ≡ (s.pending
    || (named && (is_active s.mode && (not (is_level s.mode) || (m && is_rectified s.mode wire)))))
unfolding pended
pended-bit s m wire false = sym (or-false s.pending)
pended-bit s m wire true =
    tested (is_active s.mode)
    (λ a. tested (is_level s.mode) (λ t. simp (a, t)) (λ f. simp (a, f, or-true)))
    (λ f. simp (f, or-false))

switched-bit : (s : Source) (named : Bool)
    → (cond named (switched s true) s).enabled ≡ (s.enabled || (named && is_active s.mode))
unfolding switched
switched-bit s false = sym (or-false s.enabled)
switched-bit s true = tested (is_active s.mode) (λ t. simp (t, or-true)) (λ f. simp (f, or-false))

-- in_clrip reads the same where the modes are the same
input-same : (d d' : Domain) (ws : List ℕ) (i : ℕ)
    → (1 ≤ i → (source_at d' i).mode ≡ (source_at d i).mode) → input_bit d' ws i ≡ input_bit d ws i
unfolding input_bit
input-same d d' ws i same =
    tested (leb 1 i) (λ t. rw (same (leb-true 1 i t))) (λ f. rw f)

inputs-same : (d d' : Domain) (ws : List ℕ) (k n : ℕ)
    → ((i : ℕ) → 1 ≤ i → i < 32 * k + n → (source_at d' i).mode ≡ (source_at d i).mode)
    → inputs_to d' ws k n ≡ inputs_to d ws k n
unfolding inputs_to
inputs-same d d' ws k zero same = refl
inputs-same d d' ws k (suc n) same =
    rw (
      inputs-same d d' ws k n (λ i l h. same i l (omega arith)),
      input-same d d' ws (32 * k + n) (λ l. same (32 * k + n) l (omega arith)),
    )

shaped_in : (w : Wired) → Long w → (c : Bool) → DomainShaped (domain_in w c)
unfolding domain_in
shaped_in w long true = long.2
shaped_in w long false = long.1

as_number : {a b : Bool} → a ≡ b → ◌≡◌ {A = ℕ} (cond a 1 0) (cond b 1 0)
as_number e = ap (λ (x : Bool). cond x 1 0) e

-- a source of word k is named by its bit
named-bit : (k n v : ℕ) → n < 32 → named k v (32 * k + n) ≡ has_bit v n
unfolding named
named-bit k n v h =
    let word : (32 * k + n) / 32 ≡ k = omega arith in
    let bit : (32 * k + n) % 32 ≡ n = omega arith in
    rw (word, bit, eq-eqb k k refl)

module _ (d : Domain) (wires : List ℕ) (h : ℕ) (direct : by_messages d ≡ false) where
  idelivery-read : register_value d wires (Idelivery h) ≡ (structure_at d h).idelivery
  unfolding register_value number_at
  idelivery-read = setting-direct d h setting.Idelivery direct

  iforce-read : register_value d wires (Iforce h) ≡ (structure_at d h).iforce
  unfolding register_value number_at
  iforce-read = setting-direct d h setting.Iforce direct

-- a sourcecfg, in either domain
module _ (w : Wired) (sound : Sound w) (i : ℕ) (l : 1 ≤ i) (h : i ≤ 63) (v : ℕ) where
  machine-back : (c : Bool) → c ≡ false
      → (v / 1024 % 2 ≡ 1 → read_back w c v (Sourcecfg i) ≡ 1024)
      × (v / 1024 % 2 ≡ 0 → ModeOf v (read_back w c v (Sourcecfg i)))
  unfolding Claim-137 register_value domain_in
  machine-back true e = absurd (true≢false e)
  machine-back false e =
      let written = (claim-137 w sound.0 i l h v).0 in
      (written.0, written.1)

  child-back : (c : Bool) → c ≡ true
      → (v / 1024 % 2 ≡ 1 → read_back w c v (Sourcecfg i) ≡ 0)
      × ((source_at w.machine i).mode ≢ 1024 → read_back w c v (Sourcecfg i) ≡ 0)
      × (v / 1024 % 2 ≡ 0 → (source_at w.machine i).mode ≡ 1024 → ModeOf v (read_back w c v (Sourcecfg i)))
  unfolding Claim-137 register_value domain_in
  child-back false e = absurd (false≢true e)
  child-back true e =
      let written = (claim-137 w sound.0 i l h v).1 in
      (written.0, written.1 sound.1, written.2)

module _ (w : Wired) (sound : Sound w) (c : Bool) (v : ℕ) where
  abbrev own : Domain
  own = domain_in w c

  shaped : DomainShaped own
  shaped = shaped_in w sound.0 c

  domaincfg-back : read_back w c v Domaincfg ≡ 0x80000000 + v / 256 % 2 * 256 + v / 4 % 2 * 4
  unfolding written_in written_as register_value register_written
  domaincfg-back =
      part-back w c v Domaincfg refl
      ∙ omega (arith, (became-domaincfg_written own w.wires v shaped).domaincfg, domaincfg-plain v)

  -- a source after a write to a word of a family
  word_made : (family : Change) (k n : ℕ) → k < 2 → n < 32 → 1 ≤ 32 * k + n
      → source_at (word_changed own w.wires family k v) (32 * k + n)
      ≡ cond (has_bit v n)
      (changed (source_at own (32 * k + n)) family (by_messages own) (member w.wires (32 * k + n)))
      (source_at own (32 * k + n))
  word_made family k n l h at =
      (touched-word_changed own w.wires family v shaped k l).source (32 * k + n) at (omega arith)
      ∙ rw (named-bit k n v h)

  setip-back : (k n : ℕ) → k < 2 → n < 32 → 1 ≤ 32 * k + n
      → Bit (read_back w c v (Setip k)) n
      ((source_at own (32 * k + n)).pending || (has_bit v n && sets_pending w c (32 * k + n)))
  unfolding written_in written_as register_written changed Claim-132
  setip-back k n l h at =
      let i = 32 * k + n in
      let d' = word_changed own w.wires Pend k v in
      rw (part-back w c v (Setip k) refl)
      (((claim-132 d' w.wires k).0 n h).0
      ∙ as_number (ap (λ (s : Source). s.pending) (word_made Pend k n l h at)
      ∙ pended-bit (source_at own i) (by_messages own) (member w.wires i) (has_bit v n)))

  setie-back : (k n : ℕ) → k < 2 → n < 32 → 1 ≤ 32 * k + n
      → Bit (read_back w c v (Setie k)) n
      ((source_at own (32 * k + n)).enabled || (has_bit v n && is_active (source_at own (32 * k + n)).mode))
  unfolding written_in written_as register_written changed Claim-132
  setie-back k n l h at =
      let i = 32 * k + n in
      let d' = word_changed own w.wires Enable k v in
      rw (part-back w c v (Setie k) refl)
      (((claim-132 d' w.wires k).0 n h).1
      ∙ as_number (ap (λ (s : Source). s.enabled) (word_made Enable k n l h at)
      ∙ switched-bit (source_at own i) (has_bit v n)))

  zero-back : Bit (read_back w c v (Setip 0)) 0 false × Bit (read_back w c v (Setie 0)) 0 false
  unfolding written_in written_as register_written Claim-132 source_at
  zero-back =
      let rules = (rules-in w sound c).zero in (
        rw (part-back w c v (Setip 0) refl) (((claim-132 _ w.wires 0).0 0 (omega arith)).0
            ∙ as_number ((touched-word_changed own w.wires Pend v shaped 0 (omega arith)).pending-zero
            ∙ rules.0)),
        rw (part-back w c v (Setie 0) refl) (((claim-132 _ w.wires 0).0 0 (omega arith)).1
            ∙ as_number ((touched-word_changed own w.wires Enable v shaped 0 (omega arith)).enable-zero
            ∙ rules.1)),
      )

  in-clrip-back : (k : ℕ) → k < 2 → read_back w c v (InClrip k) ≡ read_in w c (InClrip k)
  unfolding written_in written_as register_value register_written changed cleared input_word
  in-clrip-back k l =
      let d' = word_changed own w.wires Clear k v in
      let made = touched-word_changed own w.wires Clear v shaped k l in
      part-back w c v (InClrip k) refl
      ∙ inputs-same own d' w.wires k 32
      (λ j at h. ap (λ (s : Source). s.mode) (made.source j at (omega arith))
      ∙ tested (named k v j) (λ t. rw t) (λ f. rw f))

  delivery-back : (h : ℕ) → h < 4 → by_messages own ≡ false
      → (v ≤ 1 → (read_back w c v (Idelivery h) ≡ v) × (read_back w c v (Iforce h) ≡ v))
      × (1 < v → (read_back w c v (Idelivery h) ≡ read_in w c (Idelivery h))
      × (read_back w c v (Iforce h) ≡ read_in w c (Iforce h)))
      × (read_back w c v (Ithreshold h) ≡ v % 256)
  unfolding written_in written_as Claim-135
  delivery-back h l direct =
      let numbers = (claim-135 c own w.wires h v shaped l).0 direct in
      let idelivery = part-back w c v (Idelivery h) refl in
      let iforce = part-back w c v (Iforce h) refl in (
        λ low. (idelivery ∙ (numbers.0 low).idelivery.1, iforce ∙ (numbers.2 low).iforce.1),
        λ high. (
          idelivery ∙ (numbers.1 high).idelivery.1 ∙ sym (idelivery-read own w.wires h direct),
          iforce ∙ (numbers.3 high).iforce.1 ∙ sym (iforce-read own w.wires h direct),
        ),
        part-back w c v (Ithreshold h) refl ∙ numbers.4.ithreshold.1,
      )

  messages-back : (h : ℕ) → h < 4 → by_messages own ≡ true
      → (read_back w c v (Idelivery h) ≡ 0) × (read_back w c v (Iforce h) ≡ 0)
      × (read_back w c v (Ithreshold h) ≡ 0)
  unfolding written_in written_as Claim-135
  messages-back h l m =
      let none = (claim-135 c own w.wires h v shaped l).1 m in (
        part-back w c v (Idelivery h) refl ∙ rw none.3 none.0,
        part-back w c v (Iforce h) refl ∙ rw none.4 none.1,
        part-back w c v (Ithreshold h) refl ∙ rw none.5 none.2,
      )

  -- topi, claimi, and what reads 0
  rest_back : ((h : ℕ) → read_back w c v (Topi h) ≡ read_in w c (Topi h))
      × ((h : ℕ) → read_back w c v (Claimi h) ≡ read_in w c (Claimi h))
      × ((k : ℕ) → read_back w c v (Clrie k) ≡ 0)
  unfolding written_in written_as register_value register_written
  rest_back = (
    λ h. part-back w c v (Topi h) refl,
    λ h. part-back w c v (Claimi h) refl,
    λ k. refl,
  )

  genmsi-back : read_back w c v Genmsi ≡ cond (by_messages own) (v / 2 ^ 18 % 4 * 2 ^ 18 + v % 256) 0
  unfolding written_in written_as Claim-136
  genmsi-back =
      let both = claim-136.0 c own w.wires v shaped in
      part-back w c v Genmsi refl
      ∙ tested (by_messages own) (λ t. (both.0 t).1 ∙ rw t) (λ f. rw (both.1 f).0 ((both.1 f).1 ∙ rw f))

  target-back : (i : ℕ) → 1 ≤ i → i ≤ 63 → is_active (source_at own i).mode ≡ true
      → read_back w c v (Target i)
      ≡ v / 2 ^ 18 % 4 * 2 ^ 18
      + cond (by_messages own) (cond c (v / 2 ^ 12 % 4 * 2 ^ 12) 0 + v % 256)
      (cond (eqb (v % 256) 0) 1 (v % 256))
  unfolding written_in written_as register_value register_written
  target-back i l h a =
      part-back w c v (Target i) refl
      ∙ ap (λ (s : Source). s.target)
      (source_at-target_written-same c own i v shaped (omega arith)
      ∙ retargeted-active (source_at own i) (by_messages own) c v a)
      ∙ target-plain c (by_messages own) v

  inactive-back : (i : ℕ) → 1 ≤ i → i ≤ 63 → is_active (source_at own i).mode ≡ false
      → read_back w c v (Target i) ≡ 0
  unfolding written_in written_as register_value register_written
  inactive-back i l h f =
      part-back w c v (Target i) refl
      ∙ ap (λ (s : Source). s.target)
      (source_at-target_written-same c own i v shaped (omega arith)
      ∙ retargeted-inactive (source_at own i) (by_messages own) c v f)
      ∙ (((rules-in w sound c).sources i l h).inactive f).0

pub claim-138 : Claim-138
unfolding Claim-138
claim-138 w sound c v =
    let rest = rest_back w sound c v in
    let delivery = delivery-back w sound c v in
    record {
      domaincfg = domaincfg-back w sound c v;
      sourcecfg = λ i l h. machine-back w sound i l h v c;
      child-sourcecfg = λ i l h. child-back w sound i l h v c;
      setip = setip-back w sound c v;
      setie = setie-back w sound c v;
      zero = zero-back w sound c v;
      in-clrip = in-clrip-back w sound c v;
      clrie = λ k l. rest.2 k;
      numbers = unfold register_value in (refl, refl, refl, refl, refl, refl);
      genmsi = genmsi-back w sound c v;
      target = target-back w sound c v;
      inactive-target = inactive-back w sound c v;
      idelivery = λ h l m. (λ low. ((delivery h l m).0 low).0, λ high. ((delivery h l m).1 high).0);
      iforce = λ h l m. (λ low. ((delivery h l m).0 low).1, λ high. ((delivery h l m).1 high).1);
      ithreshold = λ h l m. (delivery h l m).2;
      by-messages = messages-back w sound c v;
      topi = λ h l. rest.0 h;
      claimi = λ h l. rest.1 h;
      unused = unfold register_value in refl;
    }
