-- What the writes of specs/Writes.antt make of each source, and that they leave the rest of the domain. No
-- contract cites this file. Assumes nothing.
--   touched-..     the whole of it, as specs/Became.antt of domain_laws has it
--   source_at-..   one source of it: -same the one that was named, -other any other
use Prim.Native.Nat.{ℕ, zero, suc, ◌+◌, ◌/◌, ◌%◌, ◌≤◌, ◌<◌}
use mathlib.Core.Path.{◌≡◌, refl, sym, ◌∙◌}
use mathlib.Core.Bool.{Bool, true, false, cond, ◌&&◌}
use mathlib.Core.List.{List}
use mathlib.Core.Logic.{◌≢◌}
use native.Mathlib.Omega.{arith}
use lib.Dec.{eqb, leb, ltb}
use borrow.Author.Tests.{eq-eqb, ne_eqb, leb-true, leb-false, ltb-true, ltb-false}
use Rattle.words.specs.Bits.{has_bit}
use Rattle.words.specs.Sets.{member}
use Rattle.words.proofs.TestsLaws.{tested}
use Rattle.source.specs.declared.Source.{Source}
use Rattle.source.specs.declared.Change.{Change}
use Rattle.source.specs.Pending.{changed, retargeted}
use Rattle.domain.specs.Domain.{Domain, by_messages}
use Rattle.domain.specs.Slot.{source_at, with_source}
use Rattle.domain_laws.specs.Shape.{DomainShaped}
use Rattle.domain_laws.specs.Became.{Touched}
use Rattle.domain_laws.specs.Each.{with_each, among}
use Rattle.domain_laws.proofs.EachEffects.{touched-with_each, among_in, among_below, among-above}
use Rattle.domain_laws.proofs.OwnEffects.{by_messages-with_source}
use Rattle.domain_laws.proofs.SlotEffects.{with_source-back}
use Rattle.domain_laws.proofs.SlotEffects.{source_at-with_source-same, source_at-with_source-other}
use Rattle.domain_laws.proofs.BecameEffects.{touched_none, touched-as, touched-with_source}
use Rattle.domain_writes.specs.Writes.{changed_at, changed_bit, changed_from, word_changed, number_changed}
use Rattle.domain_writes.specs.Writes.{target_written}
use Rattle.domain_writes.proofs.WritesLaws.{bit-set, bit-clear, word_first, word-second}
use Rattle.domain_writes.proofs.WritesLaws.{number-below, number-above, number-within}
use Rattle.domain_writes_laws.specs.Named.{named, changing}

-- ---- one source named

module _ (d : Domain) (ws : List ℕ) (c : Change) (i : ℕ) where
  pub source_at-changed_at-same : DomainShaped d → i < 64
      → source_at (changed_at d ws c i) i ≡ changed (source_at d i) c (by_messages d) (member ws i)
  unfolding changed_at
  source_at-changed_at-same = source_at-with_source-same d i _

  pub source_at-changed_at-other : (j : ℕ) → j ≢ i → source_at (changed_at d ws c i) j ≡ source_at d j
  unfolding changed_at
  source_at-changed_at-other = source_at-with_source-other d i _

  pub touched-changed_at : DomainShaped d → 1 ≤ i → i < 64
      → Touched d (changed_at d ws c i) (changing d ws c (eqb i))
  unfolding changed_at
  touched-changed_at = touched-with_source d i (λ j s. changed s c (by_messages d) (member ws j))

module _ (c : Bool) (d : Domain) (i v : ℕ) where
  pub source_at-target_written-same : DomainShaped d → i < 64
      → source_at (target_written c d i v) i ≡ retargeted (source_at d i) c (by_messages d) v
  unfolding target_written
  source_at-target_written-same = source_at-with_source-same d i _

  pub source_at-target_written-other : (j : ℕ) → j ≢ i → source_at (target_written c d i v) j ≡ source_at d j
  unfolding target_written
  source_at-target_written-other = source_at-with_source-other d i _

  pub touched-target_written : DomainShaped d → 1 ≤ i → i < 64
      → Touched d (target_written c d i v) (λ j s. cond (eqb i j) (retargeted s c (by_messages d) v) s)
  unfolding target_written
  touched-target_written = touched-with_source d i (λ j s. retargeted s c (by_messages d) v)

-- ---- a number

module _ (d : Domain) (ws : List ℕ) (c : Change) (v : ℕ) (shaped : DomainShaped d) where
  number-none : ((j : ℕ) → 1 ≤ j → j < 64 → v ≢ j) → number_changed d ws c v ≡ d
      → Touched d (number_changed d ws c v) (changing d ws c (eqb v))
  number-none apart e =
      rw e (touched-as (touched_none d shaped) (changing d ws c (eqb v))
      (λ j l h. rw (ne_eqb v j (apart j l h))))

  pub touched-number_changed : Touched d (number_changed d ws c v) (changing d ws c (eqb v))
  touched-number_changed =
      tested (leb 1 v)
      (λ t. tested (leb v 63)
      (λ u. rw (number-within d ws c v (leb-true 1 v t) (leb-true v 63 u))
      (touched-changed_at d ws c v shaped (leb-true 1 v t) (omega (arith, leb-true v 63 u))))
      (λ u. let high = leb-false v 63 u in
      number-none (λ j l h e. omega arith) (number-above d ws c v high)))
      (λ f. let low = leb-false 1 v f in number-none (λ j l h e. omega arith) (number-below d ws c v low))

-- ---- a word

module _ (ws : List ℕ) (c : Change) (v : ℕ) (m : Bool) where
  -- what a word makes of source j, in the delivery mode m
  abbrev bit_changing : ℕ → Source → Source
  bit_changing j s = cond (has_bit v (j % 32)) (changed s c m (member ws j)) s

  changed_bit-put : (d : Domain) (i : ℕ) → by_messages d ≡ m
      → changed_bit d ws c v i ≡ with_source d i (bit_changing i (source_at d i))
  unfolding changed_at
  changed_bit-put d i e =
      tested (has_bit v (i % 32)) (λ t. bit-set d ws c v i t ∙ rw (t, e))
      (λ f. bit-clear d ws c v i f ∙ rw f (sym (with_source-back d i)))

  changed_from-each : (d : Domain) (i n : ℕ) → by_messages d ≡ m → 1 ≤ i
      → changed_from d ws c v i n ≡ with_each bit_changing d i n
  unfolding changed_from with_each
  changed_from-each d i zero e l = refl
  changed_from-each d i (suc n) e l =
      rw (changed_bit-put d i e)
      (changed_from-each (with_source d i (bit_changing i (source_at d i))) (suc i) n
      (by_messages-with_source d i _ l ∙ e) (omega arith))

cond-and : (a b : Bool) (s t : Source) → cond a (cond b s t) t ≡ cond (a && b) s t
cond-and true b s t = refl
cond-and false b s t = refl

-- the sources of each word
module _ (j : ℕ) where
  word-zero : 1 ≤ j → among 1 31 j ≡ eqb (j / 32) 0
  word-zero l =
      tested (ltb j 32)
      (λ t. let h = ltb-true j 32 t in among_in 1 31 j l h ∙ sym (eq-eqb (j / 32) 0 (omega arith)))
      (λ f. let h = ltb-false j 32 f in among-above 1 31 j h ∙ sym (ne_eqb (j / 32) 0 (λ e. omega arith)))

  word-one : j < 64 → among 32 32 j ≡ eqb (j / 32) 1
  word-one u =
      tested (ltb j 32)
      (λ t. let h = ltb-true j 32 t in among_below 32 32 j h ∙ sym (ne_eqb (j / 32) 1 (λ e. omega arith)))
      (λ f. let h = ltb-false j 32 f in among_in 32 32 j h u ∙ sym (eq-eqb (j / 32) 1 (omega arith)))

module _ (d : Domain) (ws : List ℕ) (c : Change) (v : ℕ) (shaped : DomainShaped d) where
  -- a stretch of sources that is word k
  word-touched : (k i n : ℕ) → 1 ≤ i → i + n ≤ 64
      → ((j : ℕ) → 1 ≤ j → j < 64 → among i n j ≡ eqb (j / 32) k)
      → Touched d (changed_from d ws c v i n) (changing d ws c (named k v))
  unfolding named
  word-touched k i n l h same =
      rw (changed_from-each ws c v (by_messages d) d i n refl l)
      (touched-as (touched-with_each (bit_changing ws c v (by_messages d)) d i n shaped l h)
      (changing d ws c (named k v))
      (λ j lj hj. rw (same j lj hj) (cond-and (eqb (j / 32) k) (has_bit v (j % 32)) _ _)))

  pub touched-word_changed : (k : ℕ) → k < 2 → Touched d (word_changed d ws c k v)
      (changing d ws c (named k v))
  touched-word_changed zero h =
      rw (word_first d ws c v 0 refl)
      (word-touched 0 1 31 (omega arith) (omega arith) (λ j lj hj. word-zero j lj))
  touched-word_changed (suc zero) h =
      rw (word-second d ws c v 1 (λ e. omega arith))
      (word-touched 1 32 32 (omega arith) (omega arith) (λ j lj hj. word-one j hj))
  touched-word_changed (suc (suc k)) h = absurd (omega arith)
