-- Laws of specs/Writes.antt. No contract cites this file. Assumes nothing.
use Prim.Native.Nat.{ℕ, zero, suc, ◌+◌, ◌-◌, ◌%◌, ◌^◌, ◌≤◌, ◌<◌}
use mathlib.Core.Path.{◌≡◌, refl, sym, ap, ◌∙◌}
use mathlib.Core.Bool.{Bool, true, false, cond}
use mathlib.Core.List.{List, [], ◌∷◌}
use mathlib.Core.Logic.{◌≢◌}
use native.Mathlib.Nat.{zero-add, add-zero}
use native.Mathlib.Decide.{ℕ_discrete}
use native.Mathlib.Omega.{arith}
use lib.Dec.{eqb}
use borrow.Author.Tests.{eq-eqb, ne_eqb, le-leb, lt-leb}
use Rattle.words.specs.Bits.{has_bit}
use Rattle.words.specs.Sets.{member, put}
use Rattle.words.specs.Parts.{joined}
use Rattle.words.proofs.BitsLaws.{has_bit-nothing}
use Rattle.words.proofs.PartsLaws.{has_bit-joined-low, has_bit-joined-high}
use Rattle.words_masks.specs.Members.{listed}
use Rattle.words_masks.proofs.MembersLaws.{Head, listed-ext, listed-skip, listed-short, listed-head}
use Rattle.words_masks.proofs.MembersLaws.{listed-end}
use Rattle.source.specs.declared.Source.{Source}
use Rattle.source.specs.declared.Change.{Change}
use Rattle.source.specs.declared.Change.TheVariants.{Pend, Clear, Enable, Disable}
use Rattle.source.specs.Pending.{with_pending, pended, cleared, switched}
use Rattle.domain.specs.Domain.{Domain, by_messages, with_pendings}
use Rattle.domain.specs.Slot.{source_at, with_source}
use Rattle.domain_laws.proofs.SlotEffects.{with_source-pending}
use Rattle.domain_laws.proofs.PartEffects.{changed-pend, changed-clear, changed-enable, changed-disable}
use Rattle.domain_laws.proofs.PartEffects.{pended-part, cleared-part}
use Rattle.domain_writes.specs.Writes.{changed_at, changed_bit, changed_from, word_changed, number_changed}

-- ---- one source, family by family

module _ (d : Domain) (ws : List ℕ) (i : ℕ) (c : Change) where
  abbrev s : Source
  s = source_at d i

  told : (k : Change) → c ≡ k → changed_at d ws c i ≡ changed_at d ws k i
  told k e = ap (λ (x : Change). changed_at d ws x i) e

  pub pend-at : c ≡ Pend → (t : Source) → t ≡ pended s (by_messages d) (member ws i)
      → with_pendings d (put d.pending i t.pending) ≡ changed_at d ws c i
  unfolding changed_at
  pend-at e t q =
      with_source-pending d i t.pending
      ∙ ap (with_source d i)
      (ap (λ (x : Source). with_pending s x.pending) q ∙ sym (pended-part s (by_messages d) (member ws i))
      ∙ sym (changed-pend s (by_messages d) (member ws i)))
      ∙ sym (told Pend e)

  pub clear_at : c ≡ Clear → (t : Source) → t ≡ cleared s (by_messages d)
      → with_pendings d (put d.pending i t.pending) ≡ changed_at d ws c i
  unfolding changed_at
  clear_at e t q =
      with_source-pending d i t.pending
      ∙ ap (with_source d i)
      (ap (λ (x : Source). with_pending s x.pending) q ∙ sym (cleared-part s (by_messages d) (member ws i))
      ∙ sym (changed-clear s (by_messages d) (member ws i)))
      ∙ sym (told Clear e)

  pub enable-at : c ≡ Enable → with_source d i (switched s true) ≡ changed_at d ws c i
  unfolding changed_at
  enable-at e =
      ap (with_source d i) (sym (changed-enable s (by_messages d) (member ws i))) ∙ sym (told Enable e)

  pub disable-at : c ≡ Disable → with_source d i (switched s false) ≡ changed_at d ws c i
  unfolding changed_at
  disable-at e =
      ap (with_source d i) (sym (changed-disable s (by_messages d) (member ws i))) ∙ sym (told Disable e)

-- ---- the sources that are named

module _ (d : Domain) (ws : List ℕ) (c : Change) (v : ℕ) where
  pub bit-set : (i : ℕ) → has_bit v (i % 32) ≡ true → changed_bit d ws c v i ≡ changed_at d ws c i
  unfolding changed_bit
  bit-set i e = simp e

  pub bit-clear : (i : ℕ) → has_bit v (i % 32) ≡ false → changed_bit d ws c v i ≡ d
  unfolding changed_bit
  bit-clear i e = simp e

  -- one turn of the loop up to m
  changed-next : (i m : ℕ) → i < m
      → changed_from d ws c v i (m - i) ≡ changed_from (changed_bit d ws c v i) ws c v (i + 1) (m - (i + 1))
  unfolding changed_from
  changed-next i m h =
      let more : m - i ≡ suc (m - (i + 1)) = omega arith in
      let next : suc i ≡ i + 1 = omega arith in
      ap (changed_from d ws c v i) more
      ∙ ap (λ (k : ℕ). changed_from (changed_bit d ws c v i) ws c v k (m - (i + 1))) next

  changed-none : (n i : ℕ) → ((j : ℕ) → i ≤ j → j < i + n → has_bit v (j % 32) ≡ false)
      → changed_from d ws c v i n ≡ d
  unfolding changed_from
  changed-none zero i f = refl
  changed-none (suc n) i f =
      ap (λ (x : Domain). changed_from x ws c v (suc i) n) (bit-clear i (f i (omega arith) (omega arith)))
      ∙ changed-none n (suc i) (λ j l h. f j (omega arith) (omega arith))

  -- k sources that are not named are passed over
  changed-past : (k n i : ℕ) → ((j : ℕ) → i ≤ j → j < i + k → has_bit v (j % 32) ≡ false)
      → changed_from d ws c v i (k + n) ≡ changed_from d ws c v (i + k) n
  unfolding changed_from
  changed-past zero n i f = rw (zero-add, add-zero) refl
  changed-past (suc k) n i f =
      let more : suc k + n ≡ suc (k + n) = omega arith in
      let on : i + suc k ≡ suc i + k = omega arith in
      rw (more, on)
      (ap (λ (x : Domain). changed_from x ws c v (suc i) (k + n))
      (bit-clear i (f i (omega arith) (omega arith)))
      ∙ changed-past k n (suc i) (λ j l h. f j (omega arith) (omega arith)))

  pub word_first : (k : ℕ) → k ≡ 0 → word_changed d ws c k v ≡ changed_from d ws c v 1 31
  unfolding word_changed
  word_first k e = simp (eq-eqb k 0 e)

  pub word-second : (k : ℕ) → k ≢ 0 → word_changed d ws c k v ≡ changed_from d ws c v 32 32
  unfolding word_changed
  word-second k e = simp (ne_eqb k 0 e)

  pub number-below : v < 1 → number_changed d ws c v ≡ d
  unfolding number_changed
  number-below h = simp (lt-leb 1 v h)

  pub number-above : 63 < v → number_changed d ws c v ≡ d
  unfolding number_changed
  number-above h = simp (le-leb 1 v (omega arith), lt-leb v 63 h)

  pub number-within : 1 ≤ v → v ≤ 63 → number_changed d ws c v ≡ changed_at d ws c v
  unfolding number_changed
  number-within l h = simp (le-leb 1 v l, le-leb v 63 h)

-- ---- the sources that a word names, one after the other

module _ (v : ℕ) where
  abbrev named : ℕ → Bool
  named j = has_bit v (j % 32)

  module _ (low : v < 2 ^ 32) where
    named_first : listed (has_bit (joined v 0)) 1 63 ≡ listed named 1 31
    named_first =
        listed-short (has_bit (joined v 0)) 1 31 32
        (λ j l h. ap (has_bit (joined v 0)) (omega arith) ∙ has_bit-joined-high v 0 (j - 32) low
        ∙ has_bit-nothing (j - 32))
        ∙ listed-ext (has_bit (joined v 0)) named 1 31
        (λ j l h. has_bit-joined-low v 0 j low (omega arith) ∙ ap (has_bit v) (omega arith))

  named-second : listed (has_bit (joined 0 v)) 1 63 ≡ listed named 32 32
  named-second =
      listed-skip (has_bit (joined 0 v)) 1 32 64 (omega arith) (omega arith)
      (λ j l h. has_bit-joined-low 0 v j (omega arith) h ∙ has_bit-nothing j)
      ∙ listed-ext (has_bit (joined 0 v)) named 32 32
      (λ j l h. ap (has_bit (joined 0 v)) (omega arith) ∙ has_bit-joined-high 0 v (j - 32) (omega arith)
      ∙ ap (has_bit v) (omega arith))

  -- left are the sources still to be changed, d is the domain so far, and goal what it will be
  pub record Naming (ws : List ℕ) (c : Change) (goal d : Domain) (left : List ℕ) : Type 0 where
    pub from : ℕ
    pub end : ℕ
    pub low : from ≤ end
    pub high : end ≤ 64
    pub list : left ≡ listed named from (end - from)
    pub same : goal ≡ changed_from d ws c v from (end - from)

  pub naming-start : (ws : List ℕ) (c : Change) (d : Domain) (k set : ℕ) (left : List ℕ) → v < 2 ^ 32
      → set ≡ cond (eqb k 0) (joined v 0) (joined 0 v) → left ≡ listed (has_bit set) 1 63
      → Naming ws c (word_changed d ws c k v) d left
  naming-start ws c d k set left low e list =
      let as-set = list ∙ ap (λ (w : ℕ). listed (has_bit w) 1 63) e in
      at (ℕ_discrete k 0) as-set
    where
      at : Dec (k ≡ 0) → left ≡ listed (has_bit (cond (eqb k 0) (joined v 0) (joined 0 v))) 1 63
          → Naming ws c (word_changed d ws c k v) d left
      at (yes z) l =
          record {
            from = 1;
            end = 32;
            low = omega arith;
            high = omega arith;
            list = simp (eq-eqb k 0 z) at l ∙ named_first low;
            same = word_first d ws c v k z;
          }
      at (no n) l =
          record {
            from = 32;
            end = 64;
            low = omega arith;
            high = omega arith;
            list = simp (ne_eqb k 0 n) at l ∙ named-second;
            same = word-second d ws c v k n;
          }

  module _ {ws : List ℕ} {c : Change} {goal d : Domain} {left : List ℕ} (n : Naming ws c goal d left) where
    pub naming-end : left ≡ [] → d ≡ goal
    naming-end none =
        sym (n.same ∙ changed-none d ws c v (n.end - n.from) n.from
        (listed-end named n.from (n.end - n.from) (sym n.list ∙ none)))

    module _ {i : ℕ} {is : List ℕ} (e : left ≡ i ∷ is) where
      head : Head named n.from (n.from + (n.end - n.from)) i is
      head = listed-head named n.from (n.end - n.from) i is (sym n.list ∙ e)

      pub naming-lt : i < 64
      naming-lt = omega (arith, head.high, n.low, n.high)

      pub naming-next : (d' : Domain) → d' ≡ changed_at d ws c i → Naming ws c goal d' is
      naming-next d' ed =
          let within : i < n.end = omega (arith, head.high, n.low) in
          record {
            from = i + 1;
            end = n.end;
            low = omega arith;
            high = n.high;
            list = head.others ∙ ap (listed named (i + 1)) (omega (arith, n.low));
            same =
                n.same ∙ ap (changed_from d ws c v n.from) (omega (arith, head.low))
                ∙ changed-past d ws c v (i - n.from) (n.end - i) n.from
                (λ j l h. head.passed j l (omega (arith, head.low)))
                ∙ ap (λ (j : ℕ). changed_from d ws c v j (n.end - i)) (omega (arith, head.low))
                ∙ changed-next d ws c v i n.end within
                ∙ ap (λ (x : Domain). changed_from x ws c v (i + 1) (n.end - (i + 1)))
                (bit-set d ws c v i head.holds ∙ sym ed);
          }
