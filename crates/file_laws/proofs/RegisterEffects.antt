-- What is written reads back as the paper says, which identity each bit is, and what stays. No contract cites
-- this file. Assumes nothing.
use Prim.Native.Nat.{ℕ, ◌+◌, ◌*◌, ◌/◌, ◌%◌, ◌-◌, ◌<◌}
use mathlib.Core.Path.{◌≡◌, refl, sym, ap, ap₂, ◌∙◌}
use mathlib.Core.Bool.{Bool, true, false, cond}
use mathlib.Core.List.{List}
use mathlib.Core.Logic.{◌≢◌}
use native.Mathlib.Decide.{ℕ_discrete, dec_lt}
use native.Mathlib.Omega.{arith}
use lib.Dec.{eqb}
use lib.ListN.{length, get_or, set, length-set}
use lib.Seq.{get_or-set_same, get_or-set_other}
use borrow.Author.Tests.{eq-eqb, ne_eqb}
use Rattle.words.specs.Bits.{has_bit, without_bit}
use Rattle.words.specs.Parts.{low, high, joined}
use Rattle.words.specs.Sets.{member}
use Rattle.words.proofs.BitsLaws.{has_bit-without_bit-same, has_bit-without_bit-other}
use Rattle.words.proofs.PartsLaws.{joined_back, has_bit-low, has_bit-high}
use Rattle.words.proofs.TestsLaws.{tested}
use Rattle.file_select.specs.declared.Register.TheVariants.{Delivery, Threshold, Pending, Enable}
use Rattle.file_select.specs.Select.{select_legal}
use Rattle.file_select.specs.Halves.{doubleword, put_halves, put_doubleword}
use Rattle.file_select.specs.Deliveries.{delivery_legal}
use Rattle.file.specs.declared.File.{File}
use Rattle.file.specs.declared.register.Access.TheVariants.{Read}
use Rattle.file.specs.Register.{held, written, accessed_at, accessed}
use Rattle.file.proofs.RegisterLaws.{written-legal}

-- ---- two words of a set

module _ (ws : List ℕ) (j v : ℕ) (fits : 2 * j + 1 < length ws) where
  halves-low : get_or (put_halves ws j v) (2 * j) 0 ≡ low v
  unfolding put_halves
  halves-low =
      get_or-set_other (set ws (2 * j) (low v)) (2 * j + 1) (2 * j) (high v) 0 (λ q. omega arith)
      ∙ get_or-set_same ws (2 * j) (low v) 0 (omega arith)

  halves-high : get_or (put_halves ws j v) (2 * j + 1) 0 ≡ high v
  unfolding put_halves
  halves-high = get_or-set_same (set ws (2 * j) (low v)) (2 * j + 1) (high v) 0 (rw length-set fits)

  halves-other : (k : ℕ) → k ≢ 2 * j → k ≢ 2 * j + 1 → get_or (put_halves ws j v) k 0 ≡ get_or ws k 0
  unfolding put_halves
  halves-other k p q =
      get_or-set_other (set ws (2 * j) (low v)) (2 * j + 1) k (high v) 0 q
      ∙ get_or-set_other ws (2 * j) k (low v) 0 p

  pub doubleword-halves : doubleword (put_halves ws j v) j ≡ v
  unfolding doubleword
  doubleword-halves = ap₂ joined halves-low halves-high ∙ joined_back v

  -- bit k of the number is identity 64 j + k
  pub member-halves : (k : ℕ) → k < 64 → member (put_halves ws j v) (64 * j + k) ≡ has_bit v k
  unfolding member
  member-halves k h = at (dec_lt k 32)
    where
      at : Dec (k < 32)
          → has_bit (get_or (put_halves ws j v) ((64 * j + k) / 32) 0) ((64 * j + k) % 32) ≡ has_bit v k
      at (yes l) =
          ap₂ (λ (a b : ℕ). has_bit (get_or (put_halves ws j v) a 0) b) (omega arith) (omega arith)
          ∙ ap (λ (w : ℕ). has_bit w k) halves-low ∙ has_bit-low v k l
      at (no l) =
          let b : ℕ = k - 32 in
          let above : k ≡ 32 + b = omega arith in
          ap₂ (λ (a c : ℕ). has_bit (get_or (put_halves ws j v) a 0) c) (omega arith) (omega arith)
          ∙ ap (λ (w : ℕ). has_bit w b) halves-high ∙ has_bit-high v b ∙ ap (has_bit v) (sym above)

  pub member-halves-other : (i : ℕ) → i / 64 ≢ j → member (put_halves ws j v) i ≡ member ws i
  unfolding member
  member-halves-other i h =
      ap (λ (w : ℕ). has_bit w (i % 32)) (halves-other (i / 32) (λ q. h (omega arith)) (λ q. h (omega arith)))

-- ---- the same with identity 0 dropped

module _ (ws : List ℕ) (j v : ℕ) (fits : 2 * j + 1 < length ws) where
  -- what of v is kept in word j
  abbrev kept : ℕ
  kept = cond (eqb j 0) (without_bit v 0) v

  pub doubleword-put : doubleword (put_doubleword ws j v) j ≡ kept
  unfolding put_doubleword
  doubleword-put = doubleword-halves ws j kept fits

  pub member-put : (k : ℕ) → k < 64 → 64 * j + k ≢ 0 → member (put_doubleword ws j v) (64 * j + k)
      ≡ has_bit v k
  unfolding put_doubleword
  member-put k h z = member-halves ws j kept fits k h ∙ at (ℕ_discrete j 0)
    where
      at : Dec (j ≡ 0) → has_bit (cond (eqb j 0) (without_bit v 0) v) k ≡ has_bit v k
      at (yes e) = simp (eq-eqb j 0 e) (has_bit-without_bit-other v 0 k (λ q. z (omega arith)))
      at (no e) = simp (ne_eqb j 0 e)

  pub member-put-other : (i : ℕ) → i / 64 ≢ j → member (put_doubleword ws j v) i ≡ member ws i
  unfolding put_doubleword
  member-put-other i h = member-halves-other ws j kept fits i h

-- identity 0 stays clear, whatever is written
pub member-put-zero : (ws : List ℕ) (j v : ℕ) → 2 * j + 1 < length ws → member ws 0 ≡ false
    → member (put_doubleword ws j v) 0 ≡ false
unfolding put_doubleword
member-put-zero ws j v fits clear = at (ℕ_discrete j 0)
  where
    at : Dec (j ≡ 0) → member (put_doubleword ws j v) 0 ≡ false
    at (yes e) =
        ap (λ (k : ℕ). member (put_doubleword ws k v) 0) e
        ∙ member-halves ws 0 (without_bit v 0) (omega arith) 0 (omega arith) ∙ has_bit-without_bit-same v 0
    at (no e) = member-put-other ws j v fits 0 (λ q. e (sym q)) ∙ clear

-- ---- what reads back

module _ (n : ℕ) (g : Bool) (f : File) (v : ℕ) where
  pub delivery-back : delivery_legal g v ≡ true → held (written n g f Delivery v) Delivery ≡ v
  unfolding held
  delivery-back e = ap (λ (h : File). h.delivery) (written-legal n g f v e)

  pub threshold-back : held (written n g f Threshold v) Threshold ≡ v % (n + 1)
  unfolding held written
  threshold-back = refl

  pub pending-back : (j : ℕ) → 2 * j + 1 < length f.pending
      → held (written n g f (Pending j) v) (Pending j) ≡ cond (eqb j 0) (without_bit v 0) v
  unfolding held written
  pending-back j fits = doubleword-put f.pending j v fits

  pub enable-back : (j : ℕ) → 2 * j + 1 < length f.enable
      → held (written n g f (Enable j) v) (Enable j) ≡ cond (eqb j 0) (without_bit v 0) v
  unfolding held written
  enable-back j fits = doubleword-put f.enable j v fits

-- ---- what a read leaves

pub accessed-read : (n : ℕ) (g : Bool) (f : File) (s v : ℕ) → (accessed n g f Read s v).file ≡ f
unfolding accessed accessed_at
accessed-read n g f s v = tested (select_legal s) (λ t. simp t) (λ u. simp u)
