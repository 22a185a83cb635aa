-- Every operation keeps a file's shape and its state rules. No contract cites this file. Assumes nothing.
--   ..-shaped    the shape that every file has
--   ..-sound     the state rules
use Prim.Native.Nat.{ℕ, ◌+◌, ◌*◌, ◌%◌, ◌^◌, ◌≤◌, ◌<◌}
use mathlib.Core.Path.{◌≡◌, sym, ap, ◌∙◌}
use mathlib.Core.Bool.{Bool, true, false, cond, not, ◌&&◌}
use mathlib.Core.List.{List}
use native.Mathlib.Decide.{ℕ_discrete, dec_lt}
use native.Mathlib.Nat.{mod-lt, lt_of_le_of_lt}
use native.Mathlib.Omega.{arith}
use lib.Dec.{eqb, leb}
use lib.ListN.{length, get_or, set, length-set}
use borrow.Author.Tests.{leb-true, le-leb, not-true}
use Rattle.words.specs.Bits.{without_bit, union, without}
use Rattle.words.specs.Parts.{low, high, reversed}
use Rattle.words.specs.Sets.{member, insert, remove, WordsFit}
use Rattle.words.proofs.PartsLaws.{low-lt, high_lt, joined-lt}
use Rattle.words.proofs.BitsLaws.{without_bit-le, union-lt, without-le}
use Rattle.words.proofs.SetsLaws.{set-fit, length-insert, length-remove, insert-fit, remove-fit}
use Rattle.words.proofs.SetsLaws.{member-insert-other, member-remove-other}
use Rattle.words.proofs.TestsLaws.{tested, and_first, and_second}
use Rattle.file_select.specs.declared.Register.{Register}
use Rattle.file_select.specs.declared.Register.TheVariants.{Delivery, Threshold, Pending, Enable, Unused}
use Rattle.file_select.specs.Select.{select_legal, register_of}
use Rattle.file_select.specs.Halves.{doubleword, put_halves, put_doubleword}
use Rattle.file_select.specs.Deliveries.{delivery_legal}
use Rattle.file_select.proofs.HalvesLaws.{put-past}
use Rattle.file_select.proofs.DeliveriesLaws.{legal-lt}
use Rattle.file.specs.declared.File.{File}
use Rattle.file.specs.declared.register.Access.{Access}
use Rattle.file.specs.declared.register.Access.TheVariants.{Read, Write, Set, Clear}
use Rattle.file.specs.Shape.{Shaped}
use Rattle.file.specs.Parts.{with_delivery, with_threshold, with_pending_set, with_enable}
use Rattle.file.specs.Page.{arrived, page_written}
use Rattle.file.specs.Top.{top_identity, claimed}
use Rattle.file.specs.Rules.{delivery_rule, threshold_rule, zero_rule, file_sound}
use Rattle.file.proofs.TopLaws.{claimed-none, claimed-some}
use Rattle.file.specs.Register.{held, written, accessed_at, accessed}
use Rattle.file_laws.proofs.RegisterEffects.{member-put-zero}

-- ---- the rules apart and together

pub record Rules (n : ℕ) (g : Bool) (f : File) : Type 0 where
  pub legal : delivery_legal g f.delivery ≡ true
  pub below : f.threshold ≤ n
  pub pending_zero : member f.pending 0 ≡ false
  pub enable_zero : member f.enable 0 ≡ false

module _ (n : ℕ) (g : Bool) (f : File) where
  pub rules-of : file_sound n g f ≡ true → Rules n g f
  unfolding file_sound delivery_rule threshold_rule zero_rule
  rules-of e =
      let d = delivery_rule g f in
      let t = threshold_rule n f in
      let two = and_first (d && t) (zero_rule f) e in
      let zeros = and_second (d && t) (zero_rule f) e in
      let p = not (member f.pending 0) in
      let q = not (member f.enable 0) in
      record {
        legal = and_first d t two;
        below = leb-true f.threshold n (and_second d t two);
        pending_zero = not-true (member f.pending 0) (and_first p q zeros);
        enable_zero = not-true (member f.enable 0) (and_second p q zeros);
      }

  pub sound-of : Rules n g f → file_sound n g f ≡ true
  unfolding file_sound delivery_rule threshold_rule zero_rule
  sound-of r = simp (r.legal, le-leb f.threshold n r.below, r.pending_zero, r.enable_zero)

-- ---- one part replaced

module _ (f : File) (s : Shaped f) where
  with-pending-shaped : (ws : List ℕ) → length ws ≡ length f.pending → WordsFit ws
      → Shaped (with_pending_set f ws)
  with-pending-shaped ws e fit =
      record {
        delivery_fit = s.delivery_fit;
        threshold_fit = s.threshold_fit;
        pending_long = e ∙ s.pending_long;
        pending_fit = fit;
        enable_long = s.enable_long;
        enable_fit = s.enable_fit;
      }

  with-enable-shaped : (ws : List ℕ) → length ws ≡ length f.enable → WordsFit ws → Shaped (with_enable f ws)
  with-enable-shaped ws e fit =
      record {
        delivery_fit = s.delivery_fit;
        threshold_fit = s.threshold_fit;
        pending_long = s.pending_long;
        pending_fit = s.pending_fit;
        enable_long = e ∙ s.enable_long;
        enable_fit = fit;
      }

  with-delivery-shaped : (d : ℕ) → d < 2 ^ 32 → Shaped (with_delivery f d)
  with-delivery-shaped d h =
      record {
        delivery_fit = h;
        threshold_fit = s.threshold_fit;
        pending_long = s.pending_long;
        pending_fit = s.pending_fit;
        enable_long = s.enable_long;
        enable_fit = s.enable_fit;
      }

  with-threshold-shaped : (t : ℕ) → t < 2 ^ 32 → Shaped (with_threshold f t)
  with-threshold-shaped t h =
      record {
        delivery_fit = s.delivery_fit;
        threshold_fit = h;
        pending_long = s.pending_long;
        pending_fit = s.pending_fit;
        enable_long = s.enable_long;
        enable_fit = s.enable_fit;
      }

-- a pending set in which identity 0 is still clear breaks no rule, and so for the enable set
with-pending-rules : (n : ℕ) (g : Bool) (f : File) (ws : List ℕ) → Rules n g f → member ws 0 ≡ false
    → Rules n g (with_pending_set f ws)
with-pending-rules n g f ws r e =
    record { legal = r.legal; below = r.below; pending_zero = e; enable_zero = r.enable_zero }

with-enable-rules : (n : ℕ) (g : Bool) (f : File) (ws : List ℕ) → Rules n g f → member ws 0 ≡ false
    → Rules n g (with_enable f ws)
with-enable-rules n g f ws r e =
    record { legal = r.legal; below = r.below; pending_zero = r.pending_zero; enable_zero = e }

-- ---- messages

module _ (n : ℕ) (f : File) (i : ℕ) where
  pub arrived-shaped : Shaped f → Shaped (arrived n f i)
  unfolding arrived
  arrived-shaped s =
      tested (leb 1 i && leb i n)
      (λ t. simp t
      (with-pending-shaped f s (insert f.pending i) (length-insert f.pending i)
      (insert-fit f.pending i s.pending_fit)))
      (λ u. simp u s)

  pub arrived-rules : (g : Bool) → Rules n g f → Rules n g (arrived n f i)
  unfolding arrived
  arrived-rules g r =
      tested (leb 1 i && leb i n)
      (λ t. simp t (with-pending-rules n g f (insert f.pending i) r
      (member-insert-other f.pending i 0
      (λ z. omega (arith, leb-true 1 i (and_first (leb 1 i) (leb i n) t))) ∙ r.pending_zero)))
      (λ u. simp u r)

module _ (n : ℕ) (f : File) (a v : ℕ) where
  pub page-shaped : Shaped f → Shaped (page_written n f a v)
  unfolding page_written
  page-shaped s =
      tested (eqb a 0) (λ t. simp t (arrived-shaped n f v s))
      (λ u. tested (eqb a 4) (λ t. simp (u, t) (arrived-shaped n f (reversed v) s)) (λ w. simp (u, w) s))

  pub page-rules : (g : Bool) → Rules n g f → Rules n g (page_written n f a v)
  unfolding page_written
  page-rules g r =
      tested (eqb a 0) (λ t. simp t (arrived-rules n f v g r))
      (λ u. tested (eqb a 4) (λ t. simp (u, t) (arrived-rules n f (reversed v) g r)) (λ w. simp (u, w) r))

-- ---- claims

module _ (n : ℕ) (f : File) where
  pub claimed-shaped : Shaped f → Shaped (claimed n f)
  claimed-shaped s = at (ℕ_discrete (top_identity n f) 0)
    where
      i : ℕ
      i = top_identity n f

      at : Dec (top_identity n f ≡ 0) → Shaped (claimed n f)
      at (yes z) = rw (claimed-none n f z) s
      at (no z) =
          rw (claimed-some n f z)
          (with-pending-shaped f s (remove f.pending i) (length-remove f.pending i)
          (remove-fit f.pending i s.pending_fit))

  pub claimed-rules : (g : Bool) → Rules n g f → Rules n g (claimed n f)
  claimed-rules g r = at (ℕ_discrete (top_identity n f) 0)
    where
      at : Dec (top_identity n f ≡ 0) → Rules n g (claimed n f)
      at (yes z) = rw (claimed-none n f z) r
      at (no z) =
          rw (claimed-some n f z)
          (with-pending-rules n g f (remove f.pending (top_identity n f)) r
          (member-remove-other f.pending (top_identity n f) 0 (λ q. z (sym q)) ∙ r.pending_zero))

-- ---- registers

kept-lt : (j v : ℕ) → v < 2 ^ 64 → cond (eqb j 0) (without_bit v 0) v < 2 ^ 64
kept-lt j v h = tested (eqb j 0) (λ t. simp t (lt_of_le_of_lt (without_bit-le v 0) h)) (λ u. simp u h)

module _ (ws : List ℕ) (j v : ℕ) where
  length-doubleword : length (put_doubleword ws j v) ≡ length ws
  unfolding put_doubleword put_halves
  length-doubleword = simp length-set

  doubleword-fit : v < 2 ^ 64 → WordsFit ws → WordsFit (put_doubleword ws j v)
  unfolding put_doubleword put_halves
  doubleword-fit h fit =
      let kept = cond (eqb j 0) (without_bit v 0) v in
      set-fit (set ws (2 * j) (low kept)) (2 * j + 1) (high kept) (high_lt kept (kept-lt j v h))
      (set-fit ws (2 * j) (low kept) (low-lt kept) fit)

  -- identity 0 stays clear wherever the words lie
  doubleword-zero : length ws ≡ 8 → member ws 0 ≡ false → member (put_doubleword ws j v) 0 ≡ false
  unfolding put_doubleword
  doubleword-zero e clear = at (dec_lt j 4)
    where
      at : Dec (j < 4) → member (put_doubleword ws j v) 0 ≡ false
      at (yes h) = member-put-zero ws j v (omega arith) clear
      at (no h) =
          ap (λ (l : List ℕ). member l 0) (put-past ws j (cond (eqb j 0) (without_bit v 0) v) (omega arith))
          ∙ clear

module _ (n : ℕ) (g : Bool) (f : File) (v : ℕ) (small : n < 2 ^ 32) (fits : v < 2 ^ 64) where
  pub written-shaped : (r : Register) → Shaped f → Shaped (written n g f r v)
  unfolding written
  written-shaped Delivery s =
      tested (delivery_legal g v) (λ t. simp t (with-delivery-shaped f s v (legal-lt g v t))) (λ u. simp u s)
  written-shaped Threshold s =
      with-threshold-shaped f s (v % (n + 1)) (omega (arith, mod-lt v {m = n + 1} (omega arith)))
  written-shaped (Pending j) s =
      with-pending-shaped f s (put_doubleword f.pending j v) (length-doubleword f.pending j v)
      (doubleword-fit f.pending j v fits s.pending_fit)
  written-shaped (Enable j) s =
      with-enable-shaped f s (put_doubleword f.enable j v) (length-doubleword f.enable j v)
      (doubleword-fit f.enable j v fits s.enable_fit)
  written-shaped Unused s = s

  pub written-rules : (r : Register) → Shaped f → Rules n g f → Rules n g (written n g f r v)
  unfolding written
  written-rules Delivery s r =
      tested (delivery_legal g v)
      (λ t. simp t
      (record { legal = t; below = r.below; pending_zero = r.pending_zero; enable_zero = r.enable_zero }))
      (λ u. simp u r)
  written-rules Threshold s r =
      record {
        legal = r.legal;
        below = omega (arith, mod-lt v {m = n + 1} (omega arith));
        pending_zero = r.pending_zero;
        enable_zero = r.enable_zero;
      }
  written-rules (Pending j) s r =
      with-pending-rules n g f (put_doubleword f.pending j v) r
      (doubleword-zero f.pending j v s.pending_long r.pending_zero)
  written-rules (Enable j) s r =
      with-enable-rules n g f (put_doubleword f.enable j v) r
      (doubleword-zero f.enable j v s.enable_long r.enable_zero)
  written-rules Unused s r = r

-- what a register holds has 64 bits
pub held-lt : (f : File) (r : Register) → Shaped f → held f r < 2 ^ 64
unfolding held doubleword WordsFit
held-lt f Delivery s = omega (arith, s.delivery_fit)
held-lt f Threshold s = omega (arith, s.threshold_fit)
held-lt f (Pending j) s =
    joined-lt (get_or f.pending (2 * j) 0) (get_or f.pending (2 * j + 1) 0) (s.pending_fit (2 * j))
    (s.pending_fit (2 * j + 1))
held-lt f (Enable j) s =
    joined-lt (get_or f.enable (2 * j) 0) (get_or f.enable (2 * j + 1) 0) (s.enable_fit (2 * j))
    (s.enable_fit (2 * j + 1))
held-lt f Unused s = omega arith

module _ (n : ℕ) (g : Bool) (f : File) (v : ℕ) (small : n < 2 ^ 32) (fits : v < 2 ^ 64) (s : Shaped f) where
  at-shaped : (k : Access) (r : Register) → Shaped (accessed_at n g f k r v).file
  unfolding accessed_at
  at-shaped Read r = s
  at-shaped Write r = written-shaped n g f v small fits r s
  at-shaped Set r =
      written-shaped n g f (union (held f r) v) small (union-lt 64 (held f r) v (held-lt f r s) fits) r s
  at-shaped Clear r =
      written-shaped n g f (without (held f r) v) small
      (lt_of_le_of_lt (without-le (held f r) v) (held-lt f r s)) r s

  at-rules : (k : Access) (r : Register) → Rules n g f → Rules n g (accessed_at n g f k r v).file
  unfolding accessed_at
  at-rules Read r e = e
  at-rules Write r e = written-rules n g f v small fits r s e
  at-rules Set r e =
      written-rules n g f (union (held f r) v) small (union-lt 64 (held f r) v (held-lt f r s) fits) r s e
  at-rules Clear r e =
      written-rules n g f (without (held f r) v) small
      (lt_of_le_of_lt (without-le (held f r) v) (held-lt f r s)) r s e

  pub accessed-shaped : (k : Access) (x : ℕ) → Shaped (accessed n g f k x v).file
  unfolding accessed
  accessed-shaped k x = tested (select_legal x) (λ t. simp t (at-shaped k (register_of n x))) (λ u. simp u s)

  pub accessed-rules : (k : Access) (x : ℕ) → Rules n g f → Rules n g (accessed n g f k x v).file
  unfolding accessed
  accessed-rules k x e = tested (select_legal x) (λ t. simp t (at-rules k (register_of n x) e))
      (λ u. simp u e)
