-- A turn of the loops that count the places of a number and that put its digits, the last one first. No
-- contract cites this file. Assumes nothing.
--   Counted    the places that are counted and those that are left are all: counted-more, counted-end
--   Standing   the digits that are left and those that stand are all: standing-start, standing-more,
--              standing-end
use Prim.Native.Nat.{ℕ, zero, suc, ◌+◌, ◌-◌, ◌/◌, ◌%◌, ◌^◌, ◌≤◌, ◌<◌}
use mathlib.Core.Path.{◌≡◌, refl, sym, ap, ◌∙◌}
use mathlib.Core.List.{List, ◌∷◌, ◌++◌, append-nil}
use native.Mathlib.Omega.{arith}
use lib.ListN.{length, take, drop, set, take-append-drop, length-set}
use lib.Seq.{slice, slice_empty, take-take, take-set-le, take-set-lt, drop-cons, drop-set-lt, get_or-set_same}
use lib.Seq.{lt-length-set, append_snoc, length-take-le}
use Rattle.record_numbers.specs.Decimal.{digits_of, places_in, places_of, text_of, number_room}
use Rattle.record_numbers.proofs.TextLaws.{places-one, places-more}

-- ---- places

-- k places are counted, the last of them among those of what is left of n
pub record Counted (n k rest : ℕ) : Type 0 where
  pub few : k ≤ number_room
  pub fits : rest < 10 ^ suc (number_room - k)
  pub all : k + places_in (suc (number_room - k)) rest ≡ 1 + places_of n

module _ {n k rest : ℕ} (h : Counted n k rest) where
  pub counted-end : rest ≤ 9 → k ≡ places_of n
  counted-end l = omega (arith, places-one (number_room - k) rest (omega arith))

  pub counted-more : 9 < rest → Counted n (k + 1) (rest / 10)
  counted-more l = at (number_room - k) refl
    where
      at : (f : ℕ) → number_room - k ≡ f → Counted n (k + 1) (rest / 10)
      at zero e = absurd (omega (arith, rw e at h.fits))
      at (suc f) e =
          let next : number_room - (k + 1) ≡ f = omega arith in
          record {
            few = omega arith;
            fits = rw next (omega (arith, rw e at h.fits));
            all = rw next (omega (arith, places-more (suc f) rest l, rw e at h.all));
          }

-- ---- digits

-- the digits of what is left of n, and those that stand in out from i on, are all
pub record Standing (n at end : ℕ) (out₀ out : List ℕ) (i rest : ℕ) : Type 0 where
  pub within : (at ≤ i) × (i ≤ end) × (end ≤ length out)
  pub long : length out ≡ length out₀
  pub kept : take at out ≡ take at out₀
  pub all : digits_of (i - at) rest ++ slice i end out ≡ text_of n

pub standing-start : (n at end : ℕ) (out : List ℕ) → end ≡ at + places_of n → end ≤ length out
    → Standing n at end out out end n
unfolding text_of
standing-start n at end out e h =
    let left : end - at ≡ places_of n = omega arith in
    record {
      within = omega arith;
      long = refl;
      kept = refl;
      all = rw (slice_empty, append-nil) (ap (λ (k : ℕ). digits_of k n) left);
    }

drop-set-same : (l : List ℕ) (j b : ℕ) → j < length l → drop j (set l j b) ≡ b ∷ drop (suc j) l
drop-set-same l j b h =
    drop-cons (set l j b) j 0 (lt-length-set l j b h)
    ∙ rw (get_or-set_same l j b 0 h, drop-set-lt (suc j) l j b (omega arith))

slice-set-same : (l : List ℕ) (j end b : ℕ) → j < end → end ≤ length l
    → slice j end (set l j b) ≡ b ∷ slice (suc j) end l
slice-set-same l j end b h m =
    rw (take-set-lt end l j b h) (drop-set-same (take end l) j b (omega (arith, length-take-le end l m)))

module _ {n at end : ℕ} {out₀ out : List ℕ} {i rest : ℕ} (h : Standing n at end out₀ out i rest) where
  pub standing-end : i ≤ at → take end out ≡ take at out₀ ++ text_of n
  unfolding digits_of
  standing-end l =
      let here : i ≡ at = omega arith in
      let none : at - at ≡ 0 = omega arith in
      let text : slice at end out ≡ text_of n = rw (here, none) at h.all in
      sym (take-append-drop at (take end out)) ∙ rw (take-take at end out (omega arith), h.kept, text)

  pub standing-more : at < i
      → Standing n at end out₀ (set out (i - 1) (48 + rest % 10)) (i - 1) (rest / 10)
  unfolding digits_of
  standing-more l =
      let j = i - 1 in
      let b = 48 + rest % 10 in
      let next : suc j ≡ i = omega arith in
      let left : i - at ≡ suc (j - at) = omega arith in
      let first = rw next at (slice-set-same out j end b (omega arith) (omega arith)) in
      let seam = append_snoc (digits_of (j - at) (rest / 10)) b (slice i end out) in
      record {
        within = omega (arith, length-set out j b);
        long = length-set out j b ∙ h.long;
        kept = take-set-le at out j b (omega arith) ∙ h.kept;
        all = rw first (sym seam ∙ rw left at h.all);
      }
