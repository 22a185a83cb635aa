-- To write a number that a write stored stores it as it is. No contract cites this file. Assumes nothing.
use Prim.Native.Nat.{ℕ, ◌^◌, ◌<◌}
use mathlib.Core.Path.{◌≡◌, refl}
use mathlib.Core.Bool.{Bool, true, false, cond}
use native.Mathlib.Omega.{arith}
use lib.Dec.{eqb}
use Rattle.words.specs.Parts.{field_of, packed}
use Rattle.words.proofs.PartsLaws.{field_of-packed}
use Rattle.words.proofs.TestsLaws.{tested}
use Rattle.source_target.specs.Target.{hart_of, guest_of, number_of, start_target, priority_of, receiver_of}
use Rattle.source_target.specs.Target.{kept_target}
use Rattle.source_target.proofs.TargetLaws.{hart_of-lt, guest_of-lt, number_of-lt, receiver-lt}

-- ---- what stands below a hart

module _ (h x : ℕ) where
  guest_of-packed : guest_of (packed h 18 x) ≡ guest_of x
  unfolding guest_of packed field_of
  guest_of-packed = omega arith

  number_of-packed : number_of (packed h 18 x) ≡ number_of x
  unfolding number_of packed field_of
  number_of-packed = omega arith

module _ (v : ℕ) where
  number_of-back : number_of (number_of v) ≡ number_of v
  unfolding number_of field_of
  number_of-back = omega arith

  priority_of-back : priority_of (priority_of v) ≡ priority_of v
  unfolding priority_of number_of field_of
  priority_of-back = tested (eqb (number_of v) 0) (λ t. rw t) (λ f. rw (f, number_of-back, f))

-- what a write keeps below the hart
abbrev low_of : Bool → Bool → ℕ → ℕ
low_of c m v = cond m (receiver_of c v) (priority_of v)

low_of-packed : (c m : Bool) (h x : ℕ) → low_of c m (packed h 18 x) ≡ low_of c m x
unfolding receiver_of priority_of
low_of-packed c m h x = rw (guest_of-packed, number_of-packed)

low_of-back : (c m : Bool) (v : ℕ) → low_of c m (low_of c m v) ≡ low_of c m v
unfolding receiver_of
low_of-back true true v = unfold number_of guest_of packed field_of in omega arith
low_of-back false true v = number_of-back v
low_of-back c false v = priority_of-back v

low_of-lt : (c m : Bool) (v : ℕ) → low_of c m v < 2 ^ 18
unfolding receiver_of priority_of
low_of-lt true true v = receiver-lt (guest_of v) (number_of v) (guest_of-lt v) (number_of-lt v)
low_of-lt false true v = omega (arith, number_of-lt v)
low_of-lt c false v =
    tested (eqb (number_of v) 0) (λ t. rw t (omega arith)) (λ f. rw f (omega (arith, number_of-lt v)))

-- ---- the numbers

module _ (c m : Bool) where
  hart_of-kept : (v : ℕ) → hart_of (kept_target c m v) ≡ hart_of v
  unfolding kept_target hart_of
  hart_of-kept v = field_of-packed (hart_of v) 18 (low_of c m v) 2 (low_of-lt c m v) (hart_of-lt v)

  pub kept_target-back : (v : ℕ) → kept_target c m (kept_target c m v) ≡ kept_target c m v
  unfolding kept_target
  kept_target-back v = rw (hart_of-kept v, low_of-packed c m (hart_of v) (low_of c m v), low_of-back c m v)

pub kept_target-start : (c m : Bool) → kept_target c m (start_target m) ≡ start_target m
unfolding kept_target start_target receiver_of priority_of hart_of guest_of number_of packed field_of
kept_target-start true true = refl
kept_target-start false true = refl
kept_target-start c false = refl
