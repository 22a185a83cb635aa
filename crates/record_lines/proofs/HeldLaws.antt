-- Bytes that are put behind what is held of a line. Assumes nothing.
use Prim.Native.Nat.{ℕ, ◌+◌, ◌-◌, ◌≤◌}
use mathlib.Core.Path.{◌≡◌, ap, ap₂, ◌∙◌}
use mathlib.Core.List.{List, ◌++◌}
use native.Mathlib.Omega.{arith}
use borrow.Rule.Slice.PartMut.{put_mid}
use lib.ListN.{length, take, drop, length-take, length-drop}
use Rattle.std.specs.List.{between}
use Rattle.std.proofs.lemmas.Slice.{take-put_mid}

module _ (xs room p : List ℕ) (f had n : ℕ) (there : f + n ≤ length xs) (inside : had ≤ length room)
    (held : take had room ≡ p) where
  -- new, the bytes of xs from place g up to h, stands at place a of the room, up to e
  pub held_behind : (new : List ℕ) (g h : ℕ) → new ≡ between g h xs → g ≡ f → h ≡ g + n → (a k e : ℕ) →
      a ≡ had → e ≡ had + n → take e (put_mid a k room new) ≡ p ++ take n (drop f xs)
  held_behind new g h after from much a k e at end =
      let piece : List ℕ = take n (drop f xs) in
      let few : h - g ≡ n = omega (arith, much) in
      let copied : new ≡ piece = after ∙ ap₂ (λ (j i : ℕ). take j (drop i xs)) few from in
      let long : length new ≡ n =
      ap length copied ∙ omega (arith, length-take n (drop f xs), length-drop f xs, there) in
      ap₂ (λ (i j : ℕ). take i (put_mid j k room new)) end at
      ∙ take-put_mid had k room new (had + n) (omega (arith, long)) inside
      ∙ ap₂ (λ (ys zs : List ℕ). ys ++ zs) held copied
