-- Laws of specs/Register.antt. No contract cites this file. Assumes nothing.
use Prim.Native.Nat.{ℕ}
use mathlib.Core.Path.{◌≡◌, sym, ap₂, ◌∙◌}
use mathlib.Core.Bool.{Bool, true, false}
use Rattle.std.specs.Prelude.{None}
use Rattle.file_select.specs.declared.Register.{Register}
use Rattle.file_select.specs.declared.Register.TheVariants.{Delivery}
use Rattle.file_select.specs.Select.{select_legal, register_of}
use Rattle.file_select.specs.Deliveries.{delivery_legal}
use Rattle.file.specs.declared.File.{File}
use Rattle.file.specs.declared.register.Access.{Access}
use Rattle.file.specs.Parts.{with_delivery}
use Rattle.file.specs.Register.{written, accessed_at, accessed}

module _ (n : ℕ) (g : Bool) (f : File) (v : ℕ) where
  pub written-legal : delivery_legal g v ≡ true → written n g f Delivery v ≡ with_delivery f v
  unfolding written
  written-legal e = simp e

  pub written-illegal : delivery_legal g v ≡ false → written n g f Delivery v ≡ f
  unfolding written
  written-illegal e = simp e

module _ (n : ℕ) (g : Bool) (f : File) (k : Access) (s v : ℕ) where
  pub accessed-illegal : select_legal s ≡ false → accessed n g f k s v ≡ record { answer = None; file = f }
  unfolding accessed
  accessed-illegal e = simp e

  pub accessed-legal : select_legal s ≡ true → accessed n g f k s v ≡ accessed_at n g f k (register_of n s) v
  unfolding accessed
  accessed-legal e = simp e

  -- a legal access of a kind that is known, to the register r that the number names
  pub accessed-kind : (r : Register) (k' : Access) → select_legal s ≡ true → r ≡ register_of n s → k ≡ k'
      → accessed n g f k s v ≡ accessed_at n g f k' r v
  accessed-kind r k' legal named e =
      accessed-legal legal ∙ ap₂ (λ (a : Access) (b : Register). accessed_at n g f a b v) e (sym named)
