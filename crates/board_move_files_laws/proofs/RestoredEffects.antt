-- What is written back to the new file is what the file with no move has. No contract cites this file.
-- Assumes nothing.
use Prim.Native.Nat.{ℕ, suc, ◌+◌, ◌*◌, ◌/◌, ◌%◌, ◌≤◌, ◌<◌}
use mathlib.Core.Path.{◌≡◌, ap, ◌∙◌}
use mathlib.Core.Bool.{true}
use native.Mathlib.Decide.{ℕ_discrete}
use native.Mathlib.Nat.{mod-eq_of_lt}
use native.Mathlib.Omega.{arith}
use Rattle.words.specs.Bits.{has_bit}
use Rattle.words.specs.Sets.{member}
use Rattle.file_select.specs.Select.{eie0}
use Rattle.file.specs.declared.File.{File}
use Rattle.file.specs.declared.register.Access.TheVariants.{Write}
use Rattle.file.specs.Shape.{Shaped}
use Rattle.file.specs.Parts.{with_delivery, with_threshold}
use Rattle.board_move_files_laws.specs.Related.{Identity, guest_access, Restored}
use Rattle.board_move_files_laws.proofs.WrittenEffects.{Sized, kept_of, kept_in, kept-other, clear_in}
use Rattle.board_move_files_laws.proofs.WrittenEffects.{member-accessed}

-- nothing is written back before access 84
pub restored-early : (n m : ℕ) (f c : File) → m < 84 → Restored n m f c
restored-early n m f c l =
    record {
      enable = λ i w h. absurd (omega arith);
      threshold = λ h. absurd (omega arith);
      delivery = λ h. absurd (omega arith);
    }

module _ (n m : ℕ) (f c : File) (r : Restored n m f c) where
  -- accesses 84 to 87: word k of the enable set, from v
  pub restored-enable : (k : ℕ) → k < 4 → suc m ≡ k + 84 → Sized n → Shaped f → (v : ℕ)
      → ((i : ℕ) → Identity n i → i / 64 ≡ k → has_bit v (i % 64) ≡ member c.enable i)
      → Restored n (suc m) (guest_access n f Write (eie0 + 2 * k) v).file c
  restored-enable k low late sized s v saved =
      record {
        enable = λ i w h. (member-accessed n true f k low s i (λ e. clear_in n f i w) sized v).1
            ∙ at i w h (ℕ_discrete (i / 64) k);
        threshold = λ h. absurd (omega arith);
        delivery = λ h. absurd (omega arith);
      }
    where
      at : (i : ℕ) → Identity n i → i / 64 + 84 ≤ suc m → Dec (i / 64 ≡ k)
          → kept_of n f.enable k v i ≡ member c.enable i
      at i w h (no d) = kept-other n f.enable k v i d ∙ r.enable i w (omega arith)
      at i w h (yes q) = kept_in n f.enable k v i w q ∙ saved i w q

  -- access 88
  pub restored-threshold : (v : ℕ) → m ≡ 87 → Sized n → v ≡ c.threshold → c.threshold ≤ n
      → Restored n (suc m) (with_threshold f (v % (n + 1))) c
  restored-threshold v e sized same l =
      record {
        enable = λ i w h. r.enable i w (omega (arith, sized.small));
        threshold = λ h. ap (λ (t : ℕ). t % (n + 1)) same ∙ mod-eq_of_lt (omega arith);
        delivery = λ h. absurd (omega arith);
      }

  -- access 89
  pub restored-delivery : (v : ℕ) → m ≡ 88 → Sized n → v ≡ c.delivery
      → Restored n (suc m) (with_delivery f v) c
  restored-delivery v e sized same =
      record {
        enable = λ i w h. r.enable i w (omega (arith, sized.small));
        threshold = λ h. r.threshold (omega arith);
        delivery = λ h. same;
      }
