-- What an access of a move saves is saved, and the rest of the saved numbers stay. No contract cites this
-- file. Assumes nothing.
use Prim.Native.Nat.{ℕ, suc, ◌+◌, ◌/◌, ◌%◌, ◌≤◌, ◌<◌}
use mathlib.Core.Path.{◌≡◌, ap, ◌∙◌}
use mathlib.Core.Bool.{Bool}
use mathlib.Core.List.{List}
use mathlib.Core.Logic.{◌≢◌}
use native.Mathlib.Decide.{ℕ_discrete}
use native.Mathlib.Omega.{arith}
use lib.ListN.{get_or, set, length-set}
use lib.Seq.{get_or-set_same, get_or-set_other}
use Rattle.words.specs.Bits.{has_bit}
use Rattle.words.specs.Sets.{member}
use Rattle.file.specs.declared.File.{File}
use Rattle.sizes.specs.Sizes.{saved_size}
use Rattle.board_move_steps.specs.Steps.{delivery_at, threshold_at, pending_at, enable_at}
use Rattle.board_move_files_laws.specs.Related.{Identity, Noted}
use Rattle.board_move_files_laws.proofs.WrittenEffects.{Sized}

module _ (n m : ℕ) (s p : List ℕ) (c : File) (sized : Sized n) (r : Noted n m s p c) where
  -- an access that is none of 1, 2 and 72 to 79
  pub noted-later : 2 ≤ m → ((k : ℕ) → k < 8 → k + 72 ≢ suc m) → Noted n (suc m) s p c
  noted-later l idle =
      record {
        ten = r.ten;
        delivery = λ h. r.delivery (omega arith);
        threshold = λ h. r.threshold l;
        pending = λ i w h. r.pending i w (omega (arith, idle (i / 64) (omega arith)));
        enable = λ i w h. r.enable i w (omega (arith, idle (4 + i / 64) (omega arith)));
      }

  -- v saved at one place
  module _ (v : ℕ) where
    apart : (place j : ℕ) → j ≢ place → get_or (set s place v) j 0 ≡ get_or s j 0
    apart place j d = get_or-set_other s place j v 0 d

    -- a bit b of what is saved at place j
    placed : (place j i : ℕ) (b : Bool) → place < saved_size → (j ≡ place → has_bit v i ≡ b)
        → (j ≢ place → has_bit (get_or s j 0) i ≡ b) → has_bit (get_or (set s place v) j 0) i ≡ b
    placed place j i b fits same other = at (ℕ_discrete j place)
      where
        at : Dec (j ≡ place) → has_bit (get_or (set s place v) j 0) i ≡ b
        at (yes e) =
            ap (λ (a : ℕ). has_bit (get_or (set s place v) a 0) i) e
            ∙ ap (λ (a : ℕ). has_bit a i) (get_or-set_same s place v 0 (omega (arith, r.ten))) ∙ same e
        at (no d) = ap (λ (a : ℕ). has_bit a i) (apart place j d) ∙ other d

    pub noted-delivery : m ≡ 0 → v ≡ c.delivery → Noted n (suc m) (set s delivery_at v) p c
    noted-delivery z e =
        record {
          ten = length-set s delivery_at v ∙ r.ten;
          delivery = λ h. get_or-set_same s delivery_at v 0 (omega (arith, r.ten)) ∙ e;
          threshold = λ h. absurd (omega arith);
          pending = λ i w h. absurd (omega arith);
          enable = λ i w h. absurd (omega arith);
        }

    pub noted-threshold : m ≡ 1 → v ≡ c.threshold → Noted n (suc m) (set s threshold_at v) p c
    noted-threshold z e =
        record {
          ten = length-set s threshold_at v ∙ r.ten;
          delivery = λ h. apart threshold_at delivery_at (omega arith) ∙ r.delivery (omega arith);
          threshold = λ h. get_or-set_same s threshold_at v 0 (omega (arith, r.ten)) ∙ e;
          pending = λ i w h. absurd (omega arith);
          enable = λ i w h. absurd (omega arith);
        }

    module _ (k : ℕ) (low : k < 4) where
      pub noted-pending : suc m ≡ k + 72
          → ((i : ℕ) → Identity n i → i / 64 ≡ k → has_bit v (i % 64) ≡ member p i)
          → Noted n (suc m) (set s (pending_at k) v) p c
      noted-pending z e =
          record {
            ten = length-set s (pending_at k) v ∙ r.ten;
            delivery = λ h. apart (pending_at k) delivery_at (omega arith) ∙ r.delivery (omega arith);
            threshold = λ h. apart (pending_at k) threshold_at (omega arith) ∙ r.threshold (omega arith);
            pending = λ i w h. placed (pending_at k) (pending_at (i / 64)) (i % 64) (member p i) (omega arith)
                (λ q. e i w (omega arith)) (λ d. r.pending i w (omega arith));
            enable = λ i w h. absurd (omega arith);
          }

      pub noted-enable : suc m ≡ k + 76
          → ((i : ℕ) → Identity n i → i / 64 ≡ k → has_bit v (i % 64) ≡ member c.enable i)
          → Noted n (suc m) (set s (enable_at k) v) p c
      noted-enable z e =
          record {
            ten = length-set s (enable_at k) v ∙ r.ten;
            delivery = λ h. apart (enable_at k) delivery_at (omega arith) ∙ r.delivery (omega arith);
            threshold = λ h. apart (enable_at k) threshold_at (omega arith) ∙ r.threshold (omega arith);
            pending = λ i w h. placed (enable_at k) (pending_at (i / 64)) (i % 64) (member p i) (omega arith)
                (λ q. absurd (omega (arith, sized.small))) (λ d. r.pending i w (omega arith));
            enable = λ i w h. placed (enable_at k) (enable_at (i / 64)) (i % 64) (member c.enable i)
                (omega arith) (λ q. e i w (omega arith)) (λ d. r.enable i w (omega arith));
          }
