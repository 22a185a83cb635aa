-- The two files and the saved numbers of a move stay related to the old file of a board with no move, through
-- messages and accesses, and in the end the new file is that file; given up before the first target, the old
-- one with the saved delivery is. All for files of n identities. No contract cites this file. Assumes
-- nothing.
use Prim.Native.Nat.{ℕ, suc, ◌*◌, ◌≤◌, ◌<◌}
use mathlib.Core.Path.{◌≡◌, refl, sym, ap, ◌∙◌}
use mathlib.Core.Bool.{Bool, true, ◌&&◌, ◌||◌}
use mathlib.Core.List.{List}
use native.Mathlib.Omega.{arith}
use lib.Dec.{eqb, leb}
use lib.ListN.{length, get_or}
use Rattle.words.specs.Sets.{member}
use Rattle.words.proofs.SetsLaws.{member-ext}
use Rattle.file.specs.declared.File.{File}
use Rattle.file.specs.Shape.{Shaped}
use Rattle.file.specs.Parts.{with_delivery, with_pending_set}
use Rattle.file.specs.Page.{arrived}
use Rattle.file_laws.proofs.Keeps.{Rules}
use Rattle.file_laws.proofs.PageEffects.{arrived-pending, arrived-rest}
use Rattle.file_laws.proofs.Stored.{file-path}
use Rattle.sizes.specs.Sizes.{saved_size, file_set_size}
use Rattle.board_move_steps.specs.Steps.{accesses, act_of, delivery_at}
use Rattle.board_move_files_laws.specs.Related.{Three, acted_on, Shared, Related}
use Rattle.board_move_files_laws.proofs.SelectEffects.{below}
use Rattle.board_move_files_laws.proofs.WrittenEffects.{Sized, Within, stays-cases, Clear}
use Rattle.board_move_files_laws.proofs.WrittenEffects.{clear-rules}
use Rattle.board_move_files_laws.proofs.SharedEffects.{shared-both, shared_new}
use Rattle.board_move_files_laws.proofs.RestoredEffects.{restored-early}
use Rattle.board_move_files_laws.proofs.AccessEffects.{delivery-saved, threshold-saved, old-silenced}
use Rattle.board_move_files_laws.proofs.AccessEffects.{new-held, new-cleared, target-rewritten}
use Rattle.board_move_files_laws.proofs.AccessEffects.{pending-saved, enable-saved, pending-set}
use Rattle.board_move_files_laws.proofs.AccessEffects.{enable-written, threshold-written}
use Rattle.board_move_files_laws.proofs.AccessEffects.{delivery-written}

-- ---- before the first access

pub related-start : (n : ℕ) (o f : File) (s : List ℕ) → length s ≡ saved_size
    → Related n 0 (record { old = o; new = f; numbers = s }) o
related-start n o f s e =
    record {
      untouched = record {
        threshold = refl;
        enable = refl;
        delivery = λ h. refl;
        silent = λ h. absurd (omega arith);
      };
      shared = record {
        alone = λ h i w. refl;
        empty = λ h i w l. absurd (omega arith);
        joined = λ h. absurd (omega arith);
        settled = λ i w h. absurd (omega arith);
      };
      noted = record {
        ten = e;
        delivery = λ h. absurd (omega arith);
        threshold = λ h. absurd (omega arith);
        pending = λ i w h. absurd (omega arith);
        enable = λ i w h. absurd (omega arith);
      };
      restored = restored-early n 0 f o (omega arith);
    }

-- ---- messages

arrived-only : (n : ℕ) (f : File) (i : ℕ) → arrived n f i ≡ with_pending_set f (arrived n f i).pending
arrived-only n f i = let same = arrived-rest n f i in file-path same.0 same.1 refl same.2

module _ (n m : ℕ) (x : Three) (c : File) (r : Related n m x c) where
  -- no message changes anything but pending sets
  related-pending : (p f q : List ℕ) → (72 ≤ m → p ≡ x.old.pending) → Shared n m p f q
      → Related n m
      (record { old = with_pending_set x.old p; new = with_pending_set x.new f; numbers = x.numbers })
      (with_pending_set c q)
  related-pending p f q kept s =
      record {
        untouched = record {
          threshold = r.untouched.threshold;
          enable = r.untouched.enable;
          delivery = r.untouched.delivery;
          silent = r.untouched.silent;
        };
        shared = s;
        noted = record {
          ten = r.noted.ten;
          delivery = r.noted.delivery;
          threshold = r.noted.threshold;
          pending = λ i w h. r.noted.pending i w h
              ∙ ap (λ (ws : List ℕ). member ws i) (sym (kept (omega arith)));
          enable = r.noted.enable;
        };
        restored = record {
          enable = r.restored.enable;
          threshold = r.restored.threshold;
          delivery = r.restored.delivery;
        };
      }

  module _ (i : ℕ) (sized : Sized n) (sc : Shaped c) where
    abbrev came : ℕ → Bool
    came j = eqb j i && (leb 1 i && leb i n)

    came-pending : (f : File) → Shaped f → (j : ℕ)
        → member (arrived n f i).pending j ≡ (member f.pending j || came j)
    came-pending f s j = arrived-pending n f i j (omega (arith, sized.small, s.pending_long))

    pub related-both : m < 72 → Shaped x.old
        → Related n m (record { old = arrived n x.old i; new = x.new; numbers = x.numbers })
        (arrived n c i)
    related-both l so =
        rw (arrived-only n x.old i, arrived-only n c i)
        (related-pending p x.new.pending q (λ h. absurd (omega arith))
        (shared-both n m x.old.pending x.new.pending c.pending r.shared came q
        (came-pending c sc) l p (came-pending x.old so)))
      where
        p : List ℕ
        p = (arrived n x.old i).pending

        q : List ℕ
        q = (arrived n c i).pending

    pub related-new : 8 ≤ m → Shaped x.new
        → Related n m (record { old = x.old; new = arrived n x.new i; numbers = x.numbers })
        (arrived n c i)
    related-new l sn =
        rw (arrived-only n x.new i, arrived-only n c i)
        (related-pending x.old.pending p q (λ h. refl)
        (shared_new n m x.old.pending x.new.pending c.pending r.shared came q
        (came-pending c sc) l p (came-pending x.new sn)))
      where
        p : List ℕ
        p = (arrived n x.new i).pending

        q : List ℕ
        q = (arrived n c i).pending

-- ---- the next access

pub related-act : (n m : ℕ) (x : Three) (c : File) → Sized n → m < accesses → Shaped x.old
    → Shaped x.new → Rules n true c → Related n m x c → Related n (suc m) (acted_on n (act_of (suc m)) x) c
related-act n m x c z h so sn rc r =
    below m 1 (λ u. delivery-saved n m x c z r (omega arith))
    (λ l. below m 2 (λ u. threshold-saved n m x c z r (omega arith))
    (λ l. below m 3 (λ u. old-silenced n m x c z r (omega arith))
    (λ l. below m 4 (λ u. new-held n m x c z r (omega arith))
    (λ l. below m 8 (λ u. new-cleared n m x c z r l u sn)
    (λ l. below m 71 (λ u. target-rewritten n m x c z r l u)
    (λ l. below m 75 (λ u. pending-saved n m x c z r l u so)
    (λ l. below m 79 (λ u. enable-saved n m x c z r l u so)
    (λ l. below m 83 (λ u. pending-set n m x c z r l u sn)
    (λ l. below m 87 (λ u. enable-written n m x c z r l u sn)
    (λ l. below m 88 (λ u. threshold-written n m x c z r (omega arith) rc)
    (λ l. delivery-written n m x c z r (omega arith) rc)))))))))))

-- ---- after the last access

-- a file with the shape and the rules of a guest's, and no identity past n
pub record Whole (n : ℕ) (f : File) : Type 0 where
  pub shaped : Shaped f
  pub rules : Rules n true f
  pub within : Within n f

-- all words are set and written by then, so the two sets have the same members
pub related-end : (n : ℕ) (x : Three) (c : File) → Sized n → Whole n x.new → Whole n c
    → Related n accesses x c → x.new ≡ c
related-end n x c z a b r =
    file-path (r.restored.delivery (omega arith)) (r.restored.threshold (omega arith))
    (member-ext x.new.pending c.pending (a.shaped.pending_long ∙ sym b.shaped.pending_long)
    a.shaped.pending_fit b.shaped.pending_fit
    (λ i h. pending i (omega (arith, a.shaped.pending_long))))
    (member-ext x.new.enable c.enable (a.shaped.enable_long ∙ sym b.shaped.enable_long)
    a.shaped.enable_fit b.shaped.enable_fit
    (λ i h. enable i (omega (arith, a.shaped.enable_long))))
  where
    clear : (f : File) → Whole n f → (i : ℕ) → i < 32 * file_set_size → Clear n f i
    clear f w i h = clear-rules n true f w.rules w.within i h

    pending : (i : ℕ) → i < 32 * file_set_size → member x.new.pending i ≡ member c.pending i
    pending i h =
        stays-cases n i (λ w. r.shared.settled i w (omega (arith, z.small)))
        (λ e. (clear x.new a i h e).0 ∙ sym (clear c b i h e).0)

    enable : (i : ℕ) → i < 32 * file_set_size → member x.new.enable i ≡ member c.enable i
    enable i h =
        stays-cases n i (λ w. r.restored.enable i w (omega (arith, z.small)))
        (λ e. (clear x.new a i h e).1 ∙ sym (clear c b i h e).1)

-- ---- given up before the first target

-- the old file has all that is pending and its enables and threshold, and its delivery is saved
pub related-undone : (n m : ℕ) (x : Three) (c : File) → Sized n → Whole n x.old → Whole n c → 1 ≤ m
    → m < 8 → Related n m x c → with_delivery x.old (get_or x.numbers delivery_at 0) ≡ c
related-undone n m x c z a b l h r =
    file-path (r.noted.delivery l) r.untouched.threshold
    (member-ext x.old.pending c.pending (a.shaped.pending_long ∙ sym b.shaped.pending_long)
    a.shaped.pending_fit b.shaped.pending_fit
    (λ i q. pending i (omega (arith, a.shaped.pending_long))))
    r.untouched.enable
  where
    pending : (i : ℕ) → i < 32 * file_set_size → member x.old.pending i ≡ member c.pending i
    pending i q =
        stays-cases n i (λ w. sym (r.shared.alone h i w))
        (λ e. (clear-rules n true x.old a.rules a.within i q e).0
        ∙ sym (clear-rules n true c b.rules b.within i q e).0)
