-- What is pending stays in the old file or in the new one, through messages and accesses. No contract cites
-- this file. Assumes nothing.
use Prim.Native.Nat.{ℕ, suc, ◌+◌, ◌*◌, ◌/◌, ◌%◌, ◌≤◌, ◌<◌}
use mathlib.Core.Path.{◌≡◌, sym, ap, ◌∙◌}
use mathlib.Core.Bool.{Bool, true, false, ◌||◌, and-true, or-false, or_comm, or_assoc, or_self_left}
use mathlib.Core.List.{List}
use mathlib.Core.Logic.{◌≢◌}
use native.Mathlib.Decide.{ℕ_discrete}
use native.Mathlib.Omega.{arith}
use borrow.Author.Tests.{eq-eqb, ne_eqb}
use Rattle.words.specs.Bits.{has_bit}
use Rattle.words.specs.Sets.{member}
use Rattle.words.proofs.BitsLaws.{has_bit-nothing}
use Rattle.file_select.specs.Select.{eip0}
use Rattle.file.specs.declared.File.{File}
use Rattle.file.specs.declared.register.Access.TheVariants.{Write, Set}
use Rattle.file.specs.Shape.{Shaped}
use Rattle.board_move_files_laws.specs.Related.{Identity, guest_access, Shared}
use Rattle.board_move_files_laws.proofs.WrittenEffects.{Sized, stays-in, kept_of, kept_in, kept-other}
use Rattle.board_move_files_laws.proofs.WrittenEffects.{clear_in, member-accessed, member-set}

-- ---- messages: those that b names are added

or_swap : (a b c : Bool) → (a || b || c) ≡ (a || c || b)
or_swap a b c = or_assoc a b c ∙ ap (◌||◌ a) (or_comm b c) ∙ sym (or_assoc a c b)

module _ (n m : ℕ) (o f c : List ℕ) (r : Shared n m o f c) (b : ℕ → Bool) (q : List ℕ)
    (came : (i : ℕ) → member q i ≡ (member c i || b i)) where
  pub shared-both : m < 72 → (p : List ℕ) → ((i : ℕ) → member p i ≡ (member o i || b i)) → Shared n m p f q
  shared-both l p same =
      record {
        alone = λ h i w. came i ∙ ap (λ (t : Bool). t || b i) (r.alone h i w) ∙ sym (same i);
        empty = r.empty;
        joined = λ h i w. came i ∙ ap (λ (t : Bool). t || b i) (r.joined h i w)
            ∙ or_swap (member o i) (member f i) (b i) ∙ ap (λ (t : Bool). t || member f i) (sym (same i));
        settled = λ i w h. absurd (omega arith);
      }

  pub shared_new : 8 ≤ m → (p : List ℕ) → ((i : ℕ) → member p i ≡ (member f i || b i)) → Shared n m o p q
  shared_new l p same =
      record {
        alone = λ h. absurd (omega arith);
        empty = λ h. absurd (omega arith);
        joined = λ h i w. came i ∙ ap (λ (t : Bool). t || b i) (r.joined h i w)
            ∙ or_assoc (member o i) (member f i) (b i) ∙ ap (◌||◌ (member o i)) (sym (same i));
        settled = λ i w h. same i ∙ ap (λ (t : Bool). t || b i) (r.settled i w h) ∙ sym (came i);
      }

-- ---- accesses

-- an access that is none of 5 to 8 and 80 to 83
pub shared-later : (n m : ℕ) (o f c : List ℕ) → Sized n
    → ((k : ℕ) → k < 4 → (k + 5 ≢ suc m) × (k + 80 ≢ suc m)) → Shared n m o f c → Shared n (suc m) o f c
shared-later n m o f c sized idle r =
    record {
      alone = λ h. r.alone (omega arith);
      empty = λ h i w l. r.empty (omega arith) i w (omega (arith, idle (i / 64) (omega arith)));
      joined = λ h. r.joined (omega (arith, idle 3 (omega arith)));
      settled = λ i w l. r.settled i w (omega (arith, idle (i / 64) (omega arith)));
    }

module _ (n m : ℕ) (o c : List ℕ) (f : File) (sized : Sized n) (s : Shaped f)
    (r : Shared n m o f.pending c) (k : ℕ) (low : k < 4) where
  -- accesses 5 to 8: word k of the new file is cleared, and with the last of them all that is pending is old
  module _ (early : suc m ≡ k + 5) where
    abbrev cleared : File
    cleared = (guest_access n f Write (eip0 + 2 * k) 0).file

    clear-empty : (i : ℕ) → Identity n i → i / 64 + 5 ≤ suc m → member cleared.pending i ≡ false
    clear-empty i w h =
        (member-accessed n true f k low s i (λ e. clear_in n f i w) sized 0).0 ∙ at (ℕ_discrete (i / 64) k)
      where
        at : Dec (i / 64 ≡ k) → kept_of n f.pending k 0 i ≡ false
        at (yes e) = kept_in n f.pending k 0 i w e ∙ has_bit-nothing (i % 64)
        at (no d) = kept-other n f.pending k 0 i d ∙ r.empty (omega arith) i w (omega arith)

    pub shared-clear : Shared n (suc m) o cleared.pending c
    shared-clear =
        record {
          alone = λ h. r.alone (omega arith);
          empty = λ h. clear-empty;
          joined = λ h i w. r.alone (omega arith) i w
              ∙ sym (rw (clear-empty i w (omega (arith, sized.small))) (or-false (member o i)));
          settled = λ i w h. absurd (omega arith);
        }

    -- and what held before it holds still: to clear takes nothing from the old file
    pub shared-still : Shared n m o cleared.pending c
    shared-still =
        record {
          alone = r.alone;
          empty = λ h i w l. clear-empty i w (omega arith);
          joined = λ h. absurd (omega arith);
          settled = λ i w h. absurd (omega arith);
        }

  -- accesses 80 to 83: v, what was pending in word k of the old file, is set in the new one, and then that
  -- word has all that is pending
  module _ (late : suc m ≡ k + 80) (v : ℕ)
      (saved : (i : ℕ) → Identity n i → i / 64 ≡ k → has_bit v (i % 64) ≡ member o i) where
    abbrev after : File
    after = (guest_access n f Set (eip0 + 2 * k) v).file

    set_other : (i : ℕ) → Identity n i → i / 64 ≢ k → member after.pending i ≡ member f.pending i
    set_other i w d =
        member-set n true f k low s i (λ e. clear_in n f i w) sized v
        ∙ simp (ne_eqb (i / 64) k d, or-false)

    set_same : (i : ℕ) → Identity n i → i / 64 ≡ k → member after.pending i ≡ member c i
    set_same i w q =
        member-set n true f k low s i (λ e. clear_in n f i w) sized v
        ∙ simp (eq-eqb (i / 64) k q, stays-in n i w, and-true, saved i w q)
        (or_comm (member f.pending i) (member o i) ∙ sym (r.joined (omega arith) i w))

    pub shared-set : Shared n (suc m) o after.pending c
    shared-set =
        record {
          alone = λ h. absurd (omega arith);
          empty = λ h. absurd (omega arith);
          joined = λ h i w. both i w (ℕ_discrete (i / 64) k);
          settled = λ i w h. whole i w h (ℕ_discrete (i / 64) k);
        }
      where
        both : (i : ℕ) → Identity n i → Dec (i / 64 ≡ k)
            → member c i ≡ (member o i || member after.pending i)
        both i w (no d) = r.joined (omega arith) i w ∙ ap (◌||◌ (member o i)) (sym (set_other i w d))
        both i w (yes q) =
            let e = r.joined (omega arith) i w in
            e ∙ sym (or_self_left (member o i) (member f.pending i))
            ∙ ap (◌||◌ (member o i)) (sym e ∙ sym (set_same i w q))

        whole : (i : ℕ) → Identity n i → i / 64 + 80 ≤ suc m → Dec (i / 64 ≡ k)
            → member after.pending i ≡ member c i
        whole i w h (no d) = set_other i w d ∙ r.settled i w (omega arith)
        whole i w h (yes q) = set_same i w q
