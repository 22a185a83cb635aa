-- What a file of n identities keeps of a word that is written to it, and what its words show, by select
-- number: so a word that the file has and one that it has not obey the same laws. No contract cites this
-- file. Assumes nothing.
--   Sized n             n is one less than a multiple of 64, and the sets of a file have room for n
--   Within n f          no identity past n is pending or enabled in f
--   stays n i           identity i is kept: it is one of 1 to n
--   kept_of n ws k v i  i is in the set ws after v was written to its word k, of 64 bits
--   Clear n f i         i is one of 1 to n, or it is neither pending nor enabled in f
use Prim.Native.Nat.{ℕ, ◌+◌, ◌*◌, ◌/◌, ◌%◌, ◌≤◌, ◌<◌}
use mathlib.Core.Path.{◌≡◌, refl, sym, ap, ◌∙◌}
use mathlib.Core.Bool.{Bool, true, false, cond, ◌&&◌, ◌||◌, and-true, and-false, or-false, true≢false}
use mathlib.Core.List.{List}
use mathlib.Core.Logic.{◌≢◌}
use native.Mathlib.Decide.{ℕ_discrete, dec_lt}
use native.Mathlib.Omega.{arith}
use lib.Dec.{eqb, leb}
use lib.ListN.{length}
use borrow.Author.Tests.{eq-eqb, ne_eqb, leb-true, le-leb, lt-leb}
use Rattle.sizes.specs.Sizes.{identities, file_set_size}
use Rattle.words.specs.Bits.{has_bit, union}
use Rattle.words.specs.Sets.{member}
use Rattle.words.proofs.BitsLaws.{has_bit-nothing, has_bit-union}
use Rattle.words.proofs.TestsLaws.{tested, and_first, and_second}
use Rattle.file_select.specs.Select.{eip0, eie0}
use Rattle.file_select.specs.Halves.{put_doubleword}
use Rattle.file.specs.declared.File.{File}
use Rattle.file.specs.declared.register.Access.TheVariants.{Read, Write, Set}
use Rattle.file.specs.declared.register.Accessed.{Accessed}
use Rattle.file.specs.Parts.{with_pending_set, with_enable}
use Rattle.file.specs.Reply.{reply_value}
use Rattle.file.specs.Shape.{Shaped}
use Rattle.file.specs.Register.{held, written, accessed_at, accessed}
use Rattle.file_laws.proofs.Keeps.{Rules}
use Rattle.file_laws.proofs.WordEffects.{has_bit-doubleword, member-put_doubleword}
use Rattle.board_move_files_laws.specs.Related.{Identity}
use Rattle.board_move_files_laws.proofs.SelectEffects.{below, pending-there, pending-past}
use Rattle.board_move_files_laws.proofs.SelectEffects.{enable-there, enable-past, set-writes}

-- ---- the number of identities

pub record Sized (n : ℕ) : Type 0 where
  pub small : n < 32 * file_set_size
  pub whole : (n + 1) % 64 ≡ 0

pub record Within (n : ℕ) (f : File) : Type 0 where
  pub pending : (i : ℕ) → n < i → i < 32 * file_set_size → member f.pending i ≡ false
  pub enable : (i : ℕ) → n < i → i < 32 * file_set_size → member f.enable i ≡ false

-- the identities of a file fill its sets, so that none is past them
pub large-sized : Sized identities
large-sized = record { small = omega arith; whole = refl }

pub large-within : (f : File) → Within identities f
large-within f =
    record { pending = λ i h w. absurd (omega arith); enable = λ i h w. absurd (omega arith) }

-- ---- what is kept

unfoldable pub stays : ℕ → ℕ → Bool
stays n i = leb 1 i && leb i n

pub stays-in : (n i : ℕ) → Identity n i → stays n i ≡ true
unfolding stays
stays-in n i d = simp (le-leb 1 i d.0, le-leb i n d.1)

stays-past : (n i : ℕ) → n < i → stays n i ≡ false
unfolding stays
stays-past n i h = simp (le-leb 1 i (omega arith), lt-leb i n h)

-- i is an identity that is kept, or it is not
pub stays-cases : {C : Type 0} (n i : ℕ) → (Identity n i → C) → (stays n i ≡ false → C) → C
unfolding stays
stays-cases n i p q =
    tested (stays n i)
    (λ t. p (leb-true 1 i (and_first (leb 1 i) (leb i n) t), leb-true i n (and_second (leb 1 i) (leb i n) t)))
    q

unfoldable pub kept_of : ℕ → List ℕ → ℕ → ℕ → ℕ → Bool
kept_of n ws k v i = cond (eqb (i / 64) k) (has_bit v (i % 64) && stays n i) (member ws i)

module _ (n : ℕ) (ws : List ℕ) (k v i : ℕ) where
  pub kept_same : i / 64 ≡ k → kept_of n ws k v i ≡ (has_bit v (i % 64) && stays n i)
  unfolding kept_of
  kept_same e = simp (eq-eqb (i / 64) k e)

  pub kept_in : Identity n i → i / 64 ≡ k → kept_of n ws k v i ≡ has_bit v (i % 64)
  kept_in d e = kept_same e ∙ simp (stays-in n i d, and-true)

  pub kept-other : i / 64 ≢ k → kept_of n ws k v i ≡ member ws i
  unfolding kept_of
  kept-other d = simp (ne_eqb (i / 64) k d)

  -- a word that the file has, all of it, and one that it has not
  put-kept : Sized n → k ≤ n / 64 → 2 * k + 1 < length ws
      → member (put_doubleword ws k v) i ≡ kept_of n ws k v i
  unfolding stays
  put-kept sized there fits = member-put_doubleword ws k v i fits ∙ at (ℕ_discrete (i / 64) k)
    where
      at : Dec (i / 64 ≡ k)
          → cond (eqb (i / 64) k) (has_bit v (i % 64) && leb 1 i) (member ws i) ≡ kept_of n ws k v i
      at (no d) = simp (ne_eqb (i / 64) k d) (sym (kept-other d))
      at (yes e) =
          simp (eq-eqb (i / 64) k e)
          (sym (kept_same e ∙ simp (le-leb i n (omega (arith, sized.whole)), and-true)))

  none_kept : n / 64 < k → (i / 64 ≡ k → member ws i ≡ false) → member ws i ≡ kept_of n ws k v i
  none_kept past clear = at (ℕ_discrete (i / 64) k)
    where
      at : Dec (i / 64 ≡ k) → member ws i ≡ kept_of n ws k v i
      at (no d) = sym (kept-other d)
      at (yes e) = clear e ∙ sym (kept_same e ∙ simp (stays-past n i (omega arith), and-false))

-- ---- what is clear

abbrev pub Clear : ℕ → File → ℕ → Type 0
Clear n f i = stays n i ≡ false → (member f.pending i ≡ false) × (member f.enable i ≡ false)

pub clear_in : (n : ℕ) (f : File) (i : ℕ) → Identity n i → Clear n f i
clear_in n f i d e = absurd (true≢false (sym (stays-in n i d) ∙ e))

-- a file that keeps its rules has no identity that would not be kept
pub clear-rules : (n : ℕ) (g : Bool) (f : File) → Rules n g f → Within n f → (i : ℕ) → i < 32 * file_set_size
    → Clear n f i
clear-rules n g f r w i h e = at (ℕ_discrete i 0) (dec_lt n i)
  where
    at : Dec (i ≡ 0) → Dec (n < i) → (member f.pending i ≡ false) × (member f.enable i ≡ false)
    at (yes z) d = (rw z r.pending_zero, rw z r.enable_zero)
    at (no z) (yes l) = (w.pending i l h, w.enable i l h)
    at (no z) (no l) = clear_in n f i (omega arith, omega arith) e

-- ---- an access to a word, whether the file has it or not

module _ (n : ℕ) (g : Bool) (f : File) (k : ℕ) (low : k < 4) where
  -- what word k of a set reads, and what a write to it does
  abbrev shown : ℕ → ℕ
  shown base = reply_value (accessed n g f Read (base + 2 * k) 0).answer

  abbrev after : ℕ → ℕ → Accessed
  after base v = accessed n g f Write (base + 2 * k) v

  -- nothing but the word's set changes
  pub word-only : (v : ℕ)
      → ((after eip0 v).file ≡ with_pending_set f (after eip0 v).file.pending)
      × ((after eie0 v).file ≡ with_enable f (after eie0 v).file.enable)
  unfolding accessed_at written
  word-only v =
      below (n / 64) k
      (λ h. (rw (pending-past n g f Write v k low h), rw (enable-past n g f Write v k low h)))
      (λ h. (rw (pending-there n g f Write v k low h), rw (enable-there n g f Write v k low h)))

  module _ (s : Shaped f) (i : ℕ) (clear : i / 64 ≡ k → Clear n f i) where
    out : n / 64 < k → i / 64 ≡ k → (member f.pending i ≡ false) × (member f.enable i ≡ false)
    out h e = clear e (stays-past n i (omega arith))

    -- the one law on what a write keeps, for either set of a file
    pub member-accessed : Sized n → (v : ℕ)
        → (member (after eip0 v).file.pending i ≡ kept_of n f.pending k v i)
        × (member (after eie0 v).file.enable i ≡ kept_of n f.enable k v i)
    unfolding accessed_at written
    member-accessed sized v =
        below (n / 64) k
        (λ h. (
          rw (pending-past n g f Write v k low h) (none_kept n f.pending k v i h (λ e. (out h e).0)),
          rw (enable-past n g f Write v k low h) (none_kept n f.enable k v i h (λ e. (out h e).1)),
        ))
        (λ h. (
          rw (pending-there n g f Write v k low h)
              (put-kept n f.pending k v i sized h (omega (arith, s.pending_long))),
          rw (enable-there n g f Write v k low h)
              (put-kept n f.enable k v i sized h (omega (arith, s.enable_long))),
        ))

    -- and on what a read shows
    pub held_word : i / 64 ≡ k
        → (has_bit (shown eip0) (i % 64) ≡ member f.pending i)
        × (has_bit (shown eie0) (i % 64) ≡ member f.enable i)
    unfolding accessed_at held
    held_word e =
        below (n / 64) k
        (λ h. (
          rw (pending-past n g f Read 0 k low h) (has_bit-nothing (i % 64) ∙ sym (out h e).0),
          rw (enable-past n g f Read 0 k low h) (has_bit-nothing (i % 64) ∙ sym (out h e).1),
        ))
        (λ h. (
          rw (pending-there n g f Read 0 k low h) (has_bit-doubleword f.pending k i s.pending_fit e),
          rw (enable-there n g f Read 0 k low h) (has_bit-doubleword f.enable k i s.enable_fit e),
        ))

    -- bits that are set join those that are there
    pub member-set : Sized n → (v : ℕ)
        → member (accessed n g f Set (eip0 + 2 * k) v).file.pending i
        ≡ (member f.pending i || (eqb (i / 64) k && has_bit v (i % 64) && stays n i))
    member-set sized v =
        ap (λ (y : File). member y.pending i) (set-writes n g f (eip0 + 2 * k) v)
        ∙ (member-accessed sized both).0 ∙ at (ℕ_discrete (i / 64) k)
      where
        both : ℕ
        both = union (shown eip0) v

        kept : (a b c : Bool) → (c ≡ false → a ≡ false) → ((a || b) && c) ≡ (a || (b && c))
        kept a b true h = simp and-true
        kept a b false h = simp (h refl, and-false)

        at : Dec (i / 64 ≡ k)
            → kept_of n f.pending k both i
            ≡ (member f.pending i || (eqb (i / 64) k && has_bit v (i % 64) && stays n i))
        at (no d) = kept-other n f.pending k both i d ∙ sym (simp (ne_eqb (i / 64) k d, or-false))
        at (yes e) =
            kept_same n f.pending k both i e
            ∙ ap (λ (t : Bool). t && stays n i)
            (has_bit-union (shown eip0) v (i % 64)
            ∙ ap (λ (t : Bool). t || has_bit v (i % 64)) (held_word e).0)
            ∙ kept (member f.pending i) (has_bit v (i % 64)) (stays n i) (λ q. (clear e q).0)
            ∙ sym (simp (eq-eqb (i / 64) k e))
