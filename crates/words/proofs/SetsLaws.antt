-- Laws of specs/Sets.antt: which numbers a changed set has, and that a set is its members. No contract cites
-- this file. Assumes nothing.
--   member-..-same      the number that was put in or taken out
--   member-..-other     any other
--   ..-fit              the words stay below 2 ^ 32
--   member-ext          two sets of one length are equal if their members are
use Prim.Native.Nat.{ℕ, ◌+◌, ◌*◌, ◌/◌, ◌%◌, ◌^◌, ◌<◌}
use mathlib.Core.Path.{◌≡◌, refl, sym, ap, ◌∙◌}
use mathlib.Core.Bool.{Bool, true, false}
use mathlib.Core.List.{List}
use mathlib.Core.Logic.{◌≢◌}
use native.Mathlib.Nat.{lt_of_le_of_lt}
use native.Mathlib.Decide.{ℕ_discrete, dec_lt}
use native.Mathlib.Omega.{arith}
use lib.ListN.{length, get_or, set, length-set}
use lib.Seq.{get_or-set_same, get_or-set_other, set_out, ext_get_or}
use Rattle.words.specs.Bits.{has_bit, with_bit, without_bit, put_bit}
use Rattle.words.specs.Sets.{member, insert, remove, put, WordsFit}
use Rattle.words.proofs.TestsLaws.{tested}
use Rattle.words.proofs.BitsLaws.{put_bit-on, put_bit-off}
use Rattle.words.proofs.BitsLaws.{has_bit-with_bit-same, has_bit-with_bit-other, has_bit-without_bit-same}
use Rattle.words.proofs.BitsLaws.{has_bit-without_bit-other, has_bit-ext, with_bit-lt, without_bit-le}

-- ---- what the code reads and writes

pub member-word : (ws : List ℕ) (i : ℕ) → has_bit (get_or ws (i / 32) 0) (i % 32) ≡ member ws i
unfolding member
member-word ws i = refl

pub insert-word : (ws : List ℕ) (i : ℕ)
    → set ws (i / 32) (with_bit (get_or ws (i / 32) 0) (i % 32)) ≡ insert ws i
unfolding insert
insert-word ws i = refl

pub remove-word : (ws : List ℕ) (i : ℕ)
    → set ws (i / 32) (without_bit (get_or ws (i / 32) 0) (i % 32)) ≡ remove ws i
unfolding remove
remove-word ws i = refl

-- ---- one word replaced, for both changes

module _ (ws : List ℕ) (i w : ℕ) where
  placed_same : i / 32 < length ws → member (set ws (i / 32) w) i ≡ has_bit w (i % 32)
  unfolding member
  placed_same h = ap (λ (x : ℕ). has_bit x (i % 32)) (get_or-set_same ws (i / 32) w 0 h)

  placed-other : (j : ℕ) → ((k : ℕ) → k ≢ i % 32 → has_bit w k ≡ has_bit (get_or ws (i / 32) 0) k) → j ≢ i
      → member (set ws (i / 32) w) j ≡ member ws j
  unfolding member
  placed-other j keeps n = at (ℕ_discrete (j / 32) (i / 32)) (dec_lt (i / 32) (length ws))
    where
      at : Dec (j / 32 ≡ i / 32) → Dec (i / 32 < length ws)
          → has_bit (get_or (set ws (i / 32) w) (j / 32) 0) (j % 32) ≡ has_bit (get_or ws (j / 32) 0) (j % 32)
      at (no e) d = ap (λ (x : ℕ). has_bit x (j % 32)) (get_or-set_other ws (i / 32) (j / 32) w 0 e)
      at (yes e) (no l) =
          ap (λ (l : List ℕ). has_bit (get_or l (j / 32) 0) (j % 32)) (set_out ws (i / 32) w (omega arith))
      at (yes e) (yes h) =
          ap (λ (x : ℕ). has_bit x (j % 32)) (ap (λ (k : ℕ). get_or (set ws (i / 32) w) k 0) e
          ∙ get_or-set_same ws (i / 32) w 0 h)
          ∙ keeps (j % 32) (λ q. n (omega arith)) ∙ ap (λ (k : ℕ). has_bit (get_or ws k 0) (j % 32)) (sym e)

pub set-fit : (ws : List ℕ) (k w : ℕ) → w < 2 ^ 32 → WordsFit ws → WordsFit (set ws k w)
unfolding WordsFit
set-fit ws k w h fit i = at (ℕ_discrete i k) (dec_lt k (length ws))
  where
    at : Dec (i ≡ k) → Dec (k < length ws) → get_or (set ws k w) i 0 < 2 ^ 32
    at (no d) q = rw (get_or-set_other ws k i w 0 d) (fit i)
    at (yes e) (yes q) = rw (e, get_or-set_same ws k w 0 q) h
    at (yes e) (no q) = rw (set_out ws k w (omega arith)) (fit i)

-- ---- a number put in, a number taken out

module _ (ws : List ℕ) (i : ℕ) where
  abbrev old : ℕ
  old = get_or ws (i / 32) 0

  pub member-insert-same : i / 32 < length ws → member (insert ws i) i ≡ true
  unfolding insert
  member-insert-same h = placed_same ws i (with_bit old (i % 32)) h ∙ has_bit-with_bit-same old (i % 32)

  pub member-insert-other : (j : ℕ) → j ≢ i → member (insert ws i) j ≡ member ws j
  unfolding insert
  member-insert-other j = placed-other ws i (with_bit old (i % 32)) j (has_bit-with_bit-other old (i % 32))

  pub member-remove-same : i / 32 < length ws → member (remove ws i) i ≡ false
  unfolding remove
  member-remove-same h = placed_same ws i (without_bit old (i % 32)) h ∙ has_bit-without_bit-same old (i % 32)

  pub member-remove-other : (j : ℕ) → j ≢ i → member (remove ws i) j ≡ member ws j
  unfolding remove
  member-remove-other j = placed-other ws i (without_bit old (i % 32)) j
      (has_bit-without_bit-other old (i % 32))

  pub length-insert : length (insert ws i) ≡ length ws
  unfolding insert
  length-insert = length-set ws (i / 32) (with_bit old (i % 32))

  pub length-remove : length (remove ws i) ≡ length ws
  unfolding remove
  length-remove = length-set ws (i / 32) (without_bit old (i % 32))

  pub insert-fit : WordsFit ws → WordsFit (insert ws i)
  unfolding insert
  insert-fit f =
      set-fit ws (i / 32) (with_bit old (i % 32))
      (with_bit-lt 32 old (i % 32) (unfold WordsFit in f (i / 32)) (omega arith)) f

  pub remove-fit : WordsFit ws → WordsFit (remove ws i)
  unfolding remove
  remove-fit f =
      set-fit ws (i / 32) (without_bit old (i % 32))
      (lt_of_le_of_lt (without_bit-le old (i % 32)) (unfold WordsFit in f (i / 32))) f

-- ---- a set is its members

pub word-members : (ws : List ℕ) (k b : ℕ) → b < 32 → member ws (32 * k + b) ≡ has_bit (get_or ws k 0) b
unfolding member
word-members ws k b h =
    ap (λ (m : ℕ). has_bit (get_or ws m 0) ((32 * k + b) % 32)) (omega arith)
    ∙ ap (has_bit (get_or ws k 0)) (omega arith)

pub member-ext : (ws vs : List ℕ) → length ws ≡ length vs → WordsFit ws → WordsFit vs
    → ((i : ℕ) → i < 32 * length ws → member ws i ≡ member vs i) → ws ≡ vs
unfolding WordsFit
member-ext ws vs e fw fv h =
    ext_get_or 0 ws vs e
    (λ k l. has_bit-ext 32 (get_or ws k 0) (get_or vs k 0) (fw k) (fv k)
    (λ b lb. sym (word-members ws k b lb) ∙ h (32 * k + b) (omega arith) ∙ word-members vs k b lb))

-- ---- a number put as a test says

module _ (ws : List ℕ) (i : ℕ) (b : Bool) where
  pub put_word : set ws (i / 32) (put_bit (get_or ws (i / 32) 0) (i % 32) b) ≡ put ws i b
  unfolding put
  put_word =
      tested b (λ t. simp (t, put_bit-on (get_or ws (i / 32) 0) (i % 32) true refl) (insert-word ws i))
      (λ f. simp (f, put_bit-off (get_or ws (i / 32) 0) (i % 32) false refl) (remove-word ws i))

  pub member-put-same : i / 32 < length ws → member (put ws i b) i ≡ b
  unfolding put
  member-put-same h =
      tested b (λ t. simp t (member-insert-same ws i h)) (λ f. simp f (member-remove-same ws i h))

  pub member-put-other : (j : ℕ) → j ≢ i → member (put ws i b) j ≡ member ws j
  unfolding put
  member-put-other j n =
      tested b (λ t. simp t (member-insert-other ws i j n)) (λ f. simp f (member-remove-other ws i j n))

  pub length-put : length (put ws i b) ≡ length ws
  unfolding put
  length-put = tested b (λ t. simp t (length-insert ws i)) (λ f. simp f (length-remove ws i))

  pub put_fit : WordsFit ws → WordsFit (put ws i b)
  unfolding put
  put_fit fit = tested b (λ t. simp t (insert-fit ws i fit)) (λ f. simp f (remove-fit ws i fit))
