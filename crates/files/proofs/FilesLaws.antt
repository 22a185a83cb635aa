-- Laws of specs/Files.antt: a file of the block, a file stored, and messages that reach their files. No
-- contract cites this file. Assumes nothing.
use Prim.Native.Nat.{ℕ, zero, suc, ◌+◌, ◌*◌, ◌%◌, ◌≤◌, ◌<◌}
use mathlib.Core.Path.{◌≡◌, refl, sym, ap, ◌∙◌}
use mathlib.Core.Bool.{Bool, ◌&&◌}
use mathlib.Core.Logic.{◌≢◌, ◌⊎◌, inl, inr}
use mathlib.Core.List.{List, [], ◌∷◌, ◌++◌}
use native.Mathlib.Decide.{ℕ_discrete, dec_lt}
use native.Mathlib.Numerals.{add-one}
use native.Mathlib.Omega.{arith}
use lib.Dec.{leb}
use lib.ListN.{length, get_or, set, take, length-set}
use lib.Seq.{get_or-set_same, get_or-set_other, set-get_or, ext_get_or, take-suc}
use Rattle.sizes.specs.Sizes.{identities, files_size, file_count, file_size, fields_size}
use Rattle.words.specs.Every.{every}
use Rattle.words.proofs.EveryLaws.{every_one, every_more}
use Rattle.file_message.specs.Message.{hart_in, file_in, identity_in}
use Rattle.file.specs.declared.File.{File}
use Rattle.file.specs.Page.{arrived}
use Rattle.file.proofs.PageLaws.{arrived-below}
use Rattle.file.specs.Shape.{Long}
use Rattle.file_laws.proofs.Stored.{long-back, long_apart}
use Rattle.file_words.specs.Stored.{file_at, put_file}
use Rattle.files.specs.Files.{file_number, is_guest, zero_file, files_from, files_of, the_file, with_file}
use Rattle.files.specs.Files.{named_by, reached, all_reached, Named}

-- ---- one file of the block

pub length-files_from : (l : List ℕ) (k n : ℕ) → length (files_from l k n) ≡ n
unfolding files_from
length-files_from l k zero = refl
length-files_from l k (suc n) = ap suc (length-files_from l (suc k) n)

pub length-files_of : (l : List ℕ) → length (files_of l) ≡ file_count
unfolding files_of
length-files_of l = length-files_from l 0 file_count

the_file-files_from : (l : List ℕ) (k n i : ℕ) → i < n
    → the_file (files_from l k n) i ≡ file_at l (file_size * (k + i))
unfolding files_from the_file
the_file-files_from l k zero i h = absurd (omega arith)
the_file-files_from l k (suc n) zero h = ap (λ (j : ℕ). file_at l (file_size * j)) (omega arith)
the_file-files_from l k (suc n) (suc i) h =
    the_file-files_from l (suc k) n i (omega arith) ∙ ap (λ (j : ℕ). file_at l (file_size * j)) (omega arith)

pub the_file-files_of : (l : List ℕ) (k : ℕ) → k < file_count → the_file (files_of l) k ≡ file_at l
    (file_size * k)
unfolding files_of
the_file-files_of l k h =
    the_file-files_from l 0 file_count k h ∙ ap (λ (j : ℕ). file_at l (file_size * j)) (omega arith)

pub ruleset loaded = (the_file-files_of)

-- ---- one file replaced

module _ (fs : List File) (k : ℕ) (f : File) where
  pub length-with_file : length (with_file fs k f) ≡ length fs
  unfolding with_file
  length-with_file = length-set fs k f

  pub the_file-with_file-same : k < length fs → the_file (with_file fs k f) k ≡ f
  unfolding the_file with_file
  the_file-with_file-same h = get_or-set_same fs k f zero_file h

  pub the_file-with_file-other : (j : ℕ) → j ≢ k → the_file (with_file fs k f) j ≡ the_file fs j
  unfolding the_file with_file
  the_file-with_file-other j n = get_or-set_other fs k j f zero_file n

pub the_file-first : (f : File) (fs : List File) → the_file (f ∷ fs) 0 ≡ f
unfolding the_file
the_file-first f fs = refl

pub the_file-next : (f : File) (fs : List File) (k : ℕ) → the_file (f ∷ fs) (suc k) ≡ the_file fs k
unfolding the_file
the_file-next f fs k = refl

-- two lists of files are equal if they have as many and file by file the same
pub files-same : (fs gs : List File) → length fs ≡ length gs
    → ((k : ℕ) → k < length fs → the_file fs k ≡ the_file gs k) → fs ≡ gs
unfolding the_file
files-same fs gs e h = ext_get_or zero_file fs gs e h

apart : (i k : ℕ) → i ≢ k
    → (file_size * i + fields_size ≤ file_size * k) ⊎ (file_size * k + fields_size ≤ file_size * i)
apart i k n = at (dec_lt i k)
  where
    at : Dec (i < k) → (file_size * i + fields_size ≤ file_size * k) ⊎
        (file_size * k + fields_size ≤ file_size * i)
    at (yes h) = inl (omega arith)
    at (no h) = inr (omega arith)

module _ (l : List ℕ) (long : length l ≡ files_size) (k : ℕ) (h : k < file_count) (f : File)
    (s : Long f) where
  abbrev put : List ℕ
  put = put_file l (file_size * k) f

  put-file : (i : ℕ) → i < file_count → Dec (i ≡ k)
      → file_at put (file_size * i) ≡ the_file (with_file (files_of l) k f) i
  put-file i hi (yes e) =
      rw e (long-back l (file_size * k) f s (omega arith)
      ∙ sym (the_file-with_file-same (files_of l) k f (omega (arith, length-files_of l))))
  put-file i hi (no n) =
      long_apart l (file_size * k) f s (file_size * i) (omega arith) (omega arith) (apart i k n)
      ∙ sym (the_file-with_file-other (files_of l) k f i n ∙ the_file-files_of l i hi)

  -- a file stored in its place is that file replaced
  pub files_of-put : files_of (put_file l (file_size * k) f) ≡ with_file (files_of l) k f
  files_of-put =
      files-same (files_of put) (with_file (files_of l) k f)
      (length-files_of put ∙ sym (length-with_file (files_of l) k f ∙ length-files_of l))
      (λ i q. let hi : i < file_count = omega (arith, length-files_of put) in
      the_file-files_of put i hi ∙ put-file i hi (ℕ_discrete i k))

-- ---- messages

-- five files for each hart
pub named_by-is : (m h f : ℕ) → h ≡ hart_in m → f ≡ file_in m → 5 * h + f ≡ named_by m
unfolding named_by file_number
named_by-is m h f eh ef = omega arith

-- the file that the message names is loaded, the identity arrives, the file is stored
pub reached-is : (fs : List File) (m k i : ℕ) (f g : File) → k ≡ named_by m → f ≡ the_file fs k
    → i ≡ identity_in m → g ≡ arrived identities f i → with_file fs k g ≡ reached fs m
unfolding reached
reached-is fs m k i f g ek ef ei eg = rw (eg, ef, ei, ek)

-- identity 0 reaches nobody
pub reached-zero : (fs : List File) (m : ℕ) → identity_in m ≡ 0 → reached fs m ≡ fs
unfolding reached with_file the_file
reached-zero fs m e =
    ap (set fs (named_by m))
    (arrived-below identities (get_or fs (named_by m) zero_file) (identity_in m) (omega arith))
    ∙ set-get_or fs (named_by m) zero_file

pub all_reached-none : (fs : List File) → all_reached fs [] ≡ fs
unfolding all_reached
all_reached-none fs = refl

all_reached-append : (us vs : List ℕ) (fs : List File)
    → all_reached fs (us ++ vs) ≡ all_reached (all_reached fs us) vs
unfolding all_reached
all_reached-append [] vs fs = refl
all_reached-append (u ∷ us) vs fs = all_reached-append us vs (reached fs u)

-- one message more
pub all_reached-more : (fs : List File) (l : List ℕ) (k : ℕ) → k < length l
    → all_reached fs (take (k + 1) l) ≡ reached (all_reached fs (take k l)) (get_or l k 0)
unfolding all_reached
all_reached-more fs l k h =
    ap (λ (n : ℕ). all_reached fs (take n l)) (add-one k) ∙ ap (all_reached fs) (take-suc l k 0 h)
    ∙ all_reached-append (take k l) (get_or l k 0 ∷ []) fs

-- `Named` said of each word of the log
module _ (l : List ℕ) (n : ℕ) where
  pub named-each : Named l n → (k : ℕ) → k < n → file_in (get_or l k 0) < 5
  unfolding Named
  named-each named = named

  pub named-of : ((k : ℕ) → k < n → file_in (get_or l k 0) < 5) → Named l n
  unfolding Named
  named-of each = each

-- ---- the state rules

pub guest-read : (k : ℕ) → leb 2 (k % 5) ≡ is_guest k
unfolding is_guest
guest-read k = refl

-- five tests in a row
pub every-five : (p : ℕ → Bool) (k : ℕ) {a b c d e : Bool}
    → a ≡ p k → b ≡ p (k + 1) → c ≡ p (k + 2) → d ≡ p (k + 3) → e ≡ p (k + 4)
    → (a && b && c && d && e) ≡ every p k 5
every-five p k a b c d e =
    (λ j. a j && b j && c j && d j && e j)
    ∙ (λ j. every_one p k j && p (k + 1) && p (k + 2) && p (k + 3) && p (k + 4))
    ∙ (λ j. sym (every_more p k 1) j && p (k + 2) && p (k + 3) && p (k + 4))
    ∙ (λ j. sym (every_more p k 2) j && p (k + 3) && p (k + 4))
    ∙ (λ j. sym (every_more p k 3) j && p (k + 4)) ∙ sym (every_more p k 4)
