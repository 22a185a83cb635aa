-- A file stored is loaded again, a block keeps what stands elsewhere, and a file loaded has the shape. No
-- contract cites this file. Assumes nothing.
use Prim.Native.Nat.{ℕ, zero, suc, ◌+◌, ◌-◌, ◌^◌, ◌≤◌, ◌<◌}
use mathlib.Core.Path.{◌≡◌, refl, sym, ap, ap₂, ◌∙◌, subst}
use mathlib.Core.List.{List, [], ◌∷◌, ◌++◌, append_assoc}
use mathlib.Core.Logic.{◌⊎◌, ⊎_elim}
use native.Mathlib.Decide.{dec_lt}
use native.Mathlib.Nat.{add-zero, add_assoc}
use native.Mathlib.Numerals.{add-one}
use native.Mathlib.Omega.{arith}
use lib.ListN.{length, get_or, take, drop, set, length-set, length-append, length-take}
use lib.ListN.{get_or-eq_default, get_or-append, take-append-drop}
use lib.Seq.{sets, sets-eq, length-sets, get_or-set_same, get_or-set_other, get_or-append-add}
use lib.Seq.{ext_get_or, drop-cons, drop-drop, take-add}
use Rattle.words.specs.Sets.{WordsFit}
use Rattle.words.proofs.SegmentLaws.{segment-at, segment-long}
use Rattle.file.specs.declared.File.{File}
use Rattle.file.specs.Shape.{Shaped}
use Rattle.file_words.specs.Stored.{file_words, file_at, put_file}
use Rattle.sizes.specs.Sizes.{fields_size, pending_place, enable_place, threshold_place, file_set_size}
pub use Rattle.file.specs.Shape.{Long}

-- ---- a run of stores, read at a place

pub sets-before : (vs l : List ℕ) (at k : ℕ) → k < at → get_or (sets l at vs) k 0 ≡ get_or l k 0
sets-before [] l at k h = refl
sets-before (v ∷ vs) l at k h =
    sets-before vs (set l at v) (suc at) k (omega arith) ∙ get_or-set_other l at k v 0 (λ q. omega arith)

pub sets-after : (vs l : List ℕ) (at k : ℕ) → at + length vs ≤ k → get_or (sets l at vs) k 0 ≡ get_or l k 0
sets-after [] l at k h = refl
sets-after (v ∷ vs) l at k h =
    sets-after vs (set l at v) (suc at) k (omega arith) ∙ get_or-set_other l at k v 0 (λ q. omega arith)

pub sets-inside : (vs l : List ℕ) (at k : ℕ) → at + length vs ≤ length l → k < length vs
    → get_or (sets l at vs) (at + k) 0 ≡ get_or vs k 0
sets-inside [] l at k h m = absurd (omega arith)
sets-inside (v ∷ vs) l at zero h m =
    ap (λ (i : ℕ). get_or (sets (set l at v) (suc at) vs) i 0) (add-zero at)
    ∙ sets-before vs (set l at v) (suc at) at (omega arith) ∙ get_or-set_same l at v 0 (omega arith)
sets-inside (v ∷ vs) l at (suc k) h m =
    ap (λ (i : ℕ). get_or (sets (set l at v) (suc at) vs) i 0) (omega arith)
    ∙ sets-inside vs (set l at v) (suc at) k (rw length-set (omega arith)) (omega arith)

-- ---- a stretch of a block

-- two stretches of n words are equal if their words are
part_same : (l m : List ℕ) (at at' n : ℕ) → at + n ≤ length l → at' + n ≤ length m
    → ((i : ℕ) → i < n → get_or l (at + i) 0 ≡ get_or m (at' + i) 0) → take n (drop at l) ≡ take n
    (drop at' m)
part_same l m at at' n hl hm h =
    ext_get_or 0 (take n (drop at l)) (take n (drop at' m)) (segment-long l at n hl
    ∙ sym (segment-long m at' n hm))
    (λ i q. let b : i < n = omega (arith, segment-long l at n hl) in segment-at l at n i b ∙ h i b
    ∙ sym (segment-at m at' n i b))

-- a stretch is a given list if its words are
part-is : (l ws : List ℕ) (at n : ℕ) → at + n ≤ length l → length ws ≡ n
    → ((i : ℕ) → i < n → get_or l (at + i) 0 ≡ get_or ws i 0) → take n (drop at l) ≡ ws
part-is l ws at n hl hw h =
    ext_get_or 0 (take n (drop at l)) ws (segment-long l at n hl ∙ sym hw)
    (λ i q. let b : i < n = omega (arith, segment-long l at n hl) in segment-at l at n i b ∙ h i b)

-- ---- a file in a block

-- two files are equal if their parts are
pub file-path : {f h : File} → f.delivery ≡ h.delivery → f.threshold ≡ h.threshold
    → f.pending ≡ h.pending → f.enable ≡ h.enable → f ≡ h
file-path d t p e = λ k. record { delivery = d k; threshold = t k; pending = p k; enable = e k }

pub shaped-long : (f : File) → Shaped f → Long f
shaped-long f s = record { pending_long = s.pending_long; enable_long = s.enable_long }

pub words_long : (f : File) → Long f → length (file_words f) ≡ fields_size
unfolding file_words
words_long f s = omega (arith, length-append f.pending f.enable, s.pending_long, s.enable_long)

words-pending : (f : File) → Long f → (i : ℕ) → i < 8
    → get_or (file_words f) (pending_place + i) 0 ≡ get_or f.pending i 0
unfolding file_words
words-pending f s i h =
    let place : pending_place + i ≡ suc (suc i) = omega arith in
    ap (λ (k : ℕ). get_or (file_words f) k 0) place
    ∙ get_or-append f.pending f.enable 0 i (omega (arith, s.pending_long))

words-enable : (f : File) → Long f → (i : ℕ) → i < 8
    → get_or (file_words f) (enable_place + i) 0 ≡ get_or f.enable i 0
unfolding file_words
words-enable f s i h =
    let place : enable_place + i ≡ suc (suc (length f.pending + i)) = omega (arith, s.pending_long) in
    ap (λ (k : ℕ). get_or (file_words f) k 0) place ∙ get_or-append-add f.pending f.enable i 0

module _ (l : List ℕ) (at : ℕ) (f : File) where
  pub length-put : length (put_file l at f) ≡ length l
  unfolding put_file
  length-put = length-sets l at (file_words f)

  -- word k of the file, where it stands in the block
  put_word : Long f → at + fields_size ≤ length l → (k : ℕ) → k < fields_size
      → get_or (put_file l at f) (at + k) 0 ≡ get_or (file_words f) k 0
  unfolding put_file
  put_word s h k m =
      sets-inside (file_words f) l at k (omega (arith, words_long f s)) (omega (arith, words_long f s))

  -- what was stored is loaded
  pub long-back : Long f → at + fields_size ≤ length l → file_at (put_file l at f) at ≡ f
  unfolding file_at file_words
  long-back s h =
      let m = put_file l at f in
      let place : (j i : ℕ) → j + i < fields_size → get_or m (at + j + i) 0 ≡ get_or (file_words f)
      (j + i) 0 =
      λ j i r. ap (λ (k : ℕ). get_or m k 0) (add_assoc at j i) ∙ put_word s h (j + i) r in
      file-path
      (ap (λ (k : ℕ). get_or m k 0) (sym (add-zero at)) ∙ put_word s h 0 (omega arith))
      (put_word s h threshold_place (omega arith))
      (part-is m f.pending (at + pending_place) 8 (omega (arith, length-put)) s.pending_long
      (λ i q. place pending_place i (omega arith) ∙ words-pending f s i q))
      (part-is m f.enable (at + enable_place) 8 (omega (arith, length-put)) s.enable_long
      (λ i q. place enable_place i (omega arith) ∙ words-enable f s i q))

  -- a file that stands apart is as it was
  pub long_apart : Long f → (at' : ℕ) → at + fields_size ≤ length l → at' + fields_size ≤ length l
      → (at' + fields_size ≤ at) ⊎ (at + fields_size ≤ at')
      → file_at (put_file l at f) at' ≡ file_at l at'
  unfolding file_at
  long_apart s at' h h' apart =
      let m = put_file l at f in
      let same : (k : ℕ) → k < fields_size
      → get_or m (at' + k) 0 ≡ get_or l (at' + k) 0 = λ k q. elsewhere k q apart in
      let stretch : (j : ℕ) → j + 8 ≤ fields_size
      → take 8 (drop (at' + j) m) ≡ take 8 (drop (at' + j) l) = λ j q.
      part_same m l (at' + j) (at' + j) 8 (omega (arith, length-put)) (omega arith)
      (λ i b. ap (λ (k : ℕ). get_or m k 0) (add_assoc at' j i) ∙ same (j + i) (omega arith)
      ∙ ap (λ (k : ℕ). get_or l k 0) (sym (add_assoc at' j i))) in
      file-path
      (ap (λ (k : ℕ). get_or m k 0) (sym (add-zero at')) ∙ same 0 (omega arith)
      ∙ ap (λ (k : ℕ). get_or l k 0) (add-zero at'))
      (same threshold_place (omega arith)) (stretch pending_place (omega arith))
      (stretch enable_place (omega arith))
    where
      elsewhere : (k : ℕ) → k < fields_size → (at' + fields_size ≤ at) ⊎ (at + fields_size ≤ at')
          → get_or (put_file l at f) (at' + k) 0 ≡ get_or l (at' + k) 0
      elsewhere k q =
          ⊎_elim (λ b. unfold put_file in sets-before (file_words f) l at (at' + k) (omega arith))
          (λ a. unfold put_file in sets-after (file_words f) l at (at' + k) (omega (arith, words_long f s)))

  -- so of one with the whole shape
  pub file-back : Shaped f → at + fields_size ≤ length l → file_at (put_file l at f) at ≡ f
  file-back s = long-back (shaped-long f s)

  pub file-apart : Shaped f → (at' : ℕ) → at + fields_size ≤ length l → at' + fields_size ≤ length l
      → (at' + fields_size ≤ at) ⊎ (at + fields_size ≤ at')
      → file_at (put_file l at f) at' ≡ file_at l at'
  file-apart s = long_apart (shaped-long f s)

-- a stretch of a block has words of 32 bits if the block has
pub part-fit : (l : List ℕ) (at n : ℕ) → WordsFit l → WordsFit (take n (drop at l))
unfolding WordsFit
part-fit l at n fit k = place (dec_lt k n)
  where
    past : (k < n → ⊥) → length (take n (drop at l)) ≤ k
    past q = simp length-take (omega arith)

    place : Dec (k < n) → get_or (take n (drop at l)) k 0 < 2 ^ 32
    place (yes q) = subst (λ (x : ℕ). x < 2 ^ 32) (sym (segment-at l at n k q)) (fit (at + k))
    place (no q) =
        subst (λ (x : ℕ). x < 2 ^ 32) (sym (get_or-eq_default (take n (drop at l)) 0 (past q)))
        (omega arith)

pub loaded-long : (l : List ℕ) (at : ℕ) → at + fields_size ≤ length l → Long (file_at l at)
unfolding file_at
loaded-long l at h =
    record {
      pending_long = segment-long l (at + pending_place) 8 (omega arith);
      enable_long = segment-long l (at + enable_place) 8 (omega arith);
    }

-- a file loaded has the shape, where the block's words have 32 bits
pub loaded-shaped : (l : List ℕ) (at : ℕ) → WordsFit l → at + fields_size ≤ length l → Shaped (file_at l at)
unfolding file_at WordsFit
loaded-shaped l at fit h =
    record {
      delivery_fit = fit at;
      threshold_fit = fit (at + threshold_place);
      pending_long = segment-long l (at + pending_place) 8 (omega arith);
      pending_fit = part-fit l (at + pending_place) 8 fit;
      enable_long = segment-long l (at + enable_place) 8 (omega arith);
      enable_fit = part-fit l (at + enable_place) 8 fit;
    }

-- the words of a file loaded are the block's own
pub words-loaded : (l : List ℕ) (at : ℕ) → at + fields_size ≤ length l
    → take fields_size (drop at l) ≡ file_words (file_at l at)
unfolding file_words file_at
words-loaded l at h =
    let next : at + pending_place + file_set_size ≡ at + enable_place = omega arith in
    let two : suc (at + threshold_place) ≡ at + pending_place = omega arith in
    let second : drop (suc at) l ≡ get_or l (at + threshold_place) 0 ∷ drop (at + pending_place) l =
    ap (λ (k : ℕ). drop k l) (sym (add-one at)) ∙ drop-cons l (at + threshold_place) 0 (omega arith)
    ∙ ap (λ (k : ℕ). get_or l (at + threshold_place) 0 ∷ drop k l) two in
    ap (take fields_size) (drop-cons l at 0 (omega arith) ∙ ap (λ (r : List ℕ). get_or l at 0 ∷ r) second)
    ∙ ap (λ (r : List ℕ). get_or l at 0 ∷ get_or l (at + threshold_place) 0 ∷ r)
    (take-add 8 8 (drop (at + pending_place) l)
    ∙ ap (λ (r : List ℕ). take 8 (drop (at + pending_place) l) ++ take 8 r)
    (drop-drop 8 (at + pending_place) l
    ∙ ap (λ (k : ℕ). drop k l) next))

-- what is loaded is stored back as it was
pub block_back : (l : List ℕ) (at : ℕ) → at + fields_size ≤ length l → put_file l at (file_at l at) ≡ l
unfolding put_file
block_back l at h =
    let same = words-loaded l at h in
    let long : length (file_words (file_at l at)) ≡ fields_size = ap length (sym same)
    ∙ segment-long l at fields_size h in
    sets-eq (file_words (file_at l at)) l at (omega arith)
    ∙ ap₂ (λ (r : List ℕ) (k : ℕ). take at l ++ r ++ drop (at + k) l) (sym same) long
    ∙ ap (λ (r : List ℕ). take at l ++ take fields_size (drop at l) ++ r) (sym (drop-drop fields_size at l))
    ∙ append_assoc (take at l) (take fields_size (drop at l)) (drop fields_size (drop at l))
    ∙ ap (λ (r : List ℕ). take at l ++ r) (take-append-drop fields_size (drop at l)) ∙ take-append-drop at l
