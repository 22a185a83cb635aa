-- A delivery word stored by itself changes the delivery of its file alone; and the files of words that are 0.
-- No contract cites this file. Assumes nothing.
use Prim.Native.Nat.{ℕ, suc, ◌+◌, ◌*◌, ◌≤◌, ◌<◌}
use mathlib.Core.Path.{◌≡◌, refl, sym, ap, ◌∙◌}
use mathlib.Core.List.{List, ◌∷◌, ◌++◌, append_assoc}
use native.Mathlib.Omega.{arith}
use lib.ListN.{length, get_or, take, drop, set, replicate, length-set, take-append-drop, get_or-replicate}
use lib.Seq.{sets, sets-eq, drop-drop, drop-set-lt, set-set, get_or-set_same, get_or-set_other}
use Rattle.words.proofs.SegmentLaws.{segment-long}
use Rattle.file.specs.declared.File.{File}
use Rattle.file.specs.Parts.{with_delivery}
use Rattle.file_laws.proofs.Stored.{file-path, words-loaded}
use Rattle.file_words.specs.Stored.{file_words, file_at, put_file}
use Rattle.files.specs.Files.{zero_file, files_from, files_of, the_file, with_file}
use Rattle.files.proofs.FilesLaws.{the_file-files_of, files_of-put}
use Rattle.files_laws.proofs.Keeps.{files_of-long}
use Rattle.sizes.specs.Sizes.{file_count, fields_size, file_size, files_size}
use Rattle.sizes.specs.Sizes.{threshold_place, pending_place, enable_place}

-- ---- one word stored

-- a block with a stretch of its own words put in is as it was
part-back : (l : List ℕ) (at n : ℕ) → at + n ≤ length l → sets l at (take n (drop at l)) ≡ l
part-back l at n h =
    let ws = take n (drop at l) in
    let many : length ws ≡ n = segment-long l at n h in
    sets-eq ws l at (omega arith)
    ∙ ap (λ (k : ℕ). take at l ++ ws ++ drop (at + k) l) many
    ∙ ap (λ (r : List ℕ). take at l ++ ws ++ r) (sym (drop-drop n at l))
    ∙ append_assoc (take at l) ws (drop n (drop at l))
    ∙ ap (λ (r : List ℕ). take at l ++ r) (take-append-drop n (drop at l)) ∙ take-append-drop at l

module _ (l : List ℕ) (at d : ℕ) (h : at + fields_size ≤ length l) where
  file_at-delivery : file_at (set l at d) at ≡ with_delivery (file_at l at) d
  unfolding file_at
  file_at-delivery =
      file-path (get_or-set_same l at d 0 (omega arith))
      (get_or-set_other l at (at + threshold_place) d 0 (λ q. omega arith))
      (ap (take 8) (drop-set-lt (at + pending_place) l at d (omega arith)))
      (ap (take 8) (drop-set-lt (at + enable_place) l at d (omega arith)))

  -- to store the word is to store the file that has it
  delivery-stored : set l at d ≡ put_file l at (with_delivery (file_at l at) d)
  unfolding put_file file_words
  delivery-stored =
      let m = set l at d in
      let f = file_at l at in
      let fits : at + fields_size ≤ length m = rw length-set h in
      sym (ap (sets m at) (sym (words-loaded m at fits)) ∙ part-back m at fields_size fits)
      ∙ ap (λ (g : File). sets m at (file_words g)) file_at-delivery
      ∙ ap (λ (x : List ℕ). sets x (suc at) (f.threshold ∷ f.pending ++ f.enable)) (set-set l at d d)

-- the word stored in file number k
pub delivery-set : (l : List ℕ) (k d : ℕ) → length l ≡ files_size → k < file_count
    → files_of (set l (file_size * k) d) ≡ with_file (files_of l) k
    (with_delivery (the_file (files_of l) k) d)
delivery-set l k d long h =
    let f = the_file (files_of l) k in
    let s = files_of-long l long k h in
    ap files_of (delivery-stored l (file_size * k) d (omega arith)
    ∙ ap (λ (g : File). put_file l (file_size * k) (with_delivery g d)) (sym (the_file-files_of l k h)))
    ∙ files_of-put l long k h (with_delivery f d)
    (record { pending_long = s.pending_long; enable_long = s.enable_long })

-- ---- every word 0

files_of-zeros : files_of (replicate files_size 0) ≡ replicate file_count zero_file
unfolding files_of files_from file_at zero_file
files_of-zeros = refl

pub the_file-zeros : (k : ℕ) → k < file_count
    → the_file (files_of (replicate files_size 0)) k
    ≡ record { delivery = 0; threshold = 0; pending = replicate 8 0; enable = replicate 8 0 }
unfolding the_file zero_file
the_file-zeros k h =
    ap (λ (fs : List File). get_or fs k zero_file) files_of-zeros
    ∙ get_or-replicate file_count k zero_file zero_file h
