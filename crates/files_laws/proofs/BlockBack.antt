-- Both round trips between the 20 files and their 360 words, so the files settle the words. No contract cites
-- this file. Assumes nothing.
use Prim.Native.Nat.{ℕ, zero, suc, ◌+◌, ◌*◌, ◌≤◌, ◌<◌}
use mathlib.Core.Path.{◌≡◌, refl, sym, ap, ap₂, ◌∙◌}
use mathlib.Core.List.{List, [], ◌∷◌, ◌++◌, append_assoc}
use native.Mathlib.Nat.{add_assoc}
use native.Mathlib.Omega.{arith}
use lib.ListN.{length, get_or, take, drop}
use lib.Seq.{take_all, take-add, drop-drop, take_at, drop_at, get_or-append-add, drop-append-add}
use Rattle.file.specs.declared.File.{File}
use Rattle.file.specs.Shape.{Long}
use Rattle.file_laws.proofs.Stored.{file-path, words_long, words-loaded}
use Rattle.file_words.specs.Stored.{file_words, file_at}
use Rattle.files.specs.Files.{files_from, files_of, words_of, the_file}
use Rattle.files.proofs.FilesLaws.{length-files_of, the_file-files_of, files-same}
use Rattle.sizes.specs.Sizes.{files_size, file_size, file_count, threshold_place, enable_place, pending_place}

-- ---- from the words to the files and back

words_of-files_from : (n k : ℕ) (l : List ℕ) → file_size * (k + n) ≤ length l
    → words_of (files_from l k n) ≡ take (file_size * n) (drop (file_size * k) l)
unfolding words_of files_from
words_of-files_from zero k l h = refl
words_of-files_from (suc n) k l h =
    let next : file_size * suc k ≡ file_size * k + file_size = omega arith in
    let more : file_size + file_size * n ≡ file_size * suc n = omega arith in
    ap₂ (λ (us vs : List ℕ). us ++ vs) (sym (words-loaded l (file_size * k) (omega arith)))
    (words_of-files_from n (suc k) l (omega arith)
    ∙ ap (take (file_size * n)) (ap (λ (i : ℕ). drop i l) next ∙ sym (drop-drop file_size (file_size * k) l)))
    ∙ sym (take-add file_size (file_size * n) (drop (file_size * k) l))
    ∙ ap (λ (i : ℕ). take i (drop (file_size * k) l)) more

pub words_back : (l : List ℕ) → length l ≡ files_size → words_of (files_of l) ≡ l
unfolding files_of
words_back l long = words_of-files_from file_count 0 l (omega arith) ∙ take_all files_size l (omega arith)

-- two blocks with the same files are the same
pub blocks-same : (l m : List ℕ) → length l ≡ files_size → length m ≡ files_size → files_of l ≡ files_of m → l
    ≡ m
blocks-same l m hl hm e = sym (words_back l hl) ∙ ap words_of e ∙ words_back m hm

-- ---- from the files to the words and back

-- a file's words are that file, whatever follows them
file_at-words : (f : File) (l : List ℕ) → Long f → file_at (file_words f ++ l) 0 ≡ f
unfolding file_at file_words
file_at-words f l s =
    let rest = append_assoc f.pending f.enable l in
    file-path refl refl (ap (take 8) rest ∙ take_at f.pending (f.enable ++ l) 8 s.pending_long)
    (ap (λ (r : List ℕ). take 8 (drop 8 r)) rest
    ∙ ap (take 8) (drop_at f.pending (f.enable ++ l) 8 s.pending_long)
    ∙ take_at f.enable l 8 s.enable_long)

-- what stands behind other words is read behind them
file_at-behind : (us l : List ℕ) (at : ℕ) → file_at (us ++ l) (length us + at) ≡ file_at l at
unfolding file_at
file_at-behind us l at =
    let part : (j : ℕ) → drop (length us + at + j) (us ++ l) ≡ drop (at + j) l = λ j.
    ap (λ (k : ℕ). drop k (us ++ l)) (add_assoc (length us) at j) ∙ drop-append-add us l (at + j) in
    file-path (get_or-append-add us l at 0)
    (ap (λ (k : ℕ). get_or (us ++ l) k 0) (add_assoc (length us) at threshold_place)
    ∙ get_or-append-add us l (at + threshold_place) 0)
    (ap (take 8) (part pending_place)) (ap (take 8) (part enable_place))

file_at-words_of : (fs : List File) (k : ℕ) → ((j : ℕ) → j < length fs → Long (the_file fs j)) → k < length fs
    → file_at (words_of fs) (file_size * k) ≡ the_file fs k
unfolding words_of the_file
file_at-words_of [] k long h = absurd (omega arith)
file_at-words_of (f ∷ fs) zero long h = file_at-words f (words_of fs) (long 0 (omega arith))
file_at-words_of (f ∷ fs) (suc k) long h =
    let place : file_size * suc k ≡ length (file_words f) + file_size * k =
    omega (arith, words_long f (long 0 (omega arith))) in
    ap (file_at (file_words f ++ words_of fs)) place ∙ file_at-behind (file_words f) (words_of fs)
    (file_size * k)
    ∙ file_at-words_of fs k (λ j q. long (suc j) (omega arith)) (omega arith)

pub files-back : (fs : List File) → length fs ≡ file_count → ((k : ℕ) → k < file_count → Long (the_file fs k))
    → files_of (words_of fs) ≡ fs
files-back fs many long =
    files-same (files_of (words_of fs)) fs (length-files_of (words_of fs) ∙ sym many)
    (λ k h. let hk : k < file_count = omega (arith, length-files_of (words_of fs)) in
    the_file-files_of (words_of fs) k hk
    ∙ file_at-words_of fs k (λ j q. long j (omega arith)) (omega arith))
