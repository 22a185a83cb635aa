-- Laws of specs/Start.antt: the files one by one, and the wired controller of words that are 0. No contract
-- cites this file. Assumes nothing.
use Prim.Native.Nat.{ℕ, zero, suc, ◌+◌, ◌%◌, ◌≤◌, ◌<◌}
use mathlib.Core.Path.{◌≡◌, refl, sym, ap, ◌∙◌}
use mathlib.Core.Bool.{Bool, cond}
use mathlib.Core.List.{List, ◌++◌, append-nil}
use native.Mathlib.Decide.{ℕ_discrete, dec_lt}
use native.Mathlib.Omega.{arith}
use borrow.Author.Tests.{le-leb, lt-leb}
use lib.ListN.{length, take, drop, replicate}
use lib.Seq.{drop-length}
use Rattle.file.specs.declared.File.{File}
use Rattle.file.specs.Parts.{with_delivery}
use Rattle.files.specs.Files.{files_of, the_file, with_file}
use Rattle.files.proofs.FilesLaws.{the_file-first, the_file-next, files-same, length-files_of, guest-read}
use Rattle.files.proofs.FilesLaws.{the_file-with_file-same, the_file-with_file-other}
use Rattle.files_laws.proofs.DeliveryEffects.{the_file-zeros}
use Rattle.domain_laws.proofs.ZeroEffects.{domain_of-zeros}
use Rattle.wired_state.specs.Wires.{wired_of}
use Rattle.wired_state.proofs.WiresLaws.{wired-path, wires-read, machine-part, child-part}
use Rattle.board_block.specs.Start.{start_file, start_files_from, start_domain, start_board}
use Rattle.sizes.specs.Sizes.{block_size, files_size, wired_size, file_count}

-- ---- the files

-- a file that is 0 but for its delivery
abbrev zeros_but : ℕ → File
zeros_but d = record { delivery = d; threshold = 0; pending = replicate 8 0; enable = replicate 8 0 }

module _ (k : ℕ) where
  pub start-guest : 2 ≤ k % 5 → zeros_but 0 ≡ start_file k
  unfolding start_file
  start-guest h =
      ap (λ (g : Bool). zeros_but (cond g 0 0x40000000)) (sym (le-leb 2 (k % 5) h) ∙ guest-read k)

  pub start-signal : k % 5 < 2 → zeros_but 0x40000000 ≡ start_file k
  unfolding start_file
  start-signal h =
      ap (λ (g : Bool). zeros_but (cond g 0 0x40000000)) (sym (lt-leb 2 (k % 5) h) ∙ guest-read k)

length-start_files_from : (k n : ℕ) → length (start_files_from k n) ≡ n
unfolding start_files_from
length-start_files_from k zero = refl
length-start_files_from k (suc n) = ap suc (length-start_files_from (suc k) n)

pub the_file-start_files_from : (k n i : ℕ) → i < n → the_file (start_files_from k n) i ≡ start_file (k + i)
unfolding start_files_from
the_file-start_files_from k zero i h = absurd (omega arith)
the_file-start_files_from k (suc n) zero h =
    the_file-first (start_file k) (start_files_from (suc k) n) ∙ ap start_file (omega arith)
the_file-start_files_from k (suc n) (suc i) h =
    the_file-next (start_file k) (start_files_from (suc k) n) i
    ∙ the_file-start_files_from (suc k) n i (omega arith) ∙ ap start_file (omega arith)

-- the start file put in as number k is one more of them
pub start-more : (fs gs : List File) (k : ℕ) → length fs ≡ file_count → k < file_count
    → gs ≡ with_file fs k (start_file k)
    → ((j : ℕ) → j < k → the_file fs j ≡ start_file j) → (j : ℕ) → j < k + 1 → the_file gs j ≡ start_file j
start-more fs gs k many h e each j below = ap (λ (hs : List File). the_file hs j) e ∙ at (ℕ_discrete j k)
  where
    at : Dec (j ≡ k) → the_file (with_file fs k (start_file k)) j ≡ start_file j
    at (yes q) = rw q (the_file-with_file-same fs k (start_file k) (omega arith))
    at (no n) = the_file-with_file-other fs k (start_file k) j n ∙ each j (omega arith)

-- the files below k are those of the start, and the others are 0
pub record Started (k : ℕ) (fs : List File) : Type 0 where
  pub below : (j : ℕ) → j < k → the_file fs j ≡ start_file j
  pub above : (j : ℕ) → k ≤ j → j < file_count → the_file fs j ≡ zeros_but 0

pub started-zeros : (l : List ℕ) → l ≡ replicate files_size 0 → Started 0 (files_of l)
started-zeros l e =
    record {
      below = λ j h. absurd (omega arith);
      above = λ j b h. ap (λ (m : List ℕ). the_file (files_of m) j) e ∙ the_file-zeros j h;
    }

-- the signal put into number k is the start's file there
pub started-signal : (fs gs : List File) (k : ℕ) → length fs ≡ file_count → k < file_count → k % 5 < 2
    → gs ≡ with_file fs k (with_delivery (the_file fs k) 0x40000000) → Started k fs → Started (k + 1) gs
started-signal fs gs k many h m e s =
    let f = with_delivery (the_file fs k) 0x40000000 in
    let is : f ≡ start_file k = ap (λ (g : File). with_delivery g 0x40000000) (s.above k (omega arith) h)
    ∙ start-signal k m in
    record {
      below = start-more fs gs k many h (e ∙ ap (with_file fs k) is) s.below;
      above = λ j b q. ap (λ (hs : List File). the_file hs j) e
          ∙ the_file-with_file-other fs k f j (λ p. omega arith) ∙ s.above j (omega arith) q;
    }

-- a guest's file that is 0 is the start's
pub started-guests : (fs : List File) (k n : ℕ) → n ≤ file_count → k ≤ n
    → ((j : ℕ) → k ≤ j → j < n → 2 ≤ j % 5) → Started k fs → Started n fs
started-guests fs k n h l guests s =
    record { below = λ j q. at j q (dec_lt j k); above = λ j b q. s.above j (omega arith) q }
  where
    at : (j : ℕ) → j < n → Dec (j < k) → the_file fs j ≡ start_file j
    at j q (yes b) = s.below j b
    at j q (no b) =
        s.above j (omega arith) (omega arith) ∙ start-guest j (guests j (omega arith) q)

-- files that are one by one those of the start are all of them
pub start-files : (l : List ℕ) → ((j : ℕ) → j < file_count → the_file (files_of l) j ≡ start_file j)
    → files_of l ≡ start_files_from 0 file_count
start-files l each =
    files-same (files_of l) (start_files_from 0 file_count)
    (length-files_of l ∙ sym (length-start_files_from 0 file_count))
    (λ j q. let h : j < file_count = omega (arith, length-files_of l) in
    each j h ∙ sym (the_file-start_files_from 0 file_count j h ∙ ap start_file (omega arith)))

-- ---- words that are 0

-- a list is 0 once as many of its words are as it has
pub all-filled : (l : List ℕ) (i n : ℕ) → length l ≡ i → i ≡ n → replicate i 0 ++ drop i l ≡ replicate n 0
all-filled l i n h e =
    ap (λ (x : List ℕ). replicate i 0 ++ x) (ap (λ (k : ℕ). drop k l) (sym h) ∙ drop-length l)
    ∙ append-nil (replicate i 0) ∙ ap (λ (k : ℕ). replicate k 0) e

pub start-wired : (l : List ℕ) → l ≡ replicate block_size 0
    → wired_of (take wired_size (drop files_size l)) ≡ start_board.wired
unfolding start_board start_domain
start-wired l e =
    let ws : List ℕ = replicate wired_size 0 in
    ap (λ (m : List ℕ). wired_of (take wired_size (drop files_size m))) e
    ∙ wired-path (sym (wires-read ws refl)) (sym (machine-part ws refl) ∙ domain_of-zeros)
    (sym (child-part ws refl) ∙ domain_of-zeros)
