-- Both round trips between the board and its block of 650 words: one board has one block. No contract cites
-- this file. Assumes nothing.
use Prim.Native.Nat.{ℕ, suc, ◌*◌, ◌<◌}
use mathlib.Core.Path.{◌≡◌, refl, sym, ap, ◌∙◌}
use mathlib.Core.List.{List, [], ◌∷◌, append-nil}
use native.Mathlib.Omega.{arith}
use lib.ListN.{length, take, drop, length-append, length-take, length-drop}
use lib.Seq.{take_all, take-add}
use Rattle.file.specs.declared.File.{File}
use Rattle.file.specs.Shape.{Long}
use Rattle.file_laws.proofs.Stored.{words_long}
use Rattle.file_words.specs.Stored.{file_words}
use Rattle.files.specs.Files.{files_of, words_of, the_file}
use Rattle.files.proofs.FilesLaws.{length-files_of}
use Rattle.files_laws.proofs.BlockBack.{words_back, files-back}
use Rattle.files_laws.proofs.Keeps.{files_of-long}
use Rattle.domain_laws.proofs.SlotEffects.{domain_of-shaped}
use Rattle.wired_state.specs.Wires.{wired_of}
use Rattle.wired_state.proofs.WiresLaws.{machine-long, child-long}
use Rattle.board_block.specs.Block.{Board, board_of, block_of, wired_words}
use Rattle.board_block.proofs.BlockLaws.{board-path, files-long, wired-long}
use Rattle.board_block_laws.specs.Shape.{BoardShaped}
use Rattle.board_block_laws.proofs.DomainBack.{stretch-at, wired-words-back, length-wired_words}
use Rattle.board_block_laws.proofs.DomainBack.{wired-back}
use Rattle.sizes.specs.Sizes.{block_size, child_place, domain_size, files_size, wired_size, file_size}

-- ---- from the block to the board and back

module _ (l : List ℕ) (long : length l ≡ block_size) where
  pub block_back : block_of (board_of l) ≡ l
  unfolding block_of board_of
  block_back =
      rw (
        words_back (take files_size l) (files-long l long),
        wired-words-back (take wired_size (drop files_size l)) (wired-long l long),
        ← take-add files_size wired_size l,
      )
      (take_all block_size l (omega arith))

  pub board_of-shaped : BoardShaped (board_of l)
  unfolding board_of wired_of
  board_of-shaped =
      let part = take wired_size (drop files_size l) in
      let half = wired-long l long in
      record {
        many = length-files_of (take files_size l);
        long = λ k h. files_of-long (take files_size l) (files-long l long) k h;
        wires = simp (length-take, length-drop) (omega arith);
        machine = domain_of-shaped (take domain_size (drop 2 part)) (machine-long part half);
        child = domain_of-shaped (take domain_size (drop child_place part)) (child-long part half);
      }

-- two blocks with the same board are the same
pub blocks-same : (l m : List ℕ) → length l ≡ block_size → length m ≡ block_size → board_of l ≡ board_of m → l
    ≡ m
blocks-same l m hl hm e = sym (block_back l hl) ∙ ap block_of e ∙ block_back m hm

-- ---- from the board to the block and back

length-words_of : (fs : List File) → ((k : ℕ) → k < length fs → Long (the_file fs k))
    → length (words_of fs) ≡ file_size * length fs
unfolding words_of the_file
length-words_of [] long = refl
length-words_of (f ∷ fs) long =
    let here = words_long f (long 0 (omega arith)) in
    let rest = length-words_of fs (λ k h. long (suc k) (omega arith)) in
    length-append (file_words f) (words_of fs) ∙ omega arith

module _ (b : Board) (shaped : BoardShaped b) where
  abbrev files_words : List ℕ
  files_words = words_of b.files

  length-files : length files_words ≡ files_size
  length-files =
      length-words_of b.files (λ k h. shaped.long k (omega (arith, shaped.many)))
      ∙ ap (λ (n : ℕ). file_size * n) shaped.many

  length-wired : length (wired_words b.wired) ≡ wired_size
  length-wired = length-wired_words b.wired shaped.wires shaped.machine shaped.child

  pub length-block_of : length (block_of b) ≡ block_size
  unfolding block_of
  length-block_of = simp length-append (omega (arith, length-files, length-wired))

  pub board-back : board_of (block_of b) ≡ b
  unfolding board_of block_of
  board-back =
      let ws = wired_words b.wired in
      board-path (ap files_of (stretch-at (block_of b) [] files_words ws 0 files_size refl refl length-files)
      ∙ files-back b.files shaped.many shaped.long)
      (ap wired_of
      (stretch-at (block_of b) files_words ws [] files_size wired_size
      (simp append-nil) length-files length-wired)
      ∙ wired-back b.wired shaped.wires shaped.machine shaped.child)
