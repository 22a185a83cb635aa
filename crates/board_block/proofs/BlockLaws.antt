-- Laws of specs/Block.antt: the two parts of the block as they are lent, and the board after a part came
-- back. No contract cites this file. Assumes nothing.
--   files_put l ys    the block l with ys in the place of the files' 360 words
--   wired_put l zs    the block l with zs in the place of the wired controller's 290
use Prim.Native.Nat.{ℕ, ◌-◌}
use mathlib.Core.Path.{◌≡◌, refl, sym, ap, ap₂, ◌∙◌}
use mathlib.Core.Bool.{Bool, ◌&&◌}
use mathlib.Core.List.{List, ◌++◌, append-nil}
use native.Mathlib.Omega.{arith}
use lib.ListN.{length, take, drop, length-take, length-drop, length-append}
use Rattle.std.proofs.lemmas.List.{drop_all}
use lib.Seq.{take_all, take_at, drop_at, take-take}
use Rattle.files.specs.Files.{files_of, files_sound}
use Rattle.wired_state.specs.Wires.{wired_of}
use Rattle.wired_rules.specs.Rules.{wired_sound}
use Rattle.board_block.specs.Block.{Board, with_files, with_wired, board_of, board_sound}
use Rattle.sizes.specs.Sizes.{block_size, files_size, wired_size}

-- two boards are equal if their parts are
pub board-path : {b c : Board} → b.files ≡ c.files → b.wired ≡ c.wired → b ≡ c
board-path f w = λ k. record { files = f k; wired = w k }

-- ---- the parts that are lent

module _ (l : List ℕ) (long : length l ≡ block_size) where
  pub files-long : length (take files_size l) ≡ files_size
  files-long = simp length-take (omega arith)

  pub wired-long : length (take wired_size (drop files_size l)) ≡ wired_size
  wired-long = simp (length-take, length-drop) (omega arith)

  pub files-part : files_of (take files_size l) ≡ (board_of l).files
  unfolding board_of
  files-part = refl

  -- the wired controller's words are lent as the last of the block
  pub wired-last : drop (length l - wired_size) l ≡ take wired_size (drop files_size l)
  wired-last =
      let at : length l - wired_size ≡ files_size = omega arith in
      ap (λ (n : ℕ). drop n l) at
      ∙ sym (take_all wired_size (drop files_size l) (omega (arith, length-drop files_size l)))

  pub wired-part : wired_of (take wired_size (drop files_size l)) ≡ (board_of l).wired
  unfolding board_of
  wired-part = refl

-- ---- a part put back

abbrev pub files_put : List ℕ → List ℕ → List ℕ
files_put l ys = ys ++ drop files_size l

abbrev pub wired_put : List ℕ → List ℕ → List ℕ
wired_put l zs = take files_size l ++ (zs ++ drop wired_size (drop files_size l))

module _ (l ys : List ℕ) (long : length l ≡ block_size) (part : length ys ≡ files_size) where
  pub put-files : board_of (files_put l ys) ≡ with_files (board_of l) (files_of ys)
  unfolding board_of
  put-files =
      board-path (ap files_of (take_at ys (drop files_size l) files_size part))
      (ap (λ (x : List ℕ). wired_of (take wired_size x)) (drop_at ys (drop files_size l) files_size part))

module _ (l zs : List ℕ) (long : length l ≡ block_size) (part : length zs ≡ wired_size) where
  pub put-wired : board_of (wired_put l zs) ≡ with_wired (board_of l) (wired_of zs)
  unfolding board_of
  put-wired =
      let rest = zs ++ drop wired_size (drop files_size l) in
      board-path (ap files_of (take_at (take files_size l) rest files_size (files-long l long)))
      (ap wired_of (ap (take wired_size) (drop_at (take files_size l) rest files_size (files-long l long))
      ∙ take_at zs (drop wired_size (drop files_size l)) wired_size part))

  pub put-wired-long : length (wired_put l zs) ≡ block_size
  put-wired-long = simp (length-append, length-take, length-drop) (omega arith)

-- the block l was cut in two, front and back, and one of them came back with other words before its rest
module _ (l front back : List ℕ) (long : length l ≡ block_size) (first : front ≡ take files_size l)
    (last : back ≡ drop files_size l) where
  pub files-lent : {w : List ℕ} → w ≡ take files_size front → w ≡ take files_size l
  files-lent e = e ∙ ap (take files_size) first ∙ take-take files_size files_size l (omega arith)

  pub wired-lent : {w : List ℕ} → w ≡ take wired_size back → w ≡ take wired_size (drop files_size l)
  wired-lent e = e ∙ ap (take wired_size) last

  pub files-back : (ys : List ℕ) → length (ys ++ drop files_size front) ≡ length front
      → board_of ((ys ++ drop files_size front) ++ back) ≡ with_files (board_of l) (files_of ys)
  files-back ys same =
      let many : length front ≡ files_size = ap length first ∙ files-long l long in
      let here : length ys ≡ files_size =
      omega (arith, length-append ys (drop files_size front), length-drop files_size front) in
      rw (drop_all files_size front (omega arith), append-nil ys, last) (put-files l ys long here)

  pub wired-back : (zs : List ℕ) → length (zs ++ drop wired_size back) ≡ length back
      → board_of (front ++ (zs ++ drop wired_size back)) ≡ with_wired (board_of l) (wired_of zs)
  wired-back zs same =
      let many : length back ≡ wired_size = ap length last ∙ simp length-drop (omega arith) in
      let here : length zs ≡ wired_size =
      omega (arith, length-append zs (drop wired_size back), length-drop wired_size back) in
      rw (first, last) (put-wired l zs long here)

-- ---- the state rules

pub board-sound-read : (b : Board) (f w : Bool) → f ≡ files_sound b.files → w ≡ wired_sound b.wired
    → (f && w) ≡ board_sound b
unfolding board_sound
board-sound-read b f w p q = ap₂ ◌&&◌ p q
