-- Laws of specs/Stored.antt: a file stored is loaded again, and stands apart from every other. No contract
-- cites this file. Assumes nothing.
use Prim.Native.Nat.{ℕ, suc, ◌+◌}
use mathlib.Core.Path.{◌≡◌, sym, ap, ap₂, ◌∙◌}
use mathlib.Core.List.{List, [], ◌∷◌, ◌++◌}
use native.Mathlib.Nat.{add-zero}
use native.Mathlib.Numerals.{add-one}
use native.Mathlib.Omega.{arith}
use lib.ListN.{length, set}
use lib.Seq.{sets}
use Rattle.file.specs.declared.File.{File}
use Rattle.file_words.specs.Stored.{file_words, put_file}

-- ---- words stored in turn

pub sets-append : (l : List ℕ) (i : ℕ) (us vs : List ℕ)
    → sets l i (us ++ vs) ≡ sets (sets l i us) (i + length us) vs
sets-append l i [] vs = ap (λ (k : ℕ). sets l k vs) (sym (add-zero i))
sets-append l i (u ∷ us) vs =
    sets-append (set l i u) (suc i) us vs
    ∙ ap (λ (k : ℕ). sets (sets (set l i u) (suc i) us) k vs) (omega arith)

-- what the code writes
module _ (l : List ℕ) (at : ℕ) where
  pub file-written : (f : File) → length f.pending ≡ 8
      → sets (sets (set (set l at f.delivery) (at + 1) f.threshold) (at + 2) f.pending) (at + 10)
      f.enable ≡ put_file l at f
  unfolding put_file file_words
  file-written f e =
      ap
      (λ (k : ℕ). sets
      (sets (set (set l at f.delivery) (at + 1) f.threshold) (at + 2) f.pending) k f.enable)
      (omega arith)
      ∙ sym
      (sets-append (set (set l at f.delivery) (at + 1) f.threshold) (at + 2) f.pending
      f.enable)
      ∙ ap₂ (λ (i k : ℕ). sets (set (set l at f.delivery) i f.threshold) k (f.pending ++ f.enable))
      (add-one at) (omega arith)
