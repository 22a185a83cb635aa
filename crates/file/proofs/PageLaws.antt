-- Laws of specs/Page.antt. No contract cites this file. Assumes nothing.
use Prim.Native.Nat.{ℕ, ◌≤◌, ◌<◌}
use mathlib.Core.Path.{◌≡◌}
use mathlib.Core.Logic.{◌≢◌}
use borrow.Author.Tests.{le-leb, lt-leb, eq-eqb, ne_eqb}
use native.Mathlib.Omega.{arith}
use Rattle.words.specs.Parts.{reversed}
use Rattle.words.specs.Sets.{insert}
use Rattle.words.proofs.SetsLaws.{insert-word, remove-word}
use Rattle.file.specs.declared.File.{File}
use Rattle.file.specs.Parts.{with_pending_set}
use Rattle.file.specs.Page.{arrived, page_written}

-- a set, by the word that has the number
pub ruleset set_words = (insert-word, remove-word)

module _ (n : ℕ) (f : File) (i : ℕ) where
  pub arrived-below : i < 1 → arrived n f i ≡ f
  unfolding arrived
  arrived-below h = simp (lt-leb 1 i h)

  pub arrived-above : n < i → arrived n f i ≡ f
  unfolding arrived
  arrived-above h = simp (le-leb 1 i (omega arith), lt-leb i n h)

  pub arrived-within : 1 ≤ i → i ≤ n → arrived n f i ≡ with_pending_set f (insert f.pending i)
  unfolding arrived
  arrived-within l h = simp (le-leb 1 i l, le-leb i n h)

module _ (n : ℕ) (f : File) (a v : ℕ) where
  pub written-little : a ≡ 0 → page_written n f a v ≡ arrived n f v
  unfolding page_written
  written-little e = simp (eq-eqb a 0 e)

  pub written-big : a ≡ 4 → page_written n f a v ≡ arrived n f (reversed v)
  unfolding page_written
  written-big e = simp (ne_eqb a 0 (λ q. omega arith), eq-eqb a 4 e)

  pub written-elsewhere : a ≢ 0 → a ≢ 4 → page_written n f a v ≡ f
  unfolding page_written
  written-elsewhere p q = simp (ne_eqb a 0 p, ne_eqb a 4 q)
