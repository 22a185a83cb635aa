-- Laws of specs/Refusal.antt: which number each failed test gives, and what holds where none fails. No
-- contract cites this file. Assumes nothing.
use Prim.Native.Nat.{ℕ}
use mathlib.Core.Path.{◌≡◌, refl, sym, ◌∙◌}
use mathlib.Core.Bool.{Bool, true, false, cond, not, ◌&&◌}
use mathlib.Core.List.{List, [], ◌∷◌, ◌++◌}
use mathlib.Core.Logic.{◌≢◌}
use native.Mathlib.Decide.{ℕ_discrete}
use native.Mathlib.Omega.{arith}
use lib.Dec.{eqb}
use lib.ListN.{length}
use borrow.Author.Tests.{eq-eqb, ne_eqb, not-true}
use Rattle.words.proofs.TestsLaws.{tested, and_first, and_second, or_right}
use Rattle.board_block.specs.Block.{Board, board_of, board_sound}
use Rattle.board_call.specs.declared.Refusal.{Refusal}
use Rattle.board_call.specs.Calls.{Tests}
use Rattle.board_call.specs.Refusal.{Test, first_failed, block_tests, name_tests, block_refusal}
use Rattle.board_call.specs.Refusal.{name_refusal_by, refusal_by}
use Rattle.board_call.proofs.AnswerLaws.{told_number, refused-case}
use Rattle.sizes.specs.Sizes.{block_size}

-- ---- of lists of tests

-- no test has the number 0, which says that none fails
numbered : List Test → Bool
numbered [] = true
numbered (t ∷ ts) = not (eqb t.number 0) && numbered ts

-- the first that fails of the former tests, or else of the latter
first-append : (ts us : List Test) → numbered ts ≡ true
    → first_failed (ts ++ us) ≡ cond (eqb (first_failed ts) 0) (first_failed us) (first_failed ts)
unfolding first_failed numbered
first-append [] us n = refl
first-append (t ∷ ts) us n =
    let zero = eqb t.number 0 in
    tested t.passed (λ p. rw p (first-append ts us (and_second (not zero) (numbered ts) n)))
    (λ p. rw (p, not-true zero (and_first (not zero) (numbered ts) n)))

-- ---- of the blocks

module _ (t : Bool) (l g : List ℕ) where
  pub refused-state : length l ≢ block_size → block_refusal t l g ≡ 1
  unfolding block_refusal block_tests first_failed
  refused-state h = simp (ne_eqb (length l) block_size h)

  module _ (long : length l ≡ block_size) where
    pub refused-log : length g ≢ 63 → block_refusal t l g ≡ 2
    unfolding block_refusal block_tests first_failed
    refused-log h = simp (eq-eqb (length l) block_size long, ne_eqb (length g) 63 h)

    module _ (full : length g ≡ 63) where
      pub refused-rules : t ≡ true → board_sound (board_of l) ≡ false → block_refusal t l g ≡ 3
      unfolding block_refusal block_tests first_failed
      refused-rules e f = simp (eq-eqb (length l) block_size long, eq-eqb (length g) 63 full, e, f)

      pub blocks-sound : board_sound (board_of l) ≡ true → block_refusal t l g ≡ 0
      unfolding block_refusal block_tests first_failed
      blocks-sound f =
          let tests = or_right (not t) (board_sound (board_of l)) f in
          simp (eq-eqb (length l) block_size long, eq-eqb (length g) 63 full, tests)

      pub blocks-untested : t ≡ false → block_refusal t l g ≡ 0
      unfolding block_refusal block_tests first_failed
      blocks-untested e = simp (eq-eqb (length l) block_size long, eq-eqb (length g) 63 full, e)

-- a refusal by the lengths is one where the rules are tested too
pub refused-lengths : (t : Bool) (l g : List ℕ) (e : Refusal) → told_number e ≡ block_refusal false l g
    → told_number e ≡ block_refusal t l g
unfolding block_refusal block_tests first_failed
refused-lengths t l g e said = said ∙ same
  where
    same : block_refusal false l g ≡ block_refusal t l g
    same =
        tested (eqb (length l) block_size)
        (λ a. tested (eqb (length g) 63) (λ b. absurd (refused-case e (said ∙ simp (a, b))))
        (λ b. simp (a, b)))
        (λ a. simp a)

-- where no test fails
module _ (t : Bool) (l g : List ℕ) (z : block_refusal t l g ≡ 0) where
  pub passed-state : length l ≡ block_size
  passed-state = at (ℕ_discrete (length l) block_size)
    where
      at : Dec (length l ≡ block_size) → length l ≡ block_size
      at (yes e) = e
      at (no n) = absurd (omega (arith, refused-state t l g n, z))

  pub passed-log : length g ≡ 63
  passed-log = at (ℕ_discrete (length g) 63)
    where
      at : Dec (length g ≡ 63) → length g ≡ 63
      at (yes e) = e
      at (no n) = absurd (omega (arith, refused-log t l g passed-state n, z))

  pub passed-rules : t ≡ true → board_sound (board_of l) ≡ true
  passed-rules e =
      tested (board_sound (board_of l)) (λ y. y)
      (λ n. absurd (omega (arith, refused-rules t l g passed-state passed-log e n, z)))

-- ---- of the numbers

module _ (t : Tests) (b : Board) where
  pub refused-name : t.names b ≡ false → name_refusal_by t b ≡ 4
  unfolding name_refusal_by name_tests first_failed
  refused-name n = simp n

  -- an accepted call named what is there
  pub accepted-present : name_refusal_by t b ≡ 0 → t.names b ≡ true
  accepted-present e = tested (t.names b) (λ y. y) (λ n. absurd (omega (arith, refused-name n, e)))

  module _ (n : t.names b ≡ true) where
    pub refused-address : t.address ≡ false → name_refusal_by t b ≡ 5
    unfolding name_refusal_by name_tests first_failed
    refused-address a = simp (n, a)

    module _ (a : t.address ≡ true) where
      pub refused-select : t.select ≡ false → name_refusal_by t b ≡ 6
      unfolding name_refusal_by name_tests first_failed
      refused-select s = simp (n, a, s)

      pub numbers-name : t.select ≡ true → name_refusal_by t b ≡ 0
      unfolding name_refusal_by name_tests first_failed
      numbers-name s = simp (n, a, s)

-- where no test of the numbers fails
module _ (t : Tests) (b : Board) (z : name_refusal_by t b ≡ 0) where
  pub accepted-address : t.address ≡ true
  accepted-address =
      tested t.address (λ y. y)
      (λ n. absurd (omega (arith, refused-address t b (accepted-present t b z) n, z)))

  pub accepted-select : t.select ≡ true
  accepted-select =
      tested t.select (λ y. y)
      (λ n. absurd (omega (arith, refused-select t b (accepted-present t b z) accepted-address n, z)))

-- ---- of both

module _ (t : Tests) (l g : List ℕ) where
  refusal-append : refusal_by t l g
      ≡ cond (eqb (block_refusal t.rules l g) 0) (name_refusal_by t (board_of l))
      (block_refusal t.rules l g)
  unfolding refusal_by block_refusal name_refusal_by block_tests numbered
  refusal-append = first-append (block_tests t.rules l g) (name_tests t (board_of l)) refl

  pub refused-blocks : (k : ℕ) → k ≡ block_refusal t.rules l g → k ≢ 0 → refusal_by t l g ≡ k
  refused-blocks k e h =
      refusal-append ∙ simp (ne_eqb (block_refusal t.rules l g) 0 (λ z. h (e ∙ z))) (sym e)

  pub refused-numbers : block_refusal t.rules l g ≡ 0 → refusal_by t l g ≡ name_refusal_by t (board_of l)
  refused-numbers z = refusal-append ∙ simp (eq-eqb (block_refusal t.rules l g) 0 z)

  -- an accepted call passed every test
  pub refused_none : refusal_by t l g ≡ 0
      → (block_refusal t.rules l g ≡ 0) × (name_refusal_by t (board_of l) ≡ 0)
  refused_none e = at (ℕ_discrete (block_refusal t.rules l g) 0)
    where
      at : Dec (block_refusal t.rules l g ≡ 0)
          → (block_refusal t.rules l g ≡ 0) × (name_refusal_by t (board_of l) ≡ 0)
      at (yes z) = (z, sym (refused-numbers z) ∙ e)
      at (no n) = absurd (n (sym (refused-blocks _ refl n) ∙ e))
