-- What a refused call gives, and what an accepted one does. No contract cites this
-- file. Assumes nothing.
use Prim.Native.Nat.{ℕ}
use mathlib.Core.Path.{◌≡◌, refl, sym, ap, subst, ◌∙◌}
use mathlib.Core.List.{List}
use mathlib.Core.Logic.{◌≢◌}
use lib.ListN.{length}
use lib.Dec.{eqb}
use borrow.Author.Tests.{eqb-true, eq-eqb, ne_eqb}
use Rattle.words.proofs.TestsLaws.{tested}
use Rattle.domain_sending.specs.Sending.{logged}
use Rattle.board_block.specs.Block.{Board, board_of, block_of}
use Rattle.board_block_laws.proofs.BlockBack.{block_back}
use Rattle.std.proofs.Common.{Err}
use Rattle.board_call.specs.declared.Refusal.{Refusal}
use Rattle.board_call.specs.declared.Call.{Call}
use Rattle.board_call.specs.Answer.{done_with}
use Rattle.board_call.specs.Calls.{Tests, tests_rules, row_of}
use Rattle.board_call.specs.Refusal.{block_refusal, name_refusal, refusal_of}
use Rattle.board_call.specs.Outcome.{Stepped, step, Outcome, refused_as, done_as, outcome, Gives, Does}
use Rattle.board_call.proofs.AnswerLaws.{told_number, refused-case}
use Rattle.board_call.proofs.RefusalLaws.{refused-blocks, refused-numbers}
use Rattle.sizes.specs.Sizes.{block_size}

module _ (c : Call) (l g : List ℕ) where
  pub outcome-refused : (s : List ℕ) (k : ℕ) → refusal_of c l g ≡ k → k ≢ 0
      → outcome c l g s ≡ refused_as k l g s
  unfolding outcome
  outcome-refused s k e h =
      simp (ne_eqb (refusal_of c l g) 0 (λ z. h (sym e ∙ z))) (ap (λ (n : ℕ). refused_as n l g s) e)

  pub outcome-done : (s : List ℕ) → refusal_of c l g ≡ 0
      → outcome c l g s ≡ done_as (step c (board_of l) s) g
  unfolding outcome
  outcome-done s e = simp (eq-eqb (refusal_of c l g) 0 e)

  -- the number of an outcome is the refusal
  pub outcome-number : (s : List ℕ) → (outcome c l g s).number ≡ refusal_of c l g
  unfolding outcome
  outcome-number s =
      let n = refusal_of c l g in tested (eqb n 0) (λ t. rw t (sym (eqb-true n 0 t))) (λ f. rw f)

  -- the refusal with its number
  gives-number : (e : Refusal) → refusal_of c l g ≡ told_number e → Does c l g (Err e) l g
  gives-number e said s =
      subst (λ (o : Outcome). Gives o (Err e) l g s)
      (sym (outcome-refused s (told_number e) said (refused-case e)))
      record { number = refl; value = refl; count = refl; block = refl; log = refl; saved = refl }

-- ---- what each test gives

module _ (c : Call) (l g : List ℕ) where
  -- e is what the test of the blocks refused with
  pub gives-blocks : (e : Refusal) → told_number e ≡ block_refusal (tests_rules c) l g
      → Does c l g (Err e) l g
  gives-blocks e said =
      gives-number c l g e (refused-blocks (row_of c).tests l g (told_number e) said (refused-case e))

  module _ (z : block_refusal (tests_rules c) l g ≡ 0) where
    abbrev b : Board
    b = board_of l

    abbrev t : Tests
    t = (row_of c).tests

    -- e is what the test of the numbers refused with
    pub gives-numbers : (e : Refusal) → told_number e ≡ name_refusal c b → Does c l g (Err e) l g
    gives-numbers e said = gives-number c l g e (refused-numbers t l g z ∙ sym said)

    -- an accepted call, from what its code left
    pub gives-done : name_refusal c b ≡ 0 → (s : List ℕ) (x : Stepped) → step c b s ≡ x
        → (v n : ℕ) → v ≡ x.value → n ≡ length x.messages → (l' g' s' : List ℕ) → length l' ≡ block_size
        → board_of l' ≡ x.board → g' ≡ logged g x.messages → s' ≡ x.saved
        → Gives (outcome c l g s) (done_with v n) l' g' s'
    gives-done a s x q v n ev en l' g' s' long board log kept =
        subst (λ (o : Outcome). Gives o (done_with v n) l' g' s')
        (sym (outcome-done c l g s (refused-numbers t l g z ∙ a) ∙ ap (λ (y : Stepped). done_as y g) q))
        record {
          number = refl;
          value = ev;
          count = en;
          block = sym (block_back l' long) ∙ ap block_of board;
          log = log;
          saved = kept;
        }
