-- What a call gives that tests the state rules: refused by its blocks, by a number that names nothing, by its
-- address or its select number; or done, with nothing sent. No contract cites this file. Assumes nothing.
--   Tested c n a s   the call c tests the rules, and then n of the board, a and s: what it names, its
--                    address, its select number
--   quiet b v s      what a call does that leaves the board b and the saved numbers s, answers v and sends
--                    nothing
use Prim.Native.Nat.{ℕ}
use mathlib.Core.Path.{◌≡◌, refl, sym, ap, subst, ◌∙◌}
use mathlib.Core.Bool.{Bool, true, false}
use mathlib.Core.List.{List, [], ◌∷◌}
use lib.ListN.{length}
use Rattle.domain_sending.specs.Sending.{logged}
use Rattle.domain_sending.proofs.SendingLaws.{logged_none}
use Rattle.wired.specs.Controller.{Out}
use Rattle.board_block.specs.Block.{Board, board_of, board_sound}
use Rattle.std.proofs.Common.{Result, Ok, Err}
use Rattle.std.proofs.lemmas.Result.{err_from_is_err_and}
use Rattle.std.specs.Result.{IsErrAnd}
use Rattle.board_call.specs.declared.Refusal.{Refusal}
use Rattle.board_call.specs.declared.Refusal.TheVariants.{NoSuch}
use Rattle.board_call.specs.declared.Call.{Call}
use Rattle.board_call.specs.Answer.{Answer, done_with, Refuses}
use Rattle.board_call.specs.Calls.{Tests, numbered, tests_rules, present, addressed, selected, row_of}
use Rattle.board_call.specs.Refusal.{first_failed, block_refusal, name_tests, name_refusal_by, name_refusal}
use Rattle.board_call.specs.Outcome.{Stepped, step, outcome, Gives, Does}
use Rattle.board_call.proofs.AnswerLaws.{passed-case, failed-case}
use Rattle.board_call.proofs.RefusalLaws.{passed-state, passed-rules, numbers-name, refused-name}
use Rattle.board_call.proofs.RefusalLaws.{accepted-present, accepted-address, accepted-select}
use Rattle.board_call_laws.proofs.OutcomeEffects.{gives-blocks, gives-numbers, gives-done}
use Rattle.board_call_laws.proofs.StepEffects.{wired_step}
use Rattle.sizes.specs.Sizes.{block_size}

pub record Tested (c : Call) (n : Board → Bool) (a s : Bool) : Type 0 where
  pub row : (row_of c).tests ≡ record { rules = true; names = n; address = a; select = s }

abbrev pub quiet : Board → ℕ → List ℕ → Stepped
quiet b v s = record { board = b; value = v; messages = []; saved = s }

-- where no test of the blocks fails
module _ (l g : List ℕ) (z : block_refusal true l g ≡ 0) where
  pub checked-long : length l ≡ block_size
  checked-long = passed-state true l g z

  pub checked-sound : board_sound (board_of l) ≡ true
  checked-sound = passed-rules true l g z refl

module _ {c : Call} {n : Board → Bool} {a s : Bool} (t : Tested c n a s) (l g : List ℕ) where
  named : (b : Board) → present c b ≡ n b
  named b = ap (λ (x : Tests). x.names b) t.row

  at_address : addressed c ≡ a
  at_address = ap (λ (x : Tests). x.address) t.row

  at-select : selected c ≡ s
  at-select = ap (λ (x : Tests). x.select) t.row

  by-rules : block_refusal (tests_rules c) l g ≡ block_refusal true l g
  by-rules = ap (λ (x : Tests). block_refusal x.rules l g) t.row

  -- r is what the test of the blocks answered, and the call returns its refusal by `?`
  pub tests-blocks : (r : Result Unit Refusal) → Refuses r (block_refusal true l g) → {e : Refusal}
      → r ≡ Err e
      → (q : Answer) → IsErrAnd q (λ y. y ≡ e) → Does c l g q l g
  tests-blocks r said failed q back =
      let p = err_from_is_err_and q back in
      rw (p.1, p.2) (gives-blocks c l g _ (failed-case r _ said failed ∙ sym by-rules))

  module _ (z : block_refusal true l g ≡ 0) where
    passed : block_refusal (tests_rules c) l g ≡ 0
    passed = by-rules ∙ z

    pub tests-name : n (board_of l) ≡ false → Does c l g (Err NoSuch) l g
    tests-name x =
        gives-numbers c l g passed NoSuch
        (sym (refused-name (row_of c).tests (board_of l) (named (board_of l) ∙ x)))

    -- the numbers were tested with m, d and k, and r is what the test answered
    module _ {m d k : Bool} (x : m ≡ n (board_of l)) (y : d ≡ a) (w : k ≡ s) (r : Result Unit Refusal)
        (said : (b : Board) → Refuses r (name_refusal_by (numbered m d k) b)) where
      by-numbers : name_refusal_by (numbered m d k) (board_of l) ≡ name_refusal c (board_of l)
      unfolding name_refusal_by name_tests
      by-numbers = λ i. first_failed (
          record { number = 4; passed = (x ∙ sym (named (board_of l))) i }
          ∷ record { number = 5; passed = (y ∙ sym at_address) i }
          ∷ record { number = 6; passed = (w ∙ sym at-select) i }
          ∷ []
          )

      -- the call returns its refusal by `?`
      pub tests-failed : {e : Refusal} → r ≡ Err e → (q : Answer) → IsErrAnd q (λ y. y ≡ e) → Does c l g q l g
      tests-failed failed q back =
          let p = err_from_is_err_and q back in
          rw (p.1, p.2)
          (gives-numbers c l g passed _ (failed-case r _ (said (board_of l)) failed ∙ by-numbers))

      pub tests-passed : {u : Unit} → r ≡ Ok u → (n (board_of l) ≡ true) × (a ≡ true) × (s ≡ true)
      tests-passed done =
          let b = board_of l in
          let z = passed-case r _ (said b) done in
          let t = numbered m d k in (
            sym x ∙ accepted-present t b z,
            sym y ∙ accepted-address t b z,
            sym w ∙ accepted-select t b z,
          )

    module _ (x : n (board_of l) ≡ true) where
      tests-numbers : a ≡ true → s ≡ true → name_refusal c (board_of l) ≡ 0
      tests-numbers y w = numbers-name (row_of c).tests (board_of l) (named (board_of l) ∙ x) (at_address ∙ y)
          (at-select ∙ w)

      -- the call does what x says of the saved numbers u, and its code answered v and m and left the blocks
      -- l' and g' and the saved numbers u'
      pub tests_left : a ≡ true → s ≡ true → (u : List ℕ) (o : Stepped) → step c (board_of l) u ≡ o
          → (v m : ℕ) (l' g' u' : List ℕ) → length l' ≡ block_size → v ≡ o.value → board_of l' ≡ o.board
          → g' ≡ logged g o.messages → m ≡ length o.messages → u' ≡ o.saved
          → Gives (outcome c l g u) (done_with v m) l' g' u'
      tests_left y w u o q v m l' g' u' long value board log count kept =
          gives-done c l g passed (tests-numbers y w) u o q v m value count l' g' u' long board log kept

      -- the call does o to the wired controller
      pub tests-sent : a ≡ true → s ≡ true → (o : Out)
          → ((u : List ℕ) → step c (board_of l) u ≡ wired_step (board_of l) o 0 u) → (m : ℕ)
          → (l' g' : List ℕ) → length l' ≡ block_size
          → board_of l' ≡ (wired_step (board_of l) o 0 []).board → g' ≡ logged g o.messages
          → m ≡ length o.messages → Does c l g (done_with 0 m) l' g'
      tests-sent y w o q m l' g' long board log count u =
          tests_left y w u _ (q u) 0 m l' g' u long refl board log count refl

      -- the call does what quiet says, and its code answered v and left the block l'
      pub tests-done : a ≡ true → s ≡ true → (b : Board) (v' : ℕ)
          → ((u : List ℕ) → step c (board_of l) u ≡ quiet b v' u)
          → (v : ℕ) → v ≡ v' → (l' : List ℕ) → length l' ≡ block_size → board_of l' ≡ b
          → Does c l g (done_with v 0) l' g
      tests-done y w b v' q v p l' long board u =
          tests_left y w u _ (q u) v 0 l' g u long p board (sym (logged_none g)) refl refl
