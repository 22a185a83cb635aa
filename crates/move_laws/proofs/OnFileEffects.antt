-- One call on one message file: what it answers, and what it leaves of the file, hang on that file alone. No
-- contract cites this file. Assumes nothing.
--   leaves n g c x, answers n g c x    what the call c leaves of a file x of n identities, and what it
--                                      answers; g says that it is a guest's
use Prim.Native.Nat.{ℕ}
use mathlib.Core.Path.{◌≡◌, refl, sym, ap, ◌∙◌}
use mathlib.Core.Bool.{Bool, true, false}
use mathlib.Core.List.{List}
use mathlib.Core.Logic.{◌≢◌}
use native.Mathlib.Decide.{ℕ_discrete}
use native.Mathlib.Omega.{arith}
use lib.Dec.{ltb}
use Rattle.words.proofs.TestsLaws.{and_first}
use Rattle.sizes.specs.Sizes.{identities}
use Rattle.file.specs.declared.File.{File}
use Rattle.file.specs.Reply.{reply_value}
use Rattle.file.specs.Page.{page_written, page_read}
use Rattle.file.specs.Register.{accessed}
use Rattle.file.specs.Top.{top_of, claimed}
use Rattle.files.specs.Files.{file_number, is_guest, the_file}
use Rattle.files.proofs.FilesLaws.{the_file-with_file-same, the_file-with_file-other}
use Rattle.files_laws.proofs.ReachedEffects.{with_file-the_file}
use Rattle.board_block.specs.Block.{Board, with_files}
use Rattle.board_call.specs.Change.{kind_of}
use Rattle.board_call.specs.Outcome.{Stepped, step, done_as}
use Rattle.board_call.specs.Numbers.{is_file}
use Rattle.board_call.specs.Calls.{row_of}
use Rattle.board_call.specs.Refusal.{name_tests, name_refusal, name_refusal_by}
use Rattle.board_call.proofs.RefusalLaws.{accepted-present}
use Rattle.board_call_laws.specs.Fit.{Fit}
use Rattle.board_call_laws.specs.Small.{Small}
use Rattle.board_call_laws.proofs.CallTests.{quiet}
use Rattle.board_call_laws.proofs.FileCallEffects.{only_file, number_read, number_lt, step-page_read}
use Rattle.board_call_laws.proofs.FileCallEffects.{step-page_write, step-register, step-top, step-claim}
use Rattle.board_call_laws.proofs.OutcomeEffects.{outcome-refused, outcome-done}
use Rattle.board_runs.specs.Runs.{said_of, Lent, outcome_on, after}
use Rattle.board_runs.specs.Handed.{is_access}
use Rattle.board_runs.specs.Ready.{board_in, Ready}
use Rattle.board_runs.proofs.RunsEffects.{after-refused, ready-refusal, after-board}
use Rattle.move_laws.specs.After.{FileCall, call_on}

abbrev pub leaves : ℕ → Bool → FileCall → File → File
leaves n g (FileCall.page_read a) x = x
leaves n g (FileCall.page_write a v) x = page_written n x a v
leaves n g (FileCall.register k s v) x = (accessed n g x (kind_of k) s v).file
leaves n g FileCall.top x = x
leaves n g FileCall.claim x = claimed n x

abbrev pub answers : ℕ → Bool → FileCall → File → ℕ
answers n g (FileCall.page_read a) x = page_read x a
answers n g (FileCall.page_write a v) x = 0
answers n g (FileCall.register k s v) x = reply_value (accessed n g x (kind_of k) s v).answer
answers n g FileCall.top x = top_of n x
answers n g FileCall.claim x = top_of n x

module _ (h f : ℕ) where
  pub small-on : (c : FileCall) → Small (call_on 0 0 c) → Small (call_on h f c)
  unfolding row_of
  small-on (FileCall.page_read a) s = s
  small-on (FileCall.page_write a v) s = s
  small-on (FileCall.register k x v) s = s
  small-on FileCall.top s = s
  small-on FileCall.claim s = s

  pub no_access : (c : FileCall) → is_access (call_on h f c) ≡ false
  unfolding is_access row_of
  no_access (FileCall.page_read a) = refl
  no_access (FileCall.page_write a v) = refl
  no_access (FileCall.register k x v) = refl
  no_access FileCall.top = refl
  no_access FileCall.claim = refl

  -- a refusal hangs on the numbers of the call alone
  pub refusal-apart : (c : FileCall) (b b' : Board)
      → name_refusal (call_on h f c) b ≡ name_refusal (call_on h f c) b'
  unfolding name_refusal_by name_tests row_of
  refusal-apart (FileCall.page_read a) b b' = refl
  refusal-apart (FileCall.page_write a v) b b' = refl
  refusal-apart (FileCall.register k s v) b b' = refl
  refusal-apart FileCall.top b b' = refl
  refusal-apart FileCall.claim b b' = refl

  -- the file of an accepted call is there
  pub there-on : (c : FileCall) (b : Board) → name_refusal (call_on h f c) b ≡ 0 → is_file h f ≡ true
  unfolding row_of
  there-on (FileCall.page_read a) b e = accepted-present
      (row_of (call_on h f (FileCall.page_read a))).tests b e
  there-on (FileCall.page_write a v) b e =
      accepted-present (row_of (call_on h f (FileCall.page_write a v))).tests b e
  there-on (FileCall.register k s v) b e =
      and_first (is_file h f) (ltb k 4)
      (accepted-present (row_of (call_on h f (FileCall.register k s v))).tests b e)
  there-on FileCall.top b e = accepted-present (row_of (call_on h f FileCall.top)).tests b e
  there-on FileCall.claim b e = accepted-present (row_of (call_on h f FileCall.claim)).tests b e

  abbrev k : ℕ
  k = file_number h f

  module _ (b : Board) (fit : Fit b) where
    abbrev here : File
    here = the_file b.files k

    -- a call that leaves the board leaves the file in its place
    unmoved : b ≡ only_file b k here
    unmoved = ap (with_files b) (sym (with_file-the_file b.files k))

    pub step-on : (c : FileCall) (u : List ℕ)
        → step (call_on h f c) b u
        ≡ quiet (only_file b k (leaves identities (is_guest k) c here))
        (answers identities (is_guest k) c here)
        u
    step-on (FileCall.page_read a) u =
        step-page_read b fit.sound h f here refl a u ∙ ap (λ (d : Board). quiet d (page_read here a) u)
        unmoved
    step-on (FileCall.page_write a v) u = step-page_write b fit.sound h f here refl a v u
    step-on (FileCall.register kind s v) u = step-register b fit.sound h f here refl kind s v _ refl u
    step-on FileCall.top u =
        step-top b fit.sound h f here refl u
        ∙ ap (λ (d : Board). quiet d (top_of identities here) u) unmoved
    step-on FileCall.claim u = step-claim b fit.sound h f here refl u

  -- what the call answers, and the file after it
  module _ (x : Lent) (ready : Ready x) (c : FileCall) where
    abbrev file : File
    file = the_file (board_in x).files k

    module _ (e : name_refusal (call_on h f c) (board_in x) ≡ 0) where
      pub said-done : said_of (outcome_on (call_on h f c) x)
          ≡ record { number = 0; value = answers identities (is_guest k) c file; count = 0 }
      said-done =
          ap said_of (outcome-done (call_on h f c) x.block x.log x.saved
          (ready-refusal (call_on h f c) x ready ∙ e))
          ∙ ap (λ (s : Stepped). said_of (done_as s x.log)) (step-on (board_in x) ready.fit c x.saved)

      pub file-done : Small (call_on h f c)
          → the_file (board_in (after (call_on h f c) x)).files k ≡ leaves identities (is_guest k) c file
      file-done small =
          ap (λ (b : Board). the_file b.files k) (after-board (call_on h f c) x ready e small)
          ∙ ap (λ (s : Stepped). the_file s.board.files k)
          (step-on (board_in x) ready.fit c x.saved)
          ∙ the_file-with_file-same (board_in x).files k (leaves identities (is_guest k) c file)
          (omega (
            arith,
            ready.fit.shaped.many,
            number_read h f,
            number_lt h f (there-on c (board_in x) e),
          ))

    module _ (d : name_refusal (call_on h f c) (board_in x) ≢ 0) where
      pub said-refused : said_of (outcome_on (call_on h f c) x)
          ≡ record { number = name_refusal (call_on h f c) (board_in x); value = 0; count = 0 }
      said-refused =
          ap said_of (outcome-refused (call_on h f c) x.block x.log x.saved _
          (ready-refusal (call_on h f c) x ready) d)

      pub file-refused : the_file (board_in (after (call_on h f c) x)).files k ≡ file
      file-refused =
          ap (λ (y : Lent). the_file (board_in y).files k)
          (after-refused (call_on h f c) x (λ q. d (sym (ready-refusal (call_on h f c) x ready) ∙ q)))

    -- the rest of the board: the wired controller, and every other file
    abbrev Rest : Board → Type 0
    Rest b =
        (b.wired ≡ (board_in x).wired)
        × ((i : ℕ) → i ≢ k → the_file b.files i ≡ the_file (board_in x).files i)

    pub rest-kept : Small (call_on h f c) → Rest (board_in (after (call_on h f c) x))
    rest-kept small = at (ℕ_discrete (name_refusal (call_on h f c) (board_in x)) 0)
      where
        at : Dec (name_refusal (call_on h f c) (board_in x) ≡ 0) → Rest (board_in (after (call_on h f c) x))
        at (yes e) =
            rw (
              after-board (call_on h f c) x ready e small,
              step-on (board_in x) ready.fit c x.saved,
            )
            (refl, (λ i d. the_file-with_file-other (board_in x).files k _ i d))
        at (no d) =
            rw (after-refused (call_on h f c) x (λ q. d (sym (ready-refusal (call_on h f c) x ready) ∙ q)))
            (refl, (λ i q. refl))
