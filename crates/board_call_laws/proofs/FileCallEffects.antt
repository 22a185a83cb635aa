-- What the calls on one message file test, what each does, and what it gives once it is accepted. No contract
-- cites this file. Assumes nothing.
--   only_file b k f    the board b with f as file number k
use Prim.Native.Nat.{ℕ, ◌+◌, ◌*◌, ◌<◌}
use mathlib.Core.Path.{◌≡◌, refl, sym, ap, ap₂, ◌∙◌}
use mathlib.Core.Bool.{Bool, true, false, cond, ◌&&◌}
use mathlib.Core.List.{List, ◌++◌}
use native.Mathlib.Nat.{mod-eq_of_lt, mul-add-mod_self_left}
use native.Mathlib.Omega.{arith}
use lib.Dec.{ltb, leb}
use lib.ListN.{length, take, drop}
use borrow.Author.Tests.{ltb-true}
use Rattle.words.proofs.TestsLaws.{tested, and_first, and_second}
use Rattle.sizes.specs.Sizes.{identities, block_size, files_size, file_count}
use Rattle.file_select.specs.Select.{select_legal}
use Rattle.file.specs.declared.File.{File}
use Rattle.file.specs.declared.register.Access.{Access}
use Rattle.file.specs.declared.register.Accessed.{Accessed}
use Rattle.file.specs.Reply.{reply_value}
use Rattle.file.specs.Page.{page_written, page_read}
use Rattle.file.specs.Register.{accessed}
use Rattle.file.specs.Top.{top_of, claimed}
use Rattle.files.specs.Files.{file_number, is_guest, files_of, the_file, with_file}
use Rattle.board_block.specs.Block.{Board, with_files, board_of, board_sound}
use Rattle.board_block.proofs.BlockLaws.{files-part, files-back}
use Rattle.board_call.specs.Answer.{Answer, done_with, refusal_number}
use Rattle.board_call.specs.declared.Refusal.{Refusal}
use Rattle.board_call.specs.declared.Refusal.TheVariants.{NoSuch}
use Rattle.std.proofs.Common.{Result, Ok, Err, Option, Some, None}
use Rattle.std.proofs.lemmas.Result.{err_from_is_err_and}
use Rattle.std.specs.Option.{unwrap_or}
use Rattle.std.specs.Result.{IsErrAnd, result_unwrap_or}
use Rattle.file.specs.declared.register.Access.TheVariants.{Read}
use Rattle.board_call.specs.declared.Call.TheVariants.{PageRead, PageWrite, Register, Top, Claim}
use Rattle.board_call.specs.Change.{kind_of, change}
use Rattle.board_call.specs.Numbers.{is_file, is_page_address}
use Rattle.board_call.specs.Calls.{row_of}
use Rattle.board_call.specs.Refusal.{block_refusal}
use Rattle.board_call.specs.Outcome.{step, Does}
use Rattle.board_call.proofs.AnswerLaws.{refused-case}
use Rattle.board_call_laws.proofs.StepEffects.{step-on_file, step-answering}
use Rattle.board_call_laws.proofs.CallTests.{Tested, quiet, checked-long, checked-sound, tests-name}
use Rattle.board_call_laws.proofs.CallTests.{tests-done}

-- ---- a file that is there

module _ (h f : ℕ) where
  pub number_read : 5 * h + f ≡ file_number h f
  unfolding file_number
  number_read = refl

  module _ (there : is_file h f ≡ true) where
    pub hart-lt : h < 4
    unfolding is_file
    hart-lt = ltb-true h 4 (and_first (ltb h 4) (ltb f 5) there)

    pub file-lt : f < 5
    unfolding is_file
    file-lt = ltb-true f 5 (and_second (ltb h 4) (ltb f 5) there)

    pub number_lt : 5 * h + f < file_count
    number_lt = omega (arith, hart-lt, file-lt)

    pub guest-file : leb 2 f ≡ is_guest (file_number h f)
    unfolding file_number is_guest
    guest-file = ap (leb 2) (sym (mul-add-mod_self_left 5 h f ∙ mod-eq_of_lt file-lt))

  -- what a register access did, from the kind that was read
  pub register-did : is_file h f ≡ true → (x : File) (kind s v : ℕ) (a : Access) → a ≡ kind_of kind
      → (r : Accessed) → r ≡ accessed identities (leb 2 f) x a s v
      → r ≡ accessed identities (is_guest (file_number h f)) x (kind_of kind) s v
  register-did there x kind s v a e r did =
      did ∙ ap₂ (λ (g : Bool) (b : Access). accessed identities g x b s v) (guest-file there) e

-- ---- a kind of access

abbrev refusal_or : Result Access Refusal → Refusal
refusal_or (Ok a) = NoSuch
refusal_or (Err e) = e

module _ (kind : ℕ) (r : Result Access Refusal)
    (said : r ≡ cond (ltb kind 4) (Ok (kind_of kind)) (Err NoSuch)) where
  there : ltb kind 4 ≡ true → r ≡ Ok (kind_of kind)
  there t = said ∙ simp t

  missing : ltb kind 4 ≡ false → r ≡ Err NoSuch
  missing f = said ∙ simp f

  pub kind-read : {a : Access} → r ≡ Ok a → (ltb kind 4 ≡ true) × (a ≡ kind_of kind)
  kind-read p =
      tested (ltb kind 4)
      (λ t. (t, ap (λ (x : Result Access Refusal). result_unwrap_or x Read) (sym p ∙ there t)))
      (λ f. absurd (omega (arith, ap refusal_number (sym p ∙ missing f))))

  pub kind-none : {e : Refusal} → r ≡ Err e → (ltb kind 4 ≡ false) × (e ≡ NoSuch)
  kind-none {e} p =
      tested (ltb kind 4)
      (λ t. absurd (refused-case e (ap refusal_number (sym p ∙ there t))))
      (λ f. (f, ap refusal_or (sym p ∙ missing f)))

-- the value of what an access answers
pub value-or : (a : Option ℕ) → unwrap_or a 0 ≡ reply_value a
value-or (Some v) = refl
value-or None = refl

-- ---- a file in the block

abbrev pub only_file : Board → ℕ → File → Board
only_file b k f = with_files b (with_file b.files k f)

module _ (l : List ℕ) (long : length l ≡ block_size) (h f : ℕ) (x : File) where
  pub file-loaded : x ≡ the_file (files_of (take files_size l)) (5 * h + f)
      → x ≡ the_file (board_of l).files (file_number h f)
  file-loaded e = e ∙ ap₂ the_file (files-part l long) (number_read h f)

  -- it was stored in the words of the files, ys after it, which were lent as the first of the block
  pub file-stored : (front back ys : List ℕ) → front ≡ take files_size l → back ≡ drop files_size l
      → length (ys ++ drop files_size front) ≡ length front
      → files_of ys ≡ with_file (files_of (take files_size l)) (5 * h + f) x
      → board_of ((ys ++ drop files_size front) ++ back) ≡ only_file (board_of l) (file_number h f) x
  file-stored front back ys first last kept e =
      files-back l front back long first last ys kept
      ∙ ap (with_files (board_of l))
      (e ∙ ap₂ (λ (fs : List File) (k : ℕ). with_file fs k x) (files-part l long)
      (number_read h f))

-- ---- what each call tests

module _ (h f : ℕ) where
  pub tests-page_read : (a : ℕ) → Tested (PageRead h f a) (λ b. is_file h f) (is_page_address a) true
  unfolding row_of
  tests-page_read a = record { row = refl }

  pub tests-page_write : (a v : ℕ) → Tested (PageWrite h f a v) (λ b. is_file h f) (is_page_address a) true
  unfolding row_of
  tests-page_write a v = record { row = refl }

  pub tests-register : (k s v : ℕ) → Tested (Register h f k s v) (λ b. is_file h f && ltb k 4) true
      (select_legal s)
  unfolding row_of
  tests-register k s v = record { row = refl }

  pub tests-top : Tested (Top h f) (λ b. is_file h f) true true
  unfolding row_of
  tests-top = record { row = refl }

  pub tests-claim : Tested (Claim h f) (λ b. is_file h f) true true
  unfolding row_of
  tests-claim = record { row = refl }

-- the kind is none, and the call returns the refusal by `?`
pub register-no_kind : (l g : List ℕ) → block_refusal true l g ≡ 0 → (h f k s v : ℕ)
    → (r : Result Access Refusal)
    → r ≡ cond (ltb k 4) (Ok (kind_of k)) (Err NoSuch) → {e : Refusal} → r ≡ Err e → (q : Answer)
    → IsErrAnd q (λ y. y ≡ e) → Does (Register h f k s v) l g q l g
register-no_kind l g z h f k s v r said failed q back =
    let p = err_from_is_err_and q back in
    let none = kind-none k r said failed in
    rw (p.1, p.2, none.1)
    (tests-name (tests-register h f k s v) l g z
    (tested (is_file h f) (λ t. simp (t, none.0)) (λ u. simp u)))

-- the file that is named with a kind
pub with-kind : (h f k : ℕ) → ltb k 4 ≡ true → (m : Bool) → m ≡ is_file h f → m ≡ (is_file h f && ltb k 4)
with-kind h f k t m e = e ∙ tested (is_file h f) (λ u. simp (u, t)) (λ u. simp u)

-- ---- what each call does to a sound board, where x is its file

module _ (b : Board) (sound : board_sound b ≡ true) (h f : ℕ) (x : File)
    (here : x ≡ the_file b.files (file_number h f)) where
  pub step-page_read : (a : ℕ) (u : List ℕ) → step (PageRead h f a) b u ≡ quiet b (page_read x a) u
  unfolding step change
  step-page_read a u = rw here (step-answering b sound _ u)

  pub step-page_write : (a v : ℕ) (u : List ℕ)
      → step (PageWrite h f a v) b u
      ≡ quiet (only_file b (file_number h f) (page_written identities x a v)) 0 u
  unfolding step change
  step-page_write a v u = rw here (step-on_file b sound _ _ _ u)

  pub step-register : (k s v : ℕ) (r : Accessed)
      → r ≡ accessed identities (is_guest (file_number h f)) x (kind_of k) s v → (u : List ℕ)
      → step (Register h f k s v) b u
      ≡ quiet (only_file b (file_number h f) r.file) (reply_value r.answer) u
  unfolding step change
  step-register k s v r e u = rw (e, here) (step-on_file b sound _ _ _ u)

  pub step-top : (u : List ℕ) → step (Top h f) b u ≡ quiet b (top_of identities x) u
  unfolding step change
  step-top u = rw here (step-answering b sound _ u)

  pub step-claim : (u : List ℕ) → step (Claim h f) b u
      ≡ quiet (only_file b (file_number h f) (claimed identities x)) (top_of identities x) u
  unfolding step change
  step-claim u = rw here (step-on_file b sound _ _ _ u)

-- ---- what each call gives once it is accepted

-- where the block is lent as m, and x was loaded from it
module _ (l g : List ℕ) (z : block_refusal true l g ≡ 0) (m : List ℕ) (lent : m ≡ l) (h f : ℕ) (x : File)
    (loaded : x ≡ the_file (board_of m).files (file_number h f)) where
  here : x ≡ the_file (board_of l).files (file_number h f)
  here = loaded ∙ ap (λ (k : List ℕ). the_file (board_of k).files (file_number h f)) lent

  pub page_read-done : (a : ℕ) → is_file h f ≡ true → is_page_address a ≡ true → (v : ℕ) → v ≡ page_read x a
      → Does (PageRead h f a) l g (done_with v 0) l g
  page_read-done a there at v p =
      tests-done (tests-page_read h f a) l g z there at refl (board_of l) (page_read x a)
      (step-page_read (board_of l) (checked-sound l g z) h f x here a) v p l (checked-long l g z) refl

  pub top-done : is_file h f ≡ true → (v : ℕ) → v ≡ top_of identities x
      → Does (Top h f) l g (done_with v 0) l g
  top-done there v p =
      tests-done (tests-top h f) l g z there refl refl (board_of l) (top_of identities x)
      (step-top (board_of l) (checked-sound l g z) h f x here) v p l (checked-long l g z) refl

  -- the code stored y as that file, in a block of the same length
  module _ (y : File) (l' : List ℕ) (kept : length l' ≡ length l)
      (stored : board_of l' ≡ only_file (board_of m) (file_number h f) y) where
    long : length l' ≡ block_size
    long = kept ∙ checked-long l g z

    only : {y' : File} → y ≡ y' → board_of l' ≡ only_file (board_of l) (file_number h f) y'
    only q =
        stored ∙ ap (λ (k : List ℕ). only_file (board_of k) (file_number h f) y) lent
        ∙ ap (only_file (board_of l) (file_number h f)) q

    pub page_write-done : (a v : ℕ) → is_file h f ≡ true → is_page_address a ≡ true
        → y ≡ page_written identities x a v → Does (PageWrite h f a v) l g (done_with 0 0) l' g
    page_write-done a v there at q =
        tests-done (tests-page_write h f a v) l g z there at refl _ 0
        (step-page_write (board_of l) (checked-sound l g z) h f x here a v) 0 refl l' long (only q)

    pub register-done : (kind s v : ℕ) → (is_file h f && ltb kind 4) ≡ true → select_legal s ≡ true
        → (r : Accessed) → r ≡ accessed identities (is_guest (file_number h f)) x (kind_of kind) s v
        → y ≡ r.file → (u : ℕ) → u ≡ reply_value r.answer
        → Does (Register h f kind s v) l g (done_with u 0) l' g
    register-done kind s v there legal r did q u p =
        tests-done (tests-register h f kind s v) l g z there refl legal _ _
        (step-register (board_of l) (checked-sound l g z) h f x here kind s v r did) u p l' long (only q)

    pub claim-done : is_file h f ≡ true → y ≡ claimed identities x → (v : ℕ) → v ≡ top_of identities x
        → Does (Claim h f) l g (done_with v 0) l' g
    claim-done there q v p =
        tests-done (tests-claim h f) l g z there refl refl _ (top_of identities x)
        (step-claim (board_of l) (checked-sound l g z) h f x here) v p l' long (only q)
