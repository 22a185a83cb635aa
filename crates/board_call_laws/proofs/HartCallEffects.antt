-- What a reset and the signals of a hart test, do and give, and the signals file by file. No contract cites
-- this file. Assumes nothing.
use Prim.Native.Nat.{ℕ, zero, suc, ◌+◌, ◌≤◌, ◌<◌}
use mathlib.Core.Path.{◌≡◌, refl, sym, ap, ◌∙◌}
use mathlib.Core.Bool.{Bool, true, false}
use mathlib.Core.List.{List}
use mathlib.Core.Logic.{◌≢◌}
use native.Mathlib.Decide.{ℕ_discrete}
use native.Mathlib.Numerals.{add-one}
use native.Mathlib.Omega.{arith}
use lib.Dec.{eqb, ltb}
use lib.ListN.{length, take, drop}
use borrow.Author.Tests.{lt-ltb, le-ltb, eq-eqb, ne_eqb}
use Rattle.words.specs.Bits.{has_bit, put_bit}
use Rattle.words.proofs.BitsLaws.{has_bit-put_bit-same, has_bit-put_bit-other}
use Rattle.words.proofs.TestsLaws.{tested}
use Rattle.sizes.specs.Sizes.{identities, block_size, files_size, wired_size}
use Rattle.file.specs.declared.File.{File}
use Rattle.file.specs.Top.{signals}
use Rattle.files.specs.Files.{file_number, the_file}
use Rattle.domain_direct.specs.Direct.{signal_of}
use Rattle.domain_sending.proofs.SendingLaws.{logged_none}
use Rattle.wired_state.specs.Wires.{Wired, wired_of, domain_in}
use Rattle.board_block.specs.Block.{Board, board_of, board_sound}
use Rattle.board_block.specs.Start.{start_board}
use Rattle.board_block.proofs.BlockLaws.{wired-part}
use Rattle.std.proofs.Common.{Result, Err}
use Rattle.std.proofs.lemmas.Result.{err_from_is_err_and}
use Rattle.std.specs.Result.{IsErrAnd}
use Rattle.board_call.specs.declared.Refusal.{Refusal}
use Rattle.board_call.specs.declared.Call.TheVariants.{Reset, Signals}
use Rattle.board_call.specs.Answer.{Answer, done_with, Refuses}
use Rattle.board_call.specs.Change.{signal_at, signals_to, change}
use Rattle.board_call.specs.Calls.{row_of}
use Rattle.board_call.specs.Refusal.{block_refusal, name_refusal}
use Rattle.board_call.specs.Outcome.{step, Does}
use Rattle.board_call.proofs.AnswerLaws.{failed-case}
use Rattle.board_call.proofs.RefusalLaws.{passed-state, numbers-name}
use Rattle.board_call_laws.proofs.OutcomeEffects.{gives-blocks, gives-done}
use Rattle.board_call_laws.proofs.StepEffects.{step-answering, step-reset}
use Rattle.board_call_laws.proofs.CallTests.{Tested, quiet, checked-long, checked-sound, tests-done}

-- ---- a reset

reset-names : (b : Board) → name_refusal Reset b ≡ 0
unfolding row_of
reset-names b = numbers-name (row_of Reset).tests b refl refl refl

module _ (l g : List ℕ) where
  -- r is what the test of the lengths answered, and the call returns its refusal by `?`
  pub reset-blocks : (r : Result Unit Refusal) → Refuses r (block_refusal false l g) → {e : Refusal}
      → r ≡ Err e
      → (q : Answer) → IsErrAnd q (λ y. y ≡ e) → Does Reset l g q l g
  unfolding row_of
  reset-blocks r said failed q back =
      let p = err_from_is_err_and q back in
      rw (p.1, p.2) (gives-blocks Reset l g _ (failed-case r _ said failed))

  module _ (z : block_refusal false l g ≡ 0) where
    pub reset-long : length l ≡ block_size
    reset-long = passed-state false l g z

    pub reset-done : (l' : List ℕ) → length l' ≡ length l → board_of l' ≡ start_board
        → Does Reset l g (done_with 0 0) l' g
    unfolding row_of
    reset-done l' kept board u =
        gives-done Reset l g z (reset-names (board_of l)) u (quiet start_board 0 u)
        (step-reset (board_of l) u) 0 0 refl refl l' g u (kept ∙ reset-long) board (sym (logged_none g)) refl

-- ---- the signal of file f of hart h, where x is that file

module _ (b : Board) (h f : ℕ) (x : File) (here : x ≡ the_file b.files (file_number h f)) where
  pub signal-own : signals identities x ≡ true → signal_at b h f ≡ true
  unfolding signal_at
  signal-own own = simp (sym here, own)

  module _ (own : signals identities x ≡ false) where
    pub signal-guest : 2 ≤ f → signal_at b h f ≡ false
    unfolding signal_at
    signal-guest g = simp (sym here, own, le-ltb f 2 g)

    module _ (low : f < 2) where
      pub signal-off : x.delivery ≢ 0x40000000 → signal_at b h f ≡ false
      unfolding signal_at
      signal-off d = simp (sym here, own, lt-ltb f 2 low, ne_eqb x.delivery 0x40000000 d)

      pub signal-domain : x.delivery ≡ 0x40000000
          → signal_at b h f ≡ signal_of (domain_in b.wired (eqb f 1)) h
      unfolding signal_at
      signal-domain d = simp (sym here, own, lt-ltb f 2 low, eq-eqb x.delivery 0x40000000 d)

-- the signal of the domain, read where the wired controller's part of the block l is lent
pub signal-lent : (l : List ℕ) → length l ≡ block_size → (h f : ℕ) (r : Bool)
    → r ≡ signal_of (domain_in (wired_of (take wired_size (drop files_size l))) (eqb f 1)) h
    → r ≡ signal_of (domain_in (board_of l).wired (eqb f 1)) h
signal-lent l long h f r e = e ∙ ap (λ (w : Wired). signal_of (domain_in w (eqb f 1)) h) (wired-part l long)

module _ (b : Board) (h : ℕ) where
  pub signals-none : signals_to b h 0 ≡ 0
  unfolding signals_to
  signals-none = refl

  pub signals-next : (n : ℕ) → put_bit (signals_to b h n) n (signal_at b h n) ≡ signals_to b h (n + 1)
  unfolding signals_to
  signals-next n = rw add-one

-- bit f of the signals is the signal of file f
pub signal-bit : (b : Board) (h n f : ℕ) → f < n → has_bit (signals_to b h n) f ≡ signal_at b h f
unfolding signals_to
signal-bit b h zero f l = absurd (omega arith)
signal-bit b h (suc n) f l = at (ℕ_discrete f n) (signal-bit b h n f)
  where
    at : Dec (f ≡ n) → (f < n → has_bit (signals_to b h n) f ≡ signal_at b h f)
        → has_bit (signals_to b h (suc n)) f ≡ signal_at b h f
    at (yes e) lower =
        ap (has_bit (signals_to b h (suc n))) e ∙ has_bit-put_bit-same (signals_to b h n) n (signal_at b h n)
        ∙ ap (signal_at b h) (sym e)
    at (no d) lower = has_bit-put_bit-other (signals_to b h n) n (signal_at b h n) f d ∙ lower (omega arith)

-- a guest's file signals by itself alone
pub signal-guest-own : (b : Board) (h f : ℕ) → 2 ≤ f
    → signal_at b h f ≡ signals identities (the_file b.files (file_number h f))
signal-guest-own b h f l =
    let x = the_file b.files (file_number h f) in
    tested (signals identities x) (λ t. signal-own b h f x refl t ∙ sym t)
    (λ u. signal-guest b h f x refl u l ∙ sym u)

-- ---- the signals of a hart

pub tests-signals : (h : ℕ) → Tested (Signals h) (λ b. ltb h 4) true true
unfolding row_of
tests-signals h = record { row = refl }

pub step-signals : (b : Board) → board_sound b ≡ true → (h : ℕ) (u : List ℕ)
    → step (Signals h) b u ≡ quiet b (signals_to b h 5) u
unfolding step change
step-signals b sound h u = step-answering b sound _ u

pub signals-done : (l g : List ℕ) (z : block_refusal true l g ≡ 0) (h : ℕ) → h < 4
    → (v : ℕ) → v ≡ signals_to (board_of l) h 5 → Does (Signals h) l g (done_with v 0) l g
signals-done l g z h there v p =
    tests-done (tests-signals h) l g z (lt-ltb h 4 there) refl refl (board_of l)
    (signals_to (board_of l) h 5) (step-signals (board_of l) (checked-sound l g z) h) v p l
    (checked-long l g z) refl
