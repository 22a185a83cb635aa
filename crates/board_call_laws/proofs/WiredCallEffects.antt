-- The three calls on the wired controller: what each test gives, and what an accepted call gives. No contract
-- cites this file. Assumes nothing.
use Prim.Native.Nat.{ℕ, ◌≤◌, ◌<◌}
use mathlib.Core.Path.{◌≡◌, refl, ap, ◌∙◌}
use mathlib.Core.Bool.{true, ◌&&◌}
use mathlib.Core.List.{List, []}
use native.Mathlib.Omega.{arith}
use lib.Dec.{eqb, leb, ltb}
use lib.ListN.{length}
use borrow.Author.Tests.{leb-true, lt-ltb}
use Rattle.words.proofs.TestsLaws.{and_first, and_second}
use Rattle.files.specs.Files.{all_reached}
use Rattle.domain_region.specs.Region.{address_legal, word_at}
use Rattle.wired_state.specs.Wires.{Wired}
use Rattle.wired_registers.specs.Wired.{read_in}
use Rattle.wired.specs.Controller.{wire_call, read_call, write_call}
use Rattle.board_block.specs.Block.{Board, with_wired, board_of}
use Rattle.board_call.specs.Answer.{done_with}
use Rattle.board_call.specs.declared.Call.TheVariants.{Wire, DomainRead, DomainWrite}
use Rattle.board_call.specs.Numbers.{is_wire}
use Rattle.board_call.specs.Calls.{row_of}
use Rattle.board_call.specs.Refusal.{block_refusal}
use Rattle.board_call.specs.Outcome.{Stepped, Does}
use Rattle.board_call_laws.specs.Left.{Left}
use Rattle.board_call_laws.proofs.CallTests.{Tested, tests-done, tests-sent}
use Rattle.board_call_laws.proofs.StepEffects.{wired_step, step-wire, step-domain_read, step-domain_write}
use Rattle.sizes.specs.Sizes.{block_size}

-- the number of a wire that is there
module _ (i level : ℕ) (there : is_wire i level ≡ true) where
  pub wire-low : 1 ≤ i
  unfolding is_wire
  wire-low =
      leb-true 1 i (and_first (leb 1 i) (leb i 63)
      (and_first (leb 1 i && leb i 63) (leb level 1) there))

  pub wire-high : i < 64
  unfolding is_wire
  wire-high =
      omega (
        arith,
        leb-true i 63 (and_second (leb 1 i) (leb i 63)
            (and_first (leb 1 i && leb i 63) (leb level 1) there)),
      )

-- what a call leaves that did w to the wired controller, answers v and sent ms
abbrev wired_sent : Board → Wired → ℕ → List ℕ → List ℕ → Stepped
wired_sent b w v ms s = wired_step b (record { wired = w; messages = ms }) v s

-- ---- what each call tests

pub tests-wire : (i level : ℕ) → Tested (Wire i level) (λ b. is_wire i level) true true
unfolding row_of
tests-wire i level = record { row = refl }

pub tests-domain_read : (d a : ℕ) → Tested (DomainRead d a) (λ b. ltb d 2) (address_legal a) true
unfolding row_of
tests-domain_read d a = record { row = refl }

pub tests-domain_write : (d a v : ℕ) → Tested (DomainWrite d a v) (λ b. ltb d 2) (address_legal a) true
unfolding row_of
tests-domain_write d a v = record { row = refl }

-- ---- what an accepted call gives

module _ (l g : List ℕ) (z : block_refusal true l g ≡ 0) where
  pub wire-done : (i level : ℕ) → is_wire i level ≡ true → (l' g' : List ℕ) (n : ℕ) → length l' ≡ block_size
      → Left (wire_call (board_of l).wired i (eqb level 1)) l l' g g' n
      → Does (Wire i level) l g (done_with 0 n) l' g'
  wire-done i level n l' g' m long (b, h, c) =
      tests-sent (tests-wire i level) l g z n refl refl _ (step-wire (board_of l) i level) m l' g' long
      b h c

  module _ (d a : ℕ) (n : d < 2) (b : address_legal a ≡ true) where
    pub domain_read-done : (l' : List ℕ) (v : ℕ) → length l' ≡ block_size
        → (read_call (board_of l).wired (eqb d 1) (word_at a)).messages ≡ []
        → v ≡ read_in (board_of l).wired (eqb d 1) (word_at a)
        → board_of l' ≡ with_wired (board_of l) (read_call (board_of l).wired (eqb d 1) (word_at a)).wired
        → Does (DomainRead d a) l g (done_with v 0) l' g
    unfolding all_reached
    domain_read-done l' v long none value board =
        tests-done (tests-domain_read d a) l g z (lt-ltb d 2 n) b refl _ _
        (λ s. step-domain_read (board_of l) d a s
        ∙ ap (λ (ms : List ℕ). wired_sent (board_of l)
        (read_call (board_of l).wired (eqb d 1) (word_at a)).wired
        (read_in (board_of l).wired (eqb d 1) (word_at a)) ms s) none) v value l' long board

    pub domain_write-done : (v : ℕ) (l' g' : List ℕ) (m : ℕ) → length l' ≡ block_size
        → Left (write_call (board_of l).wired (eqb d 1) (word_at a) v) l l' g g' m
        → Does (DomainWrite d a v) l g (done_with 0 m) l' g'
    domain_write-done v l' g' m long (x, h, c) =
        tests-sent (tests-domain_write d a v) l g z (lt-ltb d 2 n) b refl _
        (step-domain_write (board_of l) d a v) m l' g' long x h c
