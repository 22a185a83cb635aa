-- When a call is refused, and with which number. 01, "Calls and their refusals". Assumes nothing.
--   Test                 a test: the number of its refusal, and whether it is passed
--   first_failed ts      the number of the first test of ts that is not passed, or 0
--   block_tests r l g    the tests of the blocks, in their order: 1 the length of the block l, 2 that of the
--                        log g, 3 the state rules of l, where r says that they are tested
--   name_tests t b       the tests of the numbers, in their order: 4 what is there, 5 the address, 6 the
--                        select number
--   block_refusal r l g  the refusal by the blocks, or 0
--   name_refusal_by t b  the refusal by the numbers, or 0; name_refusal c b, that of the call c
--   refusal_by t l g     the refusal: the first of all these tests that fails, or 0; refusal_of c l g, that
--                        of the call c, by the tests of its row
use Rattle.std.specs.Prelude.{ℕ, Bool, cond, not, ◌||◌, List, [], ◌∷◌, ◌++◌, eqb, length}
use Rattle.sizes.specs.Sizes.{block_size, log_size}
use Rattle.board_block.specs.Block.{Board, board_of, board_sound}
use Rattle.board_call.specs.declared.Call.{Call}
use Rattle.board_call.specs.Calls.{Tests, row_of}

pub record Test : Type 0 where
  pub number : ℕ
  pub passed : Bool

-- [01 C18]
unfoldable pub first_failed : List Test → ℕ
first_failed [] = 0
first_failed (t ∷ ts) = cond t.passed (first_failed ts) t.number

-- [01 C10 C11 C12]
unfoldable pub block_tests : Bool → List ℕ → List ℕ → List Test
block_tests r l g =
    record { number = 1; passed = eqb (length l) block_size }
    ∷ record { number = 2; passed = eqb (length g) log_size }
    ∷ record { number = 3; passed = not r || board_sound (board_of l) }
    ∷ []

unfoldable pub name_tests : Tests → Board → List Test
name_tests t b =
    record { number = 4; passed = t.names b }
    ∷ record { number = 5; passed = t.address }
    ∷ record { number = 6; passed = t.select }
    ∷ []

unfoldable pub block_refusal : Bool → List ℕ → List ℕ → ℕ
block_refusal r l g = first_failed (block_tests r l g)

unfoldable pub name_refusal_by : Tests → Board → ℕ
name_refusal_by t b = first_failed (name_tests t b)

abbrev pub name_refusal : Call → Board → ℕ
name_refusal c b = name_refusal_by (row_of c).tests b

-- [01 C8 X5]
-- [02 M101.5]
unfoldable pub refusal_by : Tests → List ℕ → List ℕ → ℕ
refusal_by t l g = first_failed (block_tests t.rules l g ++ name_tests t (board_of l))

abbrev pub refusal_of : Call → List ℕ → List ℕ → ℕ
refusal_of c l g = refusal_by (row_of c).tests l g
