-- What in_clrip reads: the rectified value of each source, which is low for an inactive or detached one. 02,
-- M-101; the standard 4.5.7. Assumes nothing.
--   input_bit d ws i     source i reads as 1: the mode that it has in d makes a high value of its wire, one
--                        of the wires ws
--   inputs_to d ws k n   the lowest n bits of word k
--   input_word d ws k    word k
use Rattle.std.specs.Prelude.{ℕ, zero, suc, ◌+◌, ◌*◌, Bool, ◌&&◌, List, leb}
use Rattle.words.specs.Bits.{put_bit}
use Rattle.words.specs.Sets.{member}
use Rattle.source_mode.specs.Mode.{is_rectified}
use Rattle.domain.specs.Domain.{Domain}
use Rattle.domain.specs.Slot.{source_at}

-- [01 W37]
-- [02 M101.3]
unfoldable pub input_bit : Domain → List ℕ → ℕ → Bool
input_bit d ws i = leb 1 i && is_rectified (source_at d i).mode (member ws i)

unfoldable pub inputs_to : Domain → List ℕ → ℕ → ℕ → ℕ
inputs_to d ws k zero = 0
inputs_to d ws k (suc n) = put_bit (inputs_to d ws k n) n (input_bit d ws (32 * k + n))

-- [02 M101.2]
unfoldable pub input_word : Domain → List ℕ → ℕ → ℕ
input_word d ws k = inputs_to d ws k 32
