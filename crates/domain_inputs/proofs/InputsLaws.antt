-- Laws of specs/Inputs.antt: a word by its bits. No contract cites this file. Assumes nothing.
use Prim.Native.Nat.{ℕ, zero, suc, ◌+◌, ◌*◌, ◌^◌, ◌≤◌, ◌<◌}
use mathlib.Core.Path.{◌≡◌, sym, ◌∙◌}
use mathlib.Core.Bool.{Bool, false}
use mathlib.Core.List.{List}
use mathlib.Core.Logic.{◌≢◌}
use native.Mathlib.Decide.{ℕ_discrete}
use native.Mathlib.Omega.{arith}
use borrow.Author.Tests.{le-leb}
use Rattle.words.specs.Bits.{has_bit, put_bit}
use Rattle.words.specs.Sets.{member}
use Rattle.words.proofs.BitsLaws.{has_bit-put_bit-same, has_bit-put_bit-other, put_bit-on, put_bit-off}
use Rattle.words.proofs.BitsLaws.{with_bit-lt, without_bit-le, has_bit-ext}
use Rattle.words.proofs.TestsLaws.{tested}
use Rattle.source_mode.specs.Mode.{is_rectified}
use Rattle.domain.specs.Domain.{Domain}
use Rattle.domain.specs.Slot.{source_at}
use Rattle.domain_inputs.specs.Inputs.{input_bit, inputs_to, input_word}

module _ (d : Domain) (ws : List ℕ) where
  pub input-source : (i : ℕ) → 1 ≤ i → input_bit d ws i ≡ is_rectified (source_at d i).mode (member ws i)
  unfolding input_bit
  input-source i l = rw (le-leb 1 i l)

  pub input_none : (i : ℕ) → i ≡ 0 → input_bit d ws i ≡ false
  unfolding input_bit
  input_none i e = rw e

  module _ (k : ℕ) where
    pub inputs-bit : (n j : ℕ) → j < n → has_bit (inputs_to d ws k n) j ≡ input_bit d ws (32 * k + j)
    unfolding inputs_to
    inputs-bit zero j h = absurd (omega arith)
    inputs-bit (suc n) j h = at (ℕ_discrete j n) (λ x. inputs-bit n j (omega (arith, x)))
      where
        next : Bool
        next = input_bit d ws (32 * k + n)

        at : Dec (j ≡ n) → (j ≢ n → has_bit (inputs_to d ws k n) j ≡ input_bit d ws (32 * k + j))
            → has_bit (put_bit (inputs_to d ws k n) n next) j ≡ input_bit d ws (32 * k + j)
        at (yes e) before = rw e (has_bit-put_bit-same (inputs_to d ws k n) n next)
        at (no x) before = has_bit-put_bit-other (inputs_to d ws k n) n next j x ∙ before x

    pub inputs-lt : (n : ℕ) → n ≤ 32 → inputs_to d ws k n < 2 ^ 32
    unfolding inputs_to
    inputs-lt zero h = omega arith
    inputs-lt (suc n) h =
        let before = inputs-lt n (omega arith) in
        let b = input_bit d ws (32 * k + n) in
        tested b
        (λ t. rw (put_bit-on (inputs_to d ws k n) n b t)
        (with_bit-lt 32 (inputs_to d ws k n) n before (omega arith)))
        (λ f. rw (put_bit-off (inputs_to d ws k n) n b f)
        (omega (arith, before, without_bit-le (inputs_to d ws k n) n)))

    pub input-word-by : (w : ℕ) → w < 2 ^ 32
        → ((n : ℕ) → n < 32 → has_bit w n ≡ input_bit d ws (32 * k + n)) → w ≡ input_word d ws k
    unfolding input_word
    input-word-by w h bits =
        has_bit-ext 32 w (inputs_to d ws k 32) h (inputs-lt 32 (omega arith))
        (λ n l. bits n l ∙ sym (inputs-bit 32 n l))
