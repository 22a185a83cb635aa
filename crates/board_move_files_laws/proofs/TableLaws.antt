-- What holds of every line of the table of accesses, by a test that computes over the whole table. No
-- contract cites this file. Assumes nothing.
use Prim.Native.Nat.{ℕ, ◌-◌, ◌≤◌, ◌<◌}
use mathlib.Core.Path.{◌≡◌, refl}
use mathlib.Core.Bool.{Bool, true, false, not}
use mathlib.Core.Logic.{◌⊎◌, inl, inr}
use native.Mathlib.Omega.{arith}
use borrow.Author.Tests.{not-true}
use Rattle.words.specs.Every.{every}
use Rattle.words.proofs.EveryLaws.{every-each}
use Rattle.board_move_steps.specs.declared.Act.{Act}
use Rattle.board_move_steps.specs.declared.Act.TheVariants.{Save, Zero, Target, Put}
use Rattle.board_move_steps.specs.Steps.{accesses, act_of, act_within}

all-within : every (λ n. act_within (act_of n)) 1 accesses ≡ true
unfolding every act_within act_of
all-within = refl

pub act-within : (n : ℕ) → 1 ≤ n → n ≤ accesses → act_within (act_of n) ≡ true
act-within n l h = every-each (λ k. act_within (act_of k)) 1 accesses all-within n l (omega arith)

-- step 3 alone rewrites targets
unfoldable pub is_target : Act → Bool
is_target (Save select place) = false
is_target (Zero new select) = false
is_target (Target i) = true
is_target (Put kind select place) = false

first_else : every (λ n. not (is_target (act_of n))) 1 8 ≡ true
unfolding every is_target act_of
first_else = refl

last_else : every (λ n. not (is_target (act_of n))) 72 (accesses - 71) ≡ true
unfolding every is_target act_of
last_else = refl

pub act-else : (n : ℕ) → 1 ≤ n → n ≤ accesses → (n ≤ 8) ⊎ (71 < n) → is_target (act_of n) ≡ false
act-else n l h (inl a) =
    not-true _ (every-each (λ k. not (is_target (act_of k))) 1 8 first_else n l (omega arith))
act-else n l h (inr a) =
    not-true _ (every-each (λ k. not (is_target (act_of k))) 72 (accesses - 71) last_else n a (omega arith))
