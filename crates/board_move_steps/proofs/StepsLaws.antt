-- Laws of specs/Steps.antt: what access n does, a line of the table each. No contract cites this file.
-- Assumes nothing.
use Prim.Native.Nat.{ℕ, ◌+◌, ◌-◌, ◌*◌, ◌≤◌, ◌<◌}
use mathlib.Core.Path.{◌≡◌, ◌∙◌}
use mathlib.Core.Bool.{true, false, cond}
use native.Mathlib.Omega.{arith}
use lib.Dec.{eqb, leb}
use borrow.Author.Tests.{eq-eqb, ne_eqb, le-leb, lt-leb}
use Rattle.file.specs.declared.register.Access.TheVariants.{Write, Set}
use Rattle.board_move_steps.specs.declared.Act.{Act}
use Rattle.board_move_steps.specs.declared.Act.TheVariants.{Save, Zero, Target, Put}
use Rattle.board_move_steps.specs.Steps.{delivery_at, threshold_at, pending_at, enable_at, act_of}

module _ (n : ℕ) where
  -- ---- steps 1 and 2

  pub act-delivery : n ≡ 1 → act_of n ≡ Save 0x70 delivery_at
  unfolding act_of
  act-delivery e = simp (eq-eqb n 1 e)

  pub act-threshold : n ≡ 2 → act_of n ≡ Save 0x72 threshold_at
  unfolding act_of
  act-threshold e = simp (ne_eqb n 1 (λ q. omega arith), eq-eqb n 2 e)

  pub act-silence : n ≡ 3 → act_of n ≡ Zero false 0x70
  unfolding act_of
  act-silence e = simp (ne_eqb n 1 (λ q. omega arith), ne_eqb n 2 (λ q. omega arith), eq-eqb n 3 e)

  pub act-hold : n ≡ 4 → act_of n ≡ Zero true 0x70
  unfolding act_of
  act-hold e =
      simp (
        ne_eqb n 1 (λ q. omega arith),
        ne_eqb n 2 (λ q. omega arith),
        ne_eqb n 3 (λ q. omega arith),
        eq-eqb n 4 e,
      )

  -- ---- from access 5 on

  module _ (l : 5 ≤ n) where
    first : eqb n 1 ≡ false
    first = ne_eqb n 1 (λ q. omega arith)

    second : eqb n 2 ≡ false
    second = ne_eqb n 2 (λ q. omega arith)

    third : eqb n 3 ≡ false
    third = ne_eqb n 3 (λ q. omega arith)

    fourth : eqb n 4 ≡ false
    fourth = ne_eqb n 4 (λ q. omega arith)

    pub act-clear : n ≤ 8 → act_of n ≡ Zero true (0x80 + 2 * (n - 5))
    unfolding act_of
    act-clear h = simp (first, second, third, fourth, le-leb n 8 h)

    pub act-target : 8 < n → n ≤ 71 → act_of n ≡ Target (n - 8)
    unfolding act_of
    act-target a h = simp (first, second, third, fourth, lt-leb n 8 a, le-leb n 71 h)

  -- ---- from access 72 on: the rest of the table

  abbrev rest : Act
  rest =
      cond (leb n 75) (Save (0x80 + 2 * (n - 72)) (pending_at (n - 72)))
      (cond (leb n 79) (Save (0xC0 + 2 * (n - 76)) (enable_at (n - 76)))
      (cond (leb n 83) (Put Set (0x80 + 2 * (n - 80)) (pending_at (n - 80)))
      (cond (leb n 87) (Put Write (0xC0 + 2 * (n - 84)) (enable_at (n - 84)))
      (cond (eqb n 88) (Put Write 0x72 threshold_at) (Put Write 0x70 delivery_at)))))

  act-rest : 71 < n → act_of n ≡ rest
  unfolding act_of
  act-rest l =
      let late : 5 ≤ n = omega arith in
      simp (
        first late,
        second late,
        third late,
        fourth late,
        lt-leb n 8 (omega arith),
        lt-leb n 71 l,
      )

  pub act-pending : 71 < n → n ≤ 75 → act_of n ≡ Save (0x80 + 2 * (n - 72)) (pending_at (n - 72))
  act-pending l h = act-rest l ∙ simp (le-leb n 75 h)

  pub act-enable : 75 < n → n ≤ 79 → act_of n ≡ Save (0xC0 + 2 * (n - 76)) (enable_at (n - 76))
  act-enable l h = act-rest (omega arith) ∙ simp (lt-leb n 75 l, le-leb n 79 h)

  pub act-set : 79 < n → n ≤ 83 → act_of n ≡ Put Set (0x80 + 2 * (n - 80)) (pending_at (n - 80))
  act-set l h = act-rest (omega arith) ∙ simp (lt-leb n 75 (omega arith), lt-leb n 79 l, le-leb n 83 h)

  pub act-write : 83 < n → n ≤ 87 → act_of n ≡ Put Write (0xC0 + 2 * (n - 84)) (enable_at (n - 84))
  act-write l h =
      act-rest (omega arith)
      ∙ simp (lt-leb n 75 (omega arith), lt-leb n 79 (omega arith), lt-leb n 83 l, le-leb n 87 h)

  pub act-shut : n ≡ 88 → act_of n ≡ Put Write 0x72 threshold_at
  act-shut e =
      act-rest (omega arith)
      ∙ simp (
        lt-leb n 75 (omega arith),
        lt-leb n 79 (omega arith),
        lt-leb n 83 (omega arith),
        lt-leb n 87 (omega arith),
        eq-eqb n 88 e,
      )

  pub act-open : 88 < n → act_of n ≡ Put Write 0x70 delivery_at
  act-open l =
      act-rest (omega arith)
      ∙ simp (
        lt-leb n 75 (omega arith),
        lt-leb n 79 (omega arith),
        lt-leb n 83 (omega arith),
        lt-leb n 87 (omega arith),
        ne_eqb n 88 (λ q. omega arith),
      )
