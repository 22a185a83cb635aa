-- Laws of specs/Select.antt, by the ranges of a select number. No contract cites this file. Assumes nothing.
use Prim.Native.Nat.{ℕ, ◌-◌, ◌/◌, ◌%◌, ◌≤◌, ◌<◌}
use mathlib.Core.Path.{◌≡◌}
use mathlib.Core.Bool.{true, false, not}
use native.Mathlib.Omega.{arith}
use lib.Dec.{eqb}
use borrow.Author.Tests.{lt-ltb, le-ltb, le-leb, lt-leb, eq-eqb, ne_eqb}
use Rattle.file_select.specs.declared.Register.{Register}
use Rattle.file_select.specs.declared.Register.TheVariants.{Delivery, Threshold, Pending, Enable}
use Rattle.file_select.specs.declared.Register.TheVariants.{Unused}
use Rattle.file_select.specs.Select.{select_legal, register_of, registers_from}

module _ (s : ℕ) where
  pub legal-below : s < 0x70 → select_legal s ≡ false
  unfolding select_legal
  legal-below h = simp (lt-leb 0x70 s h)

  pub legal-above : 0xFF < s → select_legal s ≡ false
  unfolding select_legal
  legal-above h = simp (le-leb 0x70 s (omega arith), lt-leb s 0xFF h)

  pub legal-named : 0x70 ≤ s → s < 0x80 → select_legal s ≡ true
  unfolding select_legal
  legal-named l h = simp (le-leb 0x70 s l, le-leb s 0xFF (omega arith), lt-leb 0x80 s h)

  pub legal-words : 0x80 ≤ s → s ≤ 0xFF → select_legal s ≡ not (eqb (s % 2) 1)
  unfolding select_legal
  legal-words l h = simp (le-leb 0x70 s (omega arith), le-leb s 0xFF h, le-leb 0x80 s l)

-- the words from base on: those that a file of n identities has, and the rest
module _ (n base : ℕ) (r : ℕ → Register) (s : ℕ) where
  pub words-there : (s - base) / 2 ≤ n / 64 → registers_from n base r s ≡ r ((s - base) / 2)
  unfolding registers_from
  words-there h = simp (le-leb ((s - base) / 2) (n / 64) h)

  pub words-past : n / 64 < (s - base) / 2 → registers_from n base r s ≡ Unused
  unfolding registers_from
  words-past h = simp (lt-leb ((s - base) / 2) (n / 64) h)

module _ (n s : ℕ) where
  pub register-delivery : s ≡ 0x70 → register_of n s ≡ Delivery
  unfolding register_of
  register-delivery e = simp (eq-eqb s 0x70 e)

  pub register-threshold : s ≡ 0x72 → register_of n s ≡ Threshold
  unfolding register_of
  register-threshold e = simp (ne_eqb s 0x70 (λ q. omega arith), eq-eqb s 0x72 e)

  pub register-named : (s ≡ 0x70 → ⊥) → (s ≡ 0x72 → ⊥) → s < 0x80 → register_of n s ≡ Unused
  unfolding register_of
  register-named a b h = simp (ne_eqb s 0x70 a, ne_eqb s 0x72 b, lt-ltb s 0x80 h)

  pub register-pending : 0x80 ≤ s → s < 0xC0 → register_of n s ≡ registers_from n 0x80 Pending s
  unfolding register_of
  register-pending l h =
      simp (
        ne_eqb s 0x70 (λ q. omega arith),
        ne_eqb s 0x72 (λ q. omega arith),
        le-ltb s 0x80 l,
        lt-ltb s 0xC0 h,
      )

  pub register-enable : 0xC0 ≤ s → register_of n s ≡ registers_from n 0xC0 Enable s
  unfolding register_of
  register-enable l =
      simp (
        ne_eqb s 0x70 (λ q. omega arith),
        ne_eqb s 0x72 (λ q. omega arith),
        le-ltb s 0x80 (omega arith),
        le-ltb s 0xC0 l,
      )
