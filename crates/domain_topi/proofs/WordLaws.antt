-- Laws of topi's value in specs/Top.antt. No contract cites this file. Assumes nothing.
use Prim.Native.Nat.{ℕ, ◌+◌, ◌*◌}
use mathlib.Core.Path.{◌≡◌}
use mathlib.Core.Bool.{true, false, cond}
use mathlib.Core.Logic.{◌≢◌}
use lib.Dec.{eqb}
use borrow.Author.Tests.{eq-eqb, ne_eqb}
use Rattle.source_target.specs.Target.{number_of}
use Rattle.domain.specs.Domain.{Domain, by_messages}
use Rattle.domain.specs.Slot.{source_at}
use Rattle.domain_topi.specs.Top.{top_source, topi_of}

-- topi's value for source i, and 0 for no source
abbrev pub word_of : Domain → ℕ → ℕ
word_of d i = cond (eqb i 0) 0 (i * 65536 + number_of (source_at d i).target)

pub word_none : (d : Domain) (i : ℕ) → i ≡ 0 → word_of d i ≡ 0
word_none d i z = simp (eq-eqb i 0 z)

pub word_some : (d : Domain) (i : ℕ) → i ≢ 0 → word_of d i ≡ i * 65536 + number_of (source_at d i).target
word_some d i n = simp (ne_eqb i 0 n)

module _ (d : Domain) (h : ℕ) where
  pub topi-messages : by_messages d ≡ true → topi_of d h ≡ 0
  unfolding topi_of
  topi-messages m = simp m

  pub topi-direct : by_messages d ≡ false → topi_of d h ≡ word_of d (top_source d h)
  unfolding topi_of
  topi-direct m = simp m
