-- Laws of specs/Direct.antt but for the search: topi, a claim, the signal and the settable numbers, case by
-- case. No contract cites this file. Assumes nothing.
use Prim.Native.Nat.{ℕ}
use mathlib.Core.Path.{◌≡◌}
use mathlib.Core.Bool.{Bool, true, false}
use mathlib.Core.Logic.{◌≢◌, inr}
use native.Mathlib.Omega.{arith}
use borrow.Author.Tests.{eq-eqb, ne_eqb}
use Rattle.words.proofs.TestsLaws.{tested, not_same}
use Rattle.domain_delivery.specs.declared.Delivery.{Delivery}
use Rattle.domain_delivery.specs.Delivery.{structure_signals}
use Rattle.domain_delivery.proofs.DeliveryLaws.{signals-iff}
use Rattle.domain.specs.Domain.{Domain, is_enabled, by_messages}
use Rattle.domain_topi.proofs.TopLaws.{top_source-lt}
use Rattle.domain_topi.proofs.WordLaws.{topi-messages, topi-direct}
use Rattle.domain.specs.Structure.{structure_at, with_structure}
use Rattle.domain_direct.specs.declared.Setting.{Setting}
use Rattle.domain_direct.specs.Direct.{top_source, topi_of, unforced, released, hart_claimed, signal_of}
use Rattle.domain_direct.specs.Direct.{number_at, written_at, setting_of, setting_written}

-- a structure that top 1 does not make signal is silent at every top
pub signals-silent : (x : Delivery) (e : Bool) (t : ℕ) → structure_signals x e 1 ≡ false
    → structure_signals x e t ≡ false
signals-silent x e t off =
    tested (structure_signals x e t)
    (λ on. let p = (signals-iff x e t).0 on in
    absurd (not_same (structure_signals x e 1) ((signals-iff x e 1).1 (p.0, p.1, inr (λ z. omega arith)))
    off))
    (λ f. f)

module _ (d : Domain) (h : ℕ) where
  pub claimed-messages : by_messages d ≡ true → hart_claimed d h ≡ d
  unfolding hart_claimed
  claimed-messages m = simp m

  pub claimed-none : by_messages d ≡ false → top_source d h ≡ 0 → hart_claimed d h ≡ unforced d h
  unfolding hart_claimed
  claimed-none m z = simp (m, eq-eqb (top_source d h) 0 z)

  pub claimed-some : by_messages d ≡ false → top_source d h ≢ 0 → hart_claimed d h ≡ released d
      (top_source d h)
  unfolding hart_claimed
  claimed-some m n = simp (m, ne_eqb (top_source d h) 0 n)

  pub signal-messages : by_messages d ≡ true → signal_of d h ≡ false
  unfolding signal_of
  signal-messages m = simp m

  pub signal-direct : by_messages d ≡ false
      → signal_of d h ≡ structure_signals (structure_at d h) (is_enabled d) (topi_of d h)
  unfolding signal_of
  signal-direct m = simp m

  module _ (g : Setting) where
    pub setting-messages : by_messages d ≡ true → setting_of d h g ≡ 0
    unfolding setting_of
    setting-messages m = simp m

    pub setting-direct : by_messages d ≡ false → setting_of d h g ≡ number_at (structure_at d h) g
    unfolding setting_of
    setting-direct m = simp m

    pub written-messages : (v : ℕ) → by_messages d ≡ true → setting_written d h g v ≡ d
    unfolding setting_written
    written-messages v m = simp m

    pub written-direct : (v : ℕ) → by_messages d ≡ false
        → setting_written d h g v ≡ with_structure d h (written_at (structure_at d h) g v)
    unfolding setting_written
    written-direct v m = simp m

-- for the signal, which tries top 1 first
pub ruleset silent = (signals-silent)

-- for a claim
pub ruleset claims = (top_source-lt, topi-messages, topi-direct)
