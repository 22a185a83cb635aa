-- Every read of a register of a domain keeps the rules of the domain, and leaves nothing new to send. No
-- contract cites this file. Assumes nothing.
use Prim.Native.Nat.{ℕ, ◌≤◌, ◌<◌}
use mathlib.Core.Path.{◌≡◌, ◌∙◌}
use mathlib.Core.Bool.{Bool, false}
use mathlib.Core.List.{List}
use native.Mathlib.Decide.{ℕ_discrete}
use native.Mathlib.Omega.{arith}
use Rattle.words.specs.Sets.{member}
use Rattle.words.proofs.TestsLaws.{tested}
use Rattle.domain_region.specs.declared.Word.{Word}
use Rattle.source.specs.Pending.{cleared}
use Rattle.domain_delivery.specs.Delivery.{without_force}
use Rattle.domain_delivery.proofs.DeliveryLaws.{force-keeps}
use Rattle.domain.specs.Domain.{Domain, by_messages}
use Rattle.domain.specs.Slot.{source_at}
use Rattle.domain.specs.Structure.{structure_at}
use Rattle.domain_laws.proofs.OwnEffects.{by_messages-with_source, by_messages-with_structure}
use Rattle.domain_direct.specs.Direct.{top_source, unforced, released, hart_claimed}
use Rattle.domain_topi.proofs.TopLaws.{top_source-lt}
use Rattle.domain_direct.proofs.DirectLaws as direct
use Rattle.domain_registers.specs.Read.{claimed_by}
use Rattle.domain_registers.proofs.ReadLaws.{claimed-cases}
use Rattle.source_laws.proofs.SteadyEffects.{steady-cleared}
use Rattle.wired_rules.specs.Rules.{structure_range}
use Rattle.wired_rules_laws.specs.Steady.{Steady, DomainKept, Quiet}
use Rattle.wired_rules_laws.proofs.ModeEffects.{cleared-mode}
use Rattle.wired_rules_laws.proofs.SteadyEffects.{kept-none, kept-with_source, kept-with_structure}
use Rattle.wired_rules_laws.proofs.QuietEffects.{quiet-direct}

module _ (c : Bool) (ws : List ℕ) (d : Domain) (s : Steady c ws d) where
  -- a claim in direct mode: iforce cleared, or a source released
  module _ (h : ℕ) (m : by_messages d ≡ false) where
    kept-unforced : DomainKept c ws d (unforced d h)
    unfolding unforced structure_range
    kept-unforced =
        kept-with_structure c ws d s h (without_force (structure_at d h))
        (λ l. force-keeps (structure_at d h) (s.structures h l))

    kept-released : (i : ℕ) → 1 ≤ i → i < 64 → DomainKept c ws d (released d i)
    unfolding released
    kept-released i a b =
        let x = source_at d i in
        let steady = steady-cleared c (by_messages d) (member ws i) x (s.source i a b) in
        kept-with_source c ws d s i (cleared x false) a b
        (rw m (rw m at steady)) (cleared-mode x false)

    kept-direct : DomainKept c ws d (hart_claimed d h)
    kept-direct = at (ℕ_discrete (top_source d h) 0)
      where
        at : Dec (top_source d h ≡ 0) → DomainKept c ws d (hart_claimed d h)
        at (yes z) = rw (direct.claimed-none d h m z) kept-unforced
        at (no n) =
            rw (direct.claimed-some d h m n)
            (kept-released (top_source d h) (omega (arith, n)) (top_source-lt d h))

  pub kept-claimed : (h : ℕ) → DomainKept c ws d (hart_claimed d h)
  kept-claimed h =
      tested (by_messages d) (λ t. rw (direct.claimed-messages d h t) (kept-none c ws d s)) (kept-direct h)

  pub kept-claimed_by : (r : Word) → DomainKept c ws d (claimed_by d r)
  kept-claimed_by r = claimed-cases d r (DomainKept c ws d) (kept-none c ws d s) kept-claimed

-- ---- nothing new to send: only a claim in direct mode changes anything, and such a domain sends nothing

module _ (d : Domain) (h : ℕ) (m : by_messages d ≡ false) where
  unforced-direct : by_messages (unforced d h) ≡ false
  unfolding unforced
  unforced-direct = by_messages-with_structure d h (without_force (structure_at d h)) ∙ m

  released-direct : (i : ℕ) → 1 ≤ i → by_messages (released d i) ≡ false
  unfolding released
  released-direct i l = by_messages-with_source d i (cleared (source_at d i) false) l ∙ m

  claimed-direct : by_messages (hart_claimed d h) ≡ false
  claimed-direct = at (ℕ_discrete (top_source d h) 0)
    where
      at : Dec (top_source d h ≡ 0) → by_messages (hart_claimed d h) ≡ false
      at (yes z) = rw (direct.claimed-none d h m z) unforced-direct
      at (no n) =
          rw (direct.claimed-some d h m n) (released-direct (top_source d h) (omega (arith, n)))

module _ (d : Domain) (q : Quiet d) where
  quiet-claimed : (h : ℕ) → Quiet (hart_claimed d h)
  quiet-claimed h =
      tested (by_messages d) (λ t. rw (direct.claimed-messages d h t) q)
      (λ f. quiet-direct (hart_claimed d h) (claimed-direct d h f))

  pub quiet-claimed_by : (r : Word) → Quiet (claimed_by d r)
  quiet-claimed_by r = claimed-cases d r Quiet q quiet-claimed
