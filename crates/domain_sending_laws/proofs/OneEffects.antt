-- The pass of a domain in which one source at most is to be sent: its message is the only one, and every
-- other source stays. No contract cites this file. Assumes nothing.
use Prim.Native.Nat.{ℕ, zero, suc, ◌+◌, ◌≤◌, ◌<◌}
use mathlib.Core.Path.{◌≡◌, refl, ap, ◌∙◌}
use mathlib.Core.Bool.{Bool, true, false, cond}
use mathlib.Core.List.{List, [], ◌∷◌, map}
use mathlib.Core.Logic.{◌≢◌}
use native.Mathlib.Decide.{ℕ_discrete}
use native.Mathlib.Omega.{arith}
use Rattle.words.proofs.TestsLaws.{tested}
use Rattle.domain.specs.Domain.{Domain, sends}
use Rattle.domain.specs.Slot.{source_at}
use Rattle.domain_sending.specs.Sending.{candidate, Sent, sent, messages_at}
use Rattle.domain_sending.proofs.SendingLaws.{sent-off}
use Rattle.domain_sending_laws.specs.Candidates.{numbers_from, those_with, candidates, message_at}
use Rattle.domain_sending_laws.proofs.SendingEffects.{spent-miss, sent-source, sent-messages}

-- ---- the numbers of a stretch that a test holds of, where it holds of one at most

module _ (p : ℕ → Bool) where
  those-none : (k n : ℕ) → ((j : ℕ) → k ≤ j → j < k + n → p j ≡ false) → those_with p (numbers_from k n) ≡ []
  unfolding those_with numbers_from
  those-none k zero none = refl
  those-none k (suc n) none =
      rw (none k (omega arith) (omega arith))
      (those-none (suc k) n (λ j l h. none j (omega arith) (omega arith)))

  those-one : (i k n : ℕ) → k ≤ i → i < k + n → ((j : ℕ) → j ≢ i → k ≤ j → j < k + n → p j ≡ false)
      → those_with p (numbers_from k n) ≡ cond (p i) (i ∷ []) []
  unfolding those_with numbers_from
  those-one i k zero l h none = absurd (omega arith)
  those-one i k (suc n) l h none =
      at (ℕ_discrete k i)
      (λ d. those-one i (suc k) n (omega (arith, d)) (omega arith)
      (λ j m a b. none j m (omega arith) (omega arith)))
    where
      at : Dec (k ≡ i)
          → (k ≢ i → those_with p (numbers_from (suc k) n) ≡ cond (p i) (i ∷ []) [])
          → those_with p (numbers_from k (suc n)) ≡ cond (p i) (i ∷ []) []
      at (yes e) later =
          ap (λ (r : List ℕ). cond (p k) (k ∷ r) r)
          (those-none (suc k) n (λ j a b. none j (λ z. omega arith) (omega arith) (omega arith)))
          ∙ ap (λ (x : ℕ). cond (p x) (x ∷ []) []) e
      at (no d) later = rw (none k d (omega arith) (omega arith)) (later d)

-- ---- the pass

module _ (c : Bool) (d : Domain) (i : ℕ)
    (one : sends d ≡ true → (j : ℕ) → j ≢ i → 1 ≤ j → j < 64
    → candidate (source_at d j) ≡ false) where
  one-message : map (message_at c d) (cond (candidate (source_at d i)) (i ∷ []) []) ≡ messages_at c d i
  unfolding messages_at
  one-message = tested (candidate (source_at d i)) (λ t. rw t) (λ f. rw f)

  pub sent-one : 1 ≤ i → i < 64
      → (sent c d).messages ≡ cond (sends d) (messages_at c d i) []
  unfolding candidates
  sent-one l h =
      tested (sends d)
      (λ t. sent-messages c d t
      ∙ ap (map (message_at c d))
      (those-one (λ j. candidate (source_at d j)) i 1 63 l (omega arith)
      (λ j n a b. one t j n a (omega arith)))
      ∙ one-message ∙ rw t)
      (λ f. ap (λ (r : Sent). r.messages) (sent-off c d f) ∙ rw f)

  pub sent-one-other : (j : ℕ) → j ≢ i → 1 ≤ j → j < 64 → source_at (sent c d).domain j ≡ source_at d j
  sent-one-other j n l h =
      tested (sends d)
      (λ t. sent-source c d t j l h ∙ spent-miss (source_at d j) (one t j n l h))
      (λ f. ap (λ (r : Sent). source_at r.domain j) (sent-off c d f))
