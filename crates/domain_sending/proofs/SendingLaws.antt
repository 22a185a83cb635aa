-- Laws of specs/Sending.antt: one source's turn, the pass step by step, and a pass with nothing to send. No
-- contract cites this file. Assumes nothing.
use Prim.Native.Nat.{ℕ, zero, suc, ◌+◌, ◌≤◌, ◌<◌}
use mathlib.Core.Path.{◌≡◌, refl, sym, ap, ap₂, ◌∙◌}
use mathlib.Core.Bool.{Bool, true, false}
use mathlib.Core.List.{List, [], ◌∷◌, ◌++◌}
use native.Mathlib.Omega.{arith}
use lib.ListN.{length, take, drop, set, take-append-drop}
use lib.Seq.{length-take-le}
use Rattle.words.proofs.TestsLaws.{tested}
use Rattle.source_target.specs.Target.{message_of}
use Rattle.source.specs.Pending.{with_pending}
use Rattle.domain.specs.Domain.{Domain, sends}
use Rattle.domain.specs.Slot.{source_at, with_source}
use Rattle.domain_sending.specs.Sending.{candidate, sent_nothing, served_at, messages_at, sent_from}
use Rattle.domain_sending.specs.Sending.{sent}
use Rattle.domain_sending.specs.Sending.{logged}

-- ---- the turn of one source

module _ (d : Domain) (i : ℕ) where
  pub served-hit : candidate (source_at d i) ≡ true
      → served_at d i ≡ with_source d i (with_pending (source_at d i) false)
  unfolding served_at
  served-hit e = simp e

  pub served-miss : candidate (source_at d i) ≡ false → served_at d i ≡ d
  unfolding served_at
  served-miss e = simp e

module _ (c : Bool) (d : Domain) (i : ℕ) where
  pub messages-hit : candidate (source_at d i) ≡ true
      → messages_at c d i ≡ message_of c (source_at d i).target ∷ []
  unfolding messages_at
  messages-hit e = simp e

  pub messages-miss : candidate (source_at d i) ≡ false → messages_at c d i ≡ []
  unfolding messages_at
  messages-miss e = simp e

  pub messages-le : length (messages_at c d i) ≤ 1
  messages-le =
      tested (candidate (source_at d i)) (λ t. omega (arith, ap length (messages-hit t)))
      (λ f. omega (arith, ap length (messages-miss f)))

-- ---- the pass

module _ (c : Bool) (d : Domain) (i : ℕ) where
  pub from_zero : sent_from c d i 0 ≡ sent_nothing d
  unfolding sent_from
  from_zero = refl

  pub from-domain : (n : ℕ) → (sent_from c d i (suc n)).domain ≡
      (sent_from c (served_at d i) (suc i) n).domain
  unfolding sent_from
  from-domain n = refl

  pub from-messages : (n : ℕ)
      → (sent_from c d i (suc n)).messages ≡ messages_at c d i ++
      (sent_from c (served_at d i) (suc i) n).messages
  unfolding sent_from
  from-messages n = refl

  from-miss : (n : ℕ) → candidate (source_at d i) ≡ false → sent_from c d i (suc n) ≡ sent_from c d (suc i) n
  unfolding sent_from
  from-miss n miss = simp (served-miss d i miss, messages-miss c d i miss)

-- sources that are not to be sent are passed over
pub from-skip : (c : Bool) (d : Domain) (i m n : ℕ)
    → ((j : ℕ) → i ≤ j → j < i + m → candidate (source_at d j) ≡ false)
    → sent_from c d i (m + n) ≡ sent_from c d (i + m) n
from-skip c d i zero n none = ap₂ (sent_from c d) (omega arith) (omega arith)
from-skip c d i (suc m) n none =
    let miss = none i (omega arith) (omega arith) in
    ap (sent_from c d i) (omega arith) ∙ from-miss c d i (m + n) miss
    ∙ from-skip c d (suc i) m n (λ j l h. none j (omega arith) (omega arith))
    ∙ ap (λ (k : ℕ). sent_from c d k n) (omega arith)

-- a pass that meets no candidate changes nothing and sends nothing
pub from-none : (c : Bool) (d : Domain) (i n : ℕ)
    → ((j : ℕ) → i ≤ j → j < i + n → candidate (source_at d j) ≡ false) → sent_from c d i n ≡ sent_nothing d
from-none c d i n none =
    ap (sent_from c d i) (omega arith) ∙ from-skip c d i n 0 none ∙ from_zero c d (i + n)

-- ---- the pass of a domain that sends, and of one that does not

module _ (c : Bool) (d : Domain) where
  pub sent-on : sends d ≡ true → sent c d ≡ sent_from c d 1 63
  unfolding sent
  sent-on e = simp e

  pub sent-off : sends d ≡ false → sent c d ≡ sent_nothing d
  unfolding sent
  sent-off e = simp e

-- ---- the log

pub logged_none : (l : List ℕ) → logged l [] ≡ l
unfolding logged
logged_none l = refl

pub logged-one : (l : List ℕ) → length l ≡ 63 → (x : ℕ) → set l 0 x ≡ logged l (x ∷ [])
unfolding logged
logged-one [] h x = absurd (omega (arith, h))
logged-one (y ∷ l) h x = refl

-- a log whose first n words are the messages, and which is as before behind them
module _ (l₀ l ms : List ℕ) (n : ℕ) (h : n ≤ length l) (front : take n l ≡ ms) where
  pub logged-count : n ≡ length ms
  logged-count = sym (length-take-le n l h) ∙ ap length front

  pub logged-is : drop n l ≡ drop n l₀ → l ≡ logged l₀ ms
  unfolding logged
  logged-is behind =
      sym (take-append-drop n l) ∙ ap₂ ◌++◌ front (behind ∙ ap (λ (k : ℕ). drop k l₀) logged-count)
