-- What a pass does: it clears the pending bits of the candidates and nothing else, sends a message for each,
-- lowest first, and leaves no candidate. No contract cites this file. Assumes nothing.
--   served-..    one turn: -same its own source, -other any other
--   from-..      the pass over some sources
--   sent-..      the pass of a domain
use Prim.Native.Nat.{ℕ, zero, suc, ◌+◌, ◌≤◌, ◌<◌}
use mathlib.Core.Path.{◌≡◌, refl, sym, ap, ap₂, ◌∙◌}
use mathlib.Core.Bool.{Bool, true, false, not, ◌&&◌, and-true, and-false}
use mathlib.Core.List.{List, ◌∷◌, ◌++◌, map}
use mathlib.Core.Logic.{◌≢◌}
use native.Mathlib.Omega.{arith}
use lib.ListN.{length, length-append}
use Rattle.words.specs.Sets.{member, remove, WordsFit}
use Rattle.words.proofs.SetsLaws.{member-remove-same, member-remove-other, length-remove, remove-fit}
use Rattle.words.proofs.TestsLaws.{tested, and_first, and_second, from_next}
use Rattle.source_mode.specs.Mode.{is_active}
use Rattle.source.specs.declared.Source.{Source}
use Rattle.source.specs.Pending.{with_pending}
use Rattle.domain.specs.Domain.{Domain, sends, with_pendings}
use Rattle.domain.specs.Slot.{source_at}
use Rattle.domain.proofs.SlotLaws.{source-path}
use Rattle.domain_laws.proofs.SetsBack.{member-within}
use Rattle.domain_laws.proofs.SlotEffects.{with_source-unpended}
use Rattle.domain_sending.specs.Sending.{candidate, Sent, sent_nothing, served_at, messages_at, sent_from}
use Rattle.domain_sending.specs.Sending.{sent}
use Rattle.domain_sending.proofs.SendingLaws.{served-hit, served-miss, messages-hit, messages-miss}
use Rattle.domain_sending.proofs.SendingLaws.{messages-le}
use Rattle.domain_sending.proofs.SendingLaws.{from-none, sent-on, sent-off}
use Rattle.domain_sending_laws.specs.Candidates.{numbers_from, those_with, candidates, message_at, spent}
use Rattle.domain_sending_laws.specs.Candidates.{DomainPendingOnly}

-- ---- a source after its turn

pub candidate-pending : (s : Source) → candidate s ≡ true → s.pending ≡ true
unfolding candidate
candidate-pending s e =
    and_second (is_active s.mode) s.pending (and_first (is_active s.mode && s.pending) s.enabled e)

pub unpended : (s : Source) → s.pending ≡ false → candidate s ≡ false
unfolding candidate
unpended s e = rw (e, and-false (is_active s.mode))

module _ (s : Source) where
  pub spent-hit : candidate s ≡ true → spent s ≡ with_pending s false
  unfolding spent
  spent-hit e = simp e

  pub spent-miss : candidate s ≡ false → spent s ≡ s
  unfolding spent
  spent-miss e = simp e

  pub spent-pending : (spent s).pending ≡ (s.pending && not (candidate s))
  spent-pending =
      tested (candidate s)
      (λ t. ap (λ (x : Source). x.pending) (spent-hit t) ∙ rw t (sym (and-false s.pending)))
      (λ f. ap (λ (x : Source). x.pending) (spent-miss f) ∙ rw f (sym (and-true s.pending)))

  pub spent-quiet : candidate (spent s) ≡ false
  spent-quiet =
      tested (candidate s) (λ t. ap candidate (spent-hit t) ∙ unpended (with_pending s false) refl)
      (λ f. ap candidate (spent-miss f) ∙ f)

-- ---- one turn

module _ (d : Domain) (i : ℕ) where
  abbrev less_one : Domain
  less_one = with_pendings d (remove d.pending i)

  served-less : candidate (source_at d i) ≡ true → served_at d i ≡ less_one
  served-less t = served-hit d i t ∙ with_source-unpended d i

  less-same : candidate (source_at d i) ≡ true → source_at less_one i ≡ with_pending (source_at d i) false
  unfolding source_at
  less-same t =
      let there = member-within d.pending i (candidate-pending (source_at d i) t) in
      source-path refl refl (member-remove-same d.pending i there) refl

  less_other : (j : ℕ) → j ≢ i → source_at less_one j ≡ source_at d j
  unfolding source_at
  less_other j n = source-path refl refl (member-remove-other d.pending i j n) refl

  served-same : source_at (served_at d i) i ≡ spent (source_at d i)
  served-same =
      let s = source_at d i in
      tested (candidate s)
      (λ t. ap (λ (x : Domain). source_at x i) (served-less t) ∙ less-same t ∙ sym (spent-hit s t))
      (λ f. ap (λ (x : Domain). source_at x i) (served-miss d i f) ∙ sym (spent-miss s f))

  served-other : (j : ℕ) → j ≢ i → source_at (served_at d i) j ≡ source_at d j
  served-other j n =
      tested (candidate (source_at d i))
      (λ t. ap (λ (x : Domain). source_at x j) (served-less t) ∙ less_other j n)
      (λ f. ap (λ (x : Domain). source_at x j) (served-miss d i f))

  served-rest : DomainPendingOnly d (served_at d i)
  served-rest =
      let same : DomainPendingOnly d d = record {
        source = refl;
        target = refl;
        enable = refl;
        delivery = refl;
      } in
      let less : DomainPendingOnly d less_one =
      record { source = refl; target = refl; enable = refl; delivery = refl } in
      tested (candidate (source_at d i)) (λ t. rw (served-less t) less) (λ f. rw (served-miss d i f) same)

  served-long : length (served_at d i).pending ≡ length d.pending
  served-long =
      tested (candidate (source_at d i)) (λ t. rw (served-less t) (length-remove d.pending i))
      (λ f. rw (served-miss d i f))

  served-fit : WordsFit d.pending → WordsFit (served_at d i).pending
  served-fit fit =
      tested (candidate (source_at d i)) (λ t. rw (served-less t) (remove-fit d.pending i fit))
      (λ f. rw (served-miss d i f) fit)

-- ---- the pass over n sources from i on

rest-joined : {d e f : Domain} → DomainPendingOnly d e → DomainPendingOnly e f → DomainPendingOnly d f
rest-joined p q =
    record {
      source = q.source ∙ p.source;
      target = q.target ∙ p.target;
      enable = q.enable ∙ p.enable;
      delivery = q.delivery ∙ p.delivery;
    }

pub from-rest : (c : Bool) (d : Domain) (i n : ℕ) → DomainPendingOnly d (sent_from c d i n).domain
unfolding sent_from
from-rest c d i zero = record { source = refl; target = refl; enable = refl; delivery = refl }
from-rest c d i (suc n) = rest-joined (served-rest d i) (from-rest c (served_at d i) (suc i) n)

module _ (c : Bool) where
  from-long : (d : Domain) (i n : ℕ) → length (sent_from c d i n).domain.pending ≡ length d.pending
  unfolding sent_from
  from-long d i zero = refl
  from-long d i (suc n) = from-long (served_at d i) (suc i) n ∙ served-long d i

  from-fit : (d : Domain) (i n : ℕ) → WordsFit d.pending → WordsFit (sent_from c d i n).domain.pending
  unfolding sent_from
  from-fit d i zero fit = fit
  from-fit d i (suc n) fit = from-fit (served_at d i) (suc i) n (served-fit d i fit)

  -- source j after the pass
  abbrev after : Domain → ℕ → ℕ → ℕ → Source
  after d i n j = source_at (sent_from c d i n).domain j

  from-other : (d : Domain) (i n j : ℕ) → ((k : ℕ) → i ≤ k → k < i + n → j ≢ k) → after d i n j
      ≡ source_at d j
  unfolding sent_from
  from-other d i zero j apart = refl
  from-other d i (suc n) j apart =
      from-other (served_at d i) (suc i) n j (λ k l h. apart k (omega arith) (omega arith))
      ∙ served-other d i j (apart i (omega arith) (omega arith))

  from-same : (d : Domain) (i n j : ℕ) → i ≤ j → j < i + n → after d i n j ≡ spent (source_at d j)
  unfolding sent_from
  from-same d i zero j l h = absurd (omega arith)
  from-same d i (suc n) j l h =
      let d' = served_at d i in
      let here = from-other d' (suc i) n i (λ k b q e. omega arith) ∙ served-same d i in
      from_next (λ (k : ℕ). k < i + suc n → after d' (suc i) n k ≡ spent (source_at d k)) i (λ q. here)
      (λ k b q. from-same d' (suc i) n k b (omega arith) ∙ ap spent (served-other d i k (λ e. omega arith)))
      j l h

pub from-count : (c : Bool) (d : Domain) (i n : ℕ) → length (sent_from c d i n).messages ≤ n
unfolding sent_from
from-count c d i zero = omega arith
from-count c d i (suc n) =
    let later = (sent_from c (served_at d i) (suc i) n).messages in
    omega (
      arith,
      length-append (messages_at c d i) later,
      messages-le c d i,
      from-count c (served_at d i) (suc i) n,
    )

-- ---- the messages, over the domain as it was before the pass

-- two domains with one source i send the same at its turn
messages-same : (c : Bool) (d e : Domain) (i : ℕ) → source_at e i ≡ source_at d i
    → messages_at c e i ≡ messages_at c d i
unfolding messages_at
messages-same c d e i q = rw q

-- the turn of one source takes its number, if it is a candidate, from the front
messages-front : (c : Bool) (d : Domain) (i : ℕ) (is : List ℕ)
    → messages_at c d i ++ map (message_at c d) (those_with (λ k. candidate (source_at d k)) is)
    ≡ map (message_at c d) (those_with (λ k. candidate (source_at d k)) (i ∷ is))
unfolding those_with
messages-front c d i is =
    tested (candidate (source_at d i)) (λ t. rw (messages-hit c d i t, t))
    (λ f. rw (messages-miss c d i f, f))

-- e is d after the turns before i: the sources from i on are those of d
pub from-messages-of : (c : Bool) (d e : Domain) (i n : ℕ) → ((j : ℕ) → i ≤ j → source_at e j ≡ source_at d j)
    → (sent_from c e i n).messages
    ≡ map (message_at c d) (those_with (λ k. candidate (source_at d k)) (numbers_from i n))
unfolding sent_from numbers_from
from-messages-of c d e i zero same = unfold those_with in refl
from-messages-of c d e i (suc n) same =
    ap₂ ◌++◌ (messages-same c d e i (same i (omega arith)))
    (from-messages-of c d (served_at e i) (suc i) n
    (λ j l. served-other e i j (λ q. omega arith) ∙ same j (omega arith)))
    ∙ messages-front c d i (numbers_from (suc i) n)

-- ---- the pass of a domain

module _ (c : Bool) (d : Domain) where
  -- nothing but pending bits changes
  pub sent-rest : DomainPendingOnly d (sent c d).domain
  sent-rest =
      tested (sends d) (λ t. rw (sent-on c d t) (from-rest c d 1 63))
      (λ f. rw (sent-off c d f) record { source = refl; target = refl; enable = refl; delivery = refl })

  -- and none of a source that is not there
  pub sent-other : (j : ℕ) → ((1 ≤ j) × (j < 64) → ⊥) → source_at (sent c d).domain j ≡ source_at d j
  sent-other j n =
      tested (sends d)
      (λ t. ap (λ (r : Sent). source_at r.domain j) (sent-on c d t)
      ∙ from-other c d 1 63 j (λ k l h e. n (omega arith, omega arith)))
      (λ f. ap (λ (r : Sent). source_at r.domain j) (sent-off c d f))

  -- the pending words are as many as before, of 32 bits each
  pub sent-long : length (sent c d).domain.pending ≡ length d.pending
  sent-long =
      tested (sends d) (λ t. rw (sent-on c d t) (from-long c d 1 63))
      (λ f. rw (sent-off c d f))

  pub sent-fit : WordsFit d.pending → WordsFit (sent c d).domain.pending
  sent-fit fit =
      tested (sends d) (λ t. rw (sent-on c d t) (from-fit c d 1 63 fit))
      (λ f. rw (sent-off c d f) fit)

  -- 63 log words suffice
  pub sent-count : length (sent c d).messages ≤ 63
  sent-count =
      tested (sends d) (λ t. rw (sent-on c d t) (from-count c d 1 63))
      (λ f. rw (sent-off c d f) (omega arith))

  pub sent-none : ((j : ℕ) → 1 ≤ j → j < 64 → candidate (source_at d j) ≡ false) → sent c d ≡ sent_nothing d
  sent-none none =
      tested (sends d)
      (λ t. sent-on c d t ∙ from-none c d 1 63 (λ j l h. none j l (omega arith))) (sent-off c d)

  module _ (on : sends d ≡ true) where
    -- each source after the pass
    pub sent-source : (j : ℕ) → 1 ≤ j → j < 64 → source_at (sent c d).domain j ≡ spent (source_at d j)
    sent-source j l h =
        ap (λ (r : Sent). source_at r.domain j) (sent-on c d on) ∙ from-same c d 1 63 j l (omega arith)

    -- no source is left to be sent
    pub sent-quiet : (j : ℕ) → 1 ≤ j → j < 64 → candidate (source_at (sent c d).domain j) ≡ false
    sent-quiet j l h = ap candidate (sent-source j l h) ∙ spent-quiet (source_at d j)

    -- a pending bit after the pass is the bit before, unless the source was sent
    pub sent-pending : (j : ℕ) → 1 ≤ j → j < 64
        → member (sent c d).domain.pending j ≡ (member d.pending j && not (candidate (source_at d j)))
    unfolding source_at
    sent-pending j l h =
        ap (λ (s : Source). s.pending) (sent-source j l h) ∙ spent-pending (source_at d j)

    -- the messages are those of the candidates, lowest first
    pub sent-messages : (sent c d).messages ≡ map (message_at c d) (candidates d)
    unfolding candidates
    sent-messages =
        ap (λ (r : Sent). r.messages) (sent-on c d on) ∙ from-messages-of c d d 1 63 (λ j l. refl)
