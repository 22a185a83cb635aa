-- The pass as the code makes it: what holds before each source's turn. No contract cites this file. Assumes
-- nothing.
--   turn-hit                             the turn of a source that is to be sent
--   SoFar c d₀ l₀ d l i n                the pass over d₀, with the log l₀, has come to source i: the domain
--                                        is d, and the n messages sent stand first in the log l
--   Going c d₀ l₀ d l is n               the same, and is are the sources still to come that stand
--   going-start                          it holds at the start
--   going-head                           the next source, and the room for its message
--   going-next                           it holds after the turn of a source
--   going-end                            what it says if none is left
use Prim.Native.Nat.{ℕ, ◌+◌, ◌-◌, ◌≤◌, ◌<◌}
use mathlib.Core.Path.{◌≡◌, refl, sym, ap, ◌∙◌}
use mathlib.Core.Bool.{Bool, true, false}
use mathlib.Core.List.{List, [], ◌∷◌, ◌++◌, append_assoc, append-nil}
use mathlib.Core.Logic.{◌≢◌}
use native.Mathlib.Omega.{arith}
use lib.ListN.{length, take, drop, set, length-append, length-take}
use lib.Seq.{sets, sets-eq, length-sets, take_at, drop_at, drop-drop}
use Rattle.words.specs.Sets.{put}
use Rattle.words.proofs.TestsLaws.{tested}
use Rattle.words.specs.Bits.{has_bit}
use Rattle.words_masks.specs.Members.{listed}
use Rattle.words_masks.proofs.MembersLaws.{Head, listed-ext, listed-head, listed-end}
use Rattle.source_target.specs.Target.{message_of}
use Rattle.source.specs.declared.Source.{Source}
use Rattle.domain.specs.Domain.{Domain, with_pendings}
use Rattle.domain.specs.Slot.{source_at, standing}
use Rattle.domain_laws.proofs.SlotEffects.{standing-with_source-other, candidate-unstanding}
use Rattle.domain_laws.proofs.SlotEffects.{with_source-pending}
use Rattle.domain_sending.specs.Sending.{candidate, served_at, messages_at, sent_from, logged}
use Rattle.domain_sending.proofs.SendingLaws.{served-hit, served-miss, messages-hit}
use Rattle.domain_sending.proofs.SendingLaws.{messages-le, from_zero, from-domain, from-messages}
use Rattle.domain_sending.proofs.SendingLaws.{from-skip}
use Rattle.domain_sending.proofs.SendingLaws.{logged-count, logged-is}

-- ---- words stored from a place on

module _ (l ms : List ℕ) (n : ℕ) (h : n + length ms ≤ length l) where
  front_long : length (take n l ++ ms) ≡ n + length ms
  front_long = simp (length-append, length-take) (omega arith)

  take-sets : take (n + length ms) (sets l n ms) ≡ take n l ++ ms
  take-sets = ap (take (n + length ms)) (sets-eq ms l n h)
      ∙ take_at (take n l ++ ms) (drop (n + length ms) l) (n + length ms) front_long

  drop-sets : drop (n + length ms) (sets l n ms) ≡ drop (n + length ms) l
  drop-sets = ap (drop (n + length ms)) (sets-eq ms l n h)
      ∙ drop_at (take n l ++ ms) (drop (n + length ms) l) (n + length ms) front_long

-- ---- one turn, as the code makes it

module _ (c : Bool) (d : Domain) (l : List ℕ) (i n : ℕ) (s : Source) (e : s ≡ source_at d i) where
  abbrev Turned : Domain → List ℕ → ℕ → Type 0
  Turned d' l' n' =
      (d' ≡ served_at d i) × (l' ≡ sets l n (messages_at c d i)) × (n' ≡ n + length (messages_at c d i))

  pub turn-hit : candidate s ≡ true → (d' : Domain) (m : ℕ)
      → d' ≡ with_pendings d (put d.pending i false)
      → m ≡ message_of c s.target → Turned d' (set l n m) (n + 1)
  turn-hit t d' m ed em =
      let hit = ap candidate (sym e) ∙ t in (
        ed ∙ with_source-pending d i false ∙ sym (served-hit d i hit),
        rw (messages-hit c d i hit) (ap (set l n) (em ∙ ap (λ (x : Source). message_of c x.target) e)),
        omega (arith, ap length (messages-hit c d i hit)),
      )

-- the turn of a source leaves which others stand
standing-served : (d : Domain) (i j : ℕ) → j ≢ i → standing d j ≡ standing (served_at d i) j
standing-served d i j n =
    tested (candidate (source_at d i))
    (λ t. sym (ap (λ (e : Domain). standing e j) (served-hit d i t) ∙ standing-with_source-other d i _ j n))
    (λ f. sym (ap (λ (e : Domain). standing e j) (served-miss d i f)))

-- ---- one turn, as the code counts

module _ (c : Bool) (d : Domain) (i : ℕ) (h : i < 64) where
  turn-domain : (sent_from c d i (64 - i)).domain ≡
      (sent_from c (served_at d i) (i + 1) (64 - (i + 1))).domain
  turn-domain =
      ap (λ (k : ℕ). (sent_from c d i k).domain) (omega arith) ∙ from-domain c d i (64 - (i + 1))
      ∙ ap (λ (k : ℕ). (sent_from c (served_at d i) k (64 - (i + 1))).domain) (omega arith)

  turn-messages : (sent_from c d i (64 - i)).messages
      ≡ messages_at c d i ++ (sent_from c (served_at d i) (i + 1) (64 - (i + 1))).messages
  turn-messages =
      ap (λ (k : ℕ). (sent_from c d i k).messages) (omega arith) ∙ from-messages c d i (64 - (i + 1))
      ∙ ap (λ (k : ℕ). messages_at c d i ++ (sent_from c (served_at d i) k (64 - (i + 1))).messages)
      (omega arith)

-- sources that are not to be sent, as the code counts
skipped : (c : Bool) (d : Domain) (i k : ℕ) → i ≤ k → k ≤ 64
    → ((j : ℕ) → i ≤ j → j < k → standing d j ≡ false)
    → sent_from c d i (64 - i) ≡ sent_from c d k (64 - k)
skipped c d i k lo hi none =
    ap (sent_from c d i) (omega arith) ∙ from-skip c d i (k - i) (64 - k)
    (λ j l h. candidate-unstanding d j (none j l (omega arith)))
    ∙ ap (λ (j : ℕ). sent_from c d j (64 - k)) (omega arith)

-- ---- the pass

pub record SoFar (c : Bool) (d₀ : Domain) (l₀ : List ℕ) (d : Domain) (l : List ℕ) (i n : ℕ) : Type 0 where
  pub low : 1 ≤ i
  pub high : i ≤ 64
  pub fewer : n < i
  pub long : length l ≡ 63
  pub domains : (sent_from c d₀ 1 63).domain ≡ (sent_from c d i (64 - i)).domain
  pub messages : (sent_from c d₀ 1 63).messages ≡ take n l ++ (sent_from c d i (64 - i)).messages
  pub behind : drop n l ≡ drop n l₀

pass-start : (c : Bool) (d : Domain) (l : List ℕ) → length l ≡ 63 → SoFar c d l d l 1 0
pass-start c d l e =
    record {
      low = omega arith;
      high = omega arith;
      fewer = omega arith;
      long = e;
      domains = refl;
      messages = refl;
      behind = refl;
    }

-- past sources that are not to be sent
skip : (c : Bool) (d₀ : Domain) (l₀ : List ℕ) (d : Domain) (l : List ℕ) (i n : ℕ) → SoFar c d₀ l₀ d l i n
    → (k : ℕ) → i ≤ k → k ≤ 64 → ((j : ℕ) → i ≤ j → j < k → standing d j ≡ false)
    → SoFar c d₀ l₀ d l k n
skip c d₀ l₀ d l i n s k lo hi none =
    let same = skipped c d i k lo hi none in
    record {
      low = omega arith;
      high = hi;
      fewer = omega arith;
      long = s.long;
      domains = s.domains ∙ ap (λ r. r.domain) same;
      messages = s.messages ∙ ap (λ r. take n l ++ r.messages) same;
      behind = s.behind;
    }

module _ (c : Bool) (d₀ : Domain) (l₀ : List ℕ) (d : Domain) (l : List ℕ) (i n : ℕ)
    (s : SoFar c d₀ l₀ d l i n) where
  abbrev ms : List ℕ
  ms = messages_at c d i

  next : i < 64 → SoFar c d₀ l₀ (served_at d i) (sets l n ms) (i + 1) (n + length ms)
  next h =
      let fits : n + length ms ≤ length l = omega (arith, messages-le c d i) in
      let later = (sent_from c (served_at d i) (i + 1) (64 - (i + 1))).messages in
      record {
        low = omega arith;
        high = omega arith;
        fewer = omega (arith, messages-le c d i);
        long = length-sets l n ms ∙ s.long;
        domains = s.domains ∙ turn-domain c d i h;
        messages =
            s.messages ∙ ap (λ (r : List ℕ). take n l ++ r) (turn-messages c d i h)
            ∙ sym (append_assoc (take n l) ms later)
            ∙ ap (λ (r : List ℕ). r ++ later) (sym (take-sets l ms n fits));
        behind =
            drop-sets l ms n fits ∙ sym (drop-drop (length ms) n l) ∙ ap (drop (length ms)) s.behind
            ∙ drop-drop (length ms) n l₀;
      }

-- the pass has come to the end
module _ (c : Bool) (d₀ : Domain) (l₀ : List ℕ) (d : Domain) (l : List ℕ) (n : ℕ)
    (s : SoFar c d₀ l₀ d l 64 n) where
  abbrev all : List ℕ
  all = (sent_from c d₀ 1 63).messages

  front : take n l ≡ all
  front =
      sym (s.messages ∙ ap (λ r. take n l ++ r.messages) (from_zero c d 64) ∙ append-nil (take n l))

  last : d ≡ (sent_from c d₀ 1 63).domain
  last = sym (s.domains ∙ ap (λ r. r.domain) (from_zero c d 64))

  end : (d ≡ (sent_from c d₀ 1 63).domain) × (l ≡ logged l₀ all) × (n ≡ length all)
  end =
      let fits : n ≤ length l = omega arith in
      (last, logged-is l₀ l all n fits front s.behind, logged-count l₀ l all n fits front)

module _ (c : Bool) (d₀ : Domain) (l₀ : List ℕ) (d : Domain) (l : List ℕ) (i n : ℕ)
    (s : SoFar c d₀ l₀ d l i n) where
  pass-next : (k : ℕ) → i ≤ k → k < 64
      → ((j : ℕ) → i ≤ j → j < k → standing d j ≡ false)
      → (d' : Domain) (l' : List ℕ) (n' : ℕ) → d' ≡ served_at d k → l' ≡ sets l n (messages_at c d k)
      → n' ≡ n + length (messages_at c d k) → SoFar c d₀ l₀ d' l' (k + 1) n'
  pass-next k lo hi none d' l' n' ed el en =
      rw (ed, el, en) (next c d₀ l₀ d l k n (skip c d₀ l₀ d l i n s k lo (omega arith) none) hi)

  pass-end : ((j : ℕ) → i ≤ j → j < 64 → standing d j ≡ false)
      → (d ≡ (sent_from c d₀ 1 63).domain) × (l ≡ logged l₀ (sent_from c d₀ 1 63).messages)
      × (n ≡ length (sent_from c d₀ 1 63).messages)
  pass-end none = end c d₀ l₀ d l n (skip c d₀ l₀ d l i n s 64 s.high (omega arith) none)

-- ---- the pass from one source that stands to the next

pub record Going (c : Bool) (d₀ : Domain) (l₀ : List ℕ) (d : Domain) (l is : List ℕ) (n : ℕ) : Type 0 where
  pub from : ℕ
  pub passed : SoFar c d₀ l₀ d l from n
  pub left : is ≡ listed (standing d) from (64 - from)

pub going-start : (c : Bool) (d : Domain) (l is : List ℕ) (set : ℕ) → length l ≡ 63
    → ((j : ℕ) → j < 64 → has_bit set j ≡ standing d j) → is ≡ listed (has_bit set) 1 63
    → Going c d l d l is 0
going-start c d l is set long bits e =
    record {
      from = 1;
      passed = pass-start c d l long;
      left = e ∙ listed-ext (has_bit set) (standing d) 1 63 (λ j l m. bits j (omega arith));
    }

module _ {c : Bool} {d₀ : Domain} {l₀ : List ℕ} {d : Domain} {l is : List ℕ} {n : ℕ}
    (g : Going c d₀ l₀ d l is n) where
  pub going-end : is ≡ [] → (d ≡ (sent_from c d₀ 1 63).domain)
      × (l ≡ logged l₀ (sent_from c d₀ 1 63).messages) × (n ≡ length (sent_from c d₀ 1 63).messages)
  going-end none =
      pass-end c d₀ l₀ d l g.from n g.passed
      (λ j a b. listed-end (standing d) g.from (64 - g.from) (sym g.left ∙ none) j a
      (omega (arith, g.passed.high)))

  module _ {i : ℕ} {rest : List ℕ} (e : is ≡ i ∷ rest) where
    head : Head (standing d) g.from (g.from + (64 - g.from)) i rest
    head = listed-head (standing d) g.from (64 - g.from) i rest (sym g.left ∙ e)

    pub going-head : (i < 64) × (n < 63)
    going-head = (
      omega (arith, head.high, g.passed.high),
      omega (arith, head.high, head.low, g.passed.high, g.passed.fewer),
    )

    pub going-next : (d' : Domain) (l' : List ℕ) (n' : ℕ) → d' ≡ served_at d i
        → l' ≡ sets l n (messages_at c d i) → n' ≡ n + length (messages_at c d i)
        → Going c d₀ l₀ d' l' rest n'
    going-next d' l' n' ed el en =
        record {
          from = i + 1;
          passed =
              pass-next c d₀ l₀ d l g.from n g.passed i head.low going-head.0 head.passed
              d' l' n' ed el en;
          left =
              head.others ∙ ap (listed (standing d) (i + 1)) (omega (arith, g.passed.high))
              ∙ listed-ext (standing d) (standing d') (i + 1) (64 - (i + 1))
              (λ j a b. standing-served d i j (λ q. omega arith)
              ∙ ap (λ (x : Domain). standing x j) (sym ed));
        }
