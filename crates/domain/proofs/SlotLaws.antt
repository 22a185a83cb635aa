-- Laws of specs/Slot.antt: what the code reads is the source, what it stores is the domain with the source
-- replaced; a source stored is read again, and the others stay. No contract cites this file. Assumes nothing.
use Prim.Native.Nat.{ℕ, ◌+◌, ◌/◌, ◌%◌, ◌^◌, ◌<◌}
use mathlib.Core.Path.{◌≡◌, refl, ap, ap₂, ◌∙◌}
use mathlib.Core.Bool.{Bool, ◌&&◌}
use mathlib.Core.List.{List}
use native.Mathlib.Omega.{arith}
use lib.Bits.{bit_and}
use lib.ListN.{get_or, set}
use Rattle.words.specs.Bits.{has_bit, put_bit}
use Rattle.words.specs.Parts.{joined}
use Rattle.words.specs.Sets.{put}
use Rattle.words.proofs.BitsLaws.{has_bit-and}
use Rattle.words.proofs.PartsLaws.{has_bit-joined}
use Rattle.words.proofs.SetsLaws.{member-word, put_word}
use Rattle.source.specs.declared.Source.{Source}
use Rattle.domain.specs.Domain.{Domain, domain_of, with_targets, with_pendings, with_enables}
use Rattle.domain.specs.Slot.{source_at, with_source, standing}
use Rattle.domain.proofs.DomainLaws.{domain-path, store-source, store-target, store-pending}
use Rattle.domain.proofs.DomainLaws.{store-enable}
use Rattle.domain.proofs.DomainLaws.{read-source, read-target, read-pending, read-enable}

-- two sources are equal if their parts are
pub source-path : {s t : Source} → s.mode ≡ t.mode → s.target ≡ t.target → s.pending ≡ t.pending
    → s.enabled ≡ t.enabled → s ≡ t
source-path m t p e = λ k. record { mode = m k; target = t k; pending = p k; enabled = e k }

-- a source's bits in the words of its domain
pub pending-word : (d : Domain) (i : ℕ)
    → has_bit (get_or d.pending (i / 32) 0) (i % 32) ≡ (source_at d i).pending
unfolding source_at
pending-word d i = member-word d.pending i

pub enable-word : (d : Domain) (i : ℕ)
    → has_bit (get_or d.enable (i / 32) 0) (i % 32) ≡ (source_at d i).enabled
unfolding source_at
enable-word d i = member-word d.enable i

-- ---- what the code reads and stores

module _ (l : List ℕ) (i : ℕ) (h : i < 64) where
  pub bit-pending : has_bit (get_or l (128 + i / 32) 0) (i % 32) ≡ (source_at (domain_of l) i).pending
  unfolding source_at
  bit-pending =
      ap (λ (w : ℕ). has_bit w (i % 32)) (read-pending l (i / 32) (omega arith))
      ∙ member-word (domain_of l).pending i

  pub bit-enabled : has_bit (get_or l (130 + i / 32) 0) (i % 32) ≡ (source_at (domain_of l) i).enabled
  unfolding source_at
  bit-enabled =
      ap (λ (w : ℕ). has_bit w (i % 32)) (read-enable l (i / 32) (omega arith))
      ∙ member-word (domain_of l).enable i

  pub slot_read : (p e : Bool) → p ≡ (source_at (domain_of l) i).pending → e ≡
      (source_at (domain_of l) i).enabled
      → record { mode = get_or l i 0; target = get_or l (64 + i) 0; pending = p; enabled = e } ≡ source_at
      (domain_of l) i
  unfolding source_at
  slot_read p e hp he = source-path (read-source l i h) (read-target l i h) hp he

  -- ---- one part stored alone, and the four of them

  pub pending-stored : (w : ℕ) (b : Bool) → w ≡ put_bit (get_or l (128 + i / 32) 0) (i % 32) b
      → domain_of (set l (128 + i / 32) w) ≡ with_pendings (domain_of l) (put (domain_of l).pending i b)
  pending-stored w b e =
      let d = domain_of l in
      let word = e ∙ ap (λ (x : ℕ). put_bit x (i % 32) b) (read-pending l (i / 32) (omega arith)) in
      store-pending l (i / 32) w (omega arith)
      ∙ ap (with_pendings d) (ap (set d.pending (i / 32)) word ∙ put_word d.pending i b)

  pub enabled-stored : (w : ℕ) (b : Bool) → w ≡ put_bit (get_or l (130 + i / 32) 0) (i % 32) b
      → domain_of (set l (130 + i / 32) w) ≡ with_enables (domain_of l) (put (domain_of l).enable i b)
  enabled-stored w b e =
      let d = domain_of l in
      let word = e ∙ ap (λ (x : ℕ). put_bit x (i % 32) b) (read-enable l (i / 32) (omega arith)) in
      store-enable l (i / 32) w (omega arith)
      ∙ ap (with_enables d) (ap (set d.enable (i / 32)) word ∙ put_word d.enable i b)

  module _ (s : Source) (p e : ℕ) where
    abbrev stored : List ℕ
    stored = set (set (set (set l i s.mode) (64 + i) s.target) (128 + i / 32) p) (130 + i / 32) e

    four-stores : domain_of stored
        ≡ record {
          source = set (domain_of l).source i s.mode;
          target = set (domain_of l).target i s.target;
          pending = set (domain_of l).pending (i / 32) p;
          enable = set (domain_of l).enable (i / 32) e;
          delivery = (domain_of l).delivery;
        }
    four-stores =
        let first = set l i s.mode in
        let second = set first (64 + i) s.target in
        let third = set second (128 + i / 32) p in
        store-enable third (i / 32) e (omega arith)
        ∙ ap (λ (d : Domain). with_enables d (set d.enable (i / 32) e))
        (store-pending second (i / 32) p (omega arith)
        ∙ ap (λ (d : Domain). with_pendings d (set d.pending (i / 32) p))
        (store-target first i s.target h
        ∙ ap (λ (d : Domain). with_targets d (set d.target i s.target))
        (store-source l i s.mode h)))

    pub slot-stored : p ≡ put_bit (get_or l (128 + i / 32) 0) (i % 32) s.pending
        → e ≡ put_bit (get_or l (130 + i / 32) 0) (i % 32) s.enabled
        → domain_of stored ≡ with_source (domain_of l) i s
    unfolding with_source
    slot-stored hp he =
        let d = domain_of l in
        let pending = hp
        ∙ ap (λ (w : ℕ). put_bit w (i % 32) s.pending) (read-pending l (i / 32) (omega arith)) in
        let enable = he
        ∙ ap (λ (w : ℕ). put_bit w (i % 32) s.enabled) (read-enable l (i / 32) (omega arith)) in
        four-stores
        ∙ domain-path refl refl (ap (set d.pending (i / 32)) pending
        ∙ put_word d.pending i s.pending)
        (ap (set d.enable (i / 32)) enable ∙ put_word d.enable i s.enabled) refl

-- ---- the sources that are pending and enabled

-- of the words as the code read them
pub standing-bit : (d : Domain) (i : ℕ) → get_or d.pending 0 0 < 2 ^ 32
    → get_or d.enable 0 0 < 2 ^ 32 → i < 64
    → has_bit (bit_and (joined (get_or d.pending 0 0) (get_or d.pending 1 0))
    (joined (get_or d.enable 0 0) (get_or d.enable 1 0))) i ≡ standing d i
unfolding standing
standing-bit d i p e h =
    has_bit-and (joined (get_or d.pending 0 0) (get_or d.pending 1 0))
    (joined (get_or d.enable 0 0) (get_or d.enable 1 0)) i
    ∙ ap₂ ◌&&◌ (has_bit-joined (λ (k : ℕ). get_or d.pending k 0) p i h ∙ pending-word d i)
    (has_bit-joined (λ (k : ℕ). get_or d.enable k 0) e i h ∙ enable-word d i)
