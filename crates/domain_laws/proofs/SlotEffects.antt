-- A source put into a domain is read again, and the others and the delivery structures stay; putting back
-- what was read changes nothing. No contract cites this file. Assumes nothing.
use Prim.Native.Nat.{ℕ, ◌≤◌, ◌<◌}
use mathlib.Core.Path.{◌≡◌, refl, sym, ap}
use mathlib.Core.Bool.{Bool, false, ◌&&◌}
use mathlib.Core.List.{List}
use mathlib.Core.Logic.{◌≢◌}
use native.Mathlib.Omega.{arith}
use lib.ListN.{length, set, length-set, length-take}
use lib.Seq.{get_or-set_same, get_or-set_other, set-get_or}
use Rattle.words.specs.Sets.{member, remove, put}
use Rattle.words.proofs.SetsLaws.{member-put-same, member-put-other, length-put}
use Rattle.source.specs.declared.Source.{Source}
use Rattle.source.specs.Pending.{with_pending, with_enabled, with_target, candidate}
use Rattle.source.proofs.PendingLaws.{not-candidate}
use Rattle.domain.specs.Domain.{Domain, domain_of, with_targets, with_pendings, with_enables}
use Rattle.domain.specs.Slot.{source_at, with_source, standing}
use Rattle.domain.specs.Structure.{structure_at}
use Rattle.domain.proofs.DomainLaws.{domain-path}
use Rattle.words.proofs.SegmentLaws.{segment-long}
use Rattle.domain.proofs.SlotLaws.{source-path}
use Rattle.domain_laws.specs.Shape.{DomainShaped}
use Rattle.domain_laws.proofs.SetsBack.{put_back}
use Rattle.sizes.specs.Sizes.{domain_size}

-- a domain of 144 words has the lengths
pub domain_of-shaped : (l : List ℕ) → length l ≡ domain_size → DomainShaped (domain_of l)
unfolding domain_of
domain_of-shaped l h =
    record {
      sources = simp length-take (omega arith);
      targets = segment-long l 64 64 (omega arith);
      pendings = segment-long l 128 2 (omega arith);
      enables = segment-long l 130 2 (omega arith);
      deliveries = segment-long l 132 12 (omega arith);
    }

module _ (d : Domain) (i : ℕ) (s : Source) where
  pub source_at-with_source-same : DomainShaped d → i < 64 → source_at (with_source d i s) i ≡ s
  unfolding source_at with_source
  source_at-with_source-same shaped h =
      source-path (get_or-set_same d.source i s.mode 0 (omega arith))
      (get_or-set_same d.target i s.target 0 (omega arith))
      (member-put-same d.pending i s.pending (omega arith))
      (member-put-same d.enable i s.enabled (omega arith))

  pub source_at-with_source-other : (j : ℕ) → j ≢ i → source_at (with_source d i s) j ≡ source_at d j
  unfolding source_at with_source
  source_at-with_source-other j n =
      source-path (get_or-set_other d.source i j s.mode 0 n)
      (get_or-set_other d.target i j s.target 0 n)
      (member-put-other d.pending i s.pending j n) (member-put-other d.enable i s.enabled j n)

  pub standing-with_source-other : (j : ℕ) → j ≢ i → standing (with_source d i s) j ≡ standing d j
  unfolding standing
  standing-with_source-other j n =
      ap (λ (x : Source). x.pending && x.enabled) (source_at-with_source-other j n)

  pub structure_at-with_source : (h : ℕ) → structure_at (with_source d i s) h ≡ structure_at d h
  unfolding structure_at with_source
  structure_at-with_source h = refl

  pub shaped-with_source : DomainShaped d → DomainShaped (with_source d i s)
  unfolding with_source
  shaped-with_source shaped =
      record {
        sources = simp length-set shaped.sources;
        targets = simp length-set shaped.targets;
        pendings = simp length-put shaped.pendings;
        enables = simp length-put shaped.enables;
        deliveries = shaped.deliveries;
      }

  -- number 0, which is no source, is in the sets as before
  pub pending-zero-with_source : 1 ≤ i → member (with_source d i s).pending 0 ≡ member d.pending 0
  unfolding with_source
  pending-zero-with_source l = member-put-other d.pending i s.pending 0 (λ e. omega arith)

  pub enable-zero-with_source : 1 ≤ i → member (with_source d i s).enable 0 ≡ member d.enable 0
  unfolding with_source
  enable-zero-with_source l = member-put-other d.enable i s.enabled 0 (λ e. omega arith)

module _ (d : Domain) (i : ℕ) where
  -- a source that does not stand is not to be sent
  pub candidate-unstanding : standing d i ≡ false → candidate (source_at d i) ≡ false
  unfolding standing
  candidate-unstanding = not-candidate (source_at d i)

  -- putting back what was read changes nothing
  pub with_source-back : with_source d i (source_at d i) ≡ d
  unfolding source_at with_source
  with_source-back =
      domain-path (set-get_or d.source i 0) (set-get_or d.target i 0) (put_back d.pending i)
      (put_back d.enable i) refl

  -- a part stored alone is the source put with that part replaced
  pub with_source-target : (v : ℕ)
      → with_targets d (set d.target i v) ≡ with_source d i (with_target (source_at d i) v)
  unfolding source_at with_source
  with_source-target v =
      sym
      (domain-path (set-get_or d.source i 0) refl (put_back d.pending i) (put_back d.enable i) refl)

  pub with_source-pending : (b : Bool)
      → with_pendings d (put d.pending i b) ≡ with_source d i (with_pending (source_at d i) b)
  unfolding source_at with_source
  with_source-pending b =
      sym
      (domain-path (set-get_or d.source i 0) (set-get_or d.target i 0) refl (put_back d.enable i) refl)

  pub with_source-enabled : (b : Bool)
      → with_enables d (put d.enable i b) ≡ with_source d i (with_enabled (source_at d i) b)
  unfolding source_at with_source
  with_source-enabled b =
      sym
      (domain-path (set-get_or d.source i 0) (set-get_or d.target i 0) (put_back d.pending i) refl refl)

  -- the target, and then the pending bit
  pub with_source-target-pending : (v : ℕ) (b : Bool)
      → with_pendings (with_targets d (set d.target i v)) (put d.pending i b)
      ≡ with_source d i (with_pending (with_target (source_at d i) v) b)
  unfolding source_at with_source
  with_source-target-pending v b =
      sym (domain-path (set-get_or d.source i 0) refl refl (put_back d.enable i) refl)

  -- a source that lost its pending bit, and nothing else
  pub with_source-unpended : with_source d i (with_pending (source_at d i) false)
      ≡ with_pendings d (remove d.pending i)
  unfolding put
  with_source-unpended = sym (with_source-pending false)
