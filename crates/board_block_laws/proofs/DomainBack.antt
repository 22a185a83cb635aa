-- Both round trips between a domain, and the wired controller, and their words. No contract cites this file.
-- Assumes nothing.
use Prim.Native.Nat.{ℕ}
use mathlib.Core.Path.{◌≡◌, refl, ap, ◌∙◌}
use mathlib.Core.List.{List, [], ◌++◌, append_assoc, append-nil}
use native.Mathlib.Omega.{arith}
use lib.ListN.{length, take, drop, length-append}
use lib.Seq.{take_all, take-add, take_at, drop_at}
use Rattle.domain.specs.Domain.{Domain, domain_of}
use Rattle.domain.proofs.DomainLaws.{domain-path}
use Rattle.domain_laws.specs.Shape.{DomainShaped}
use Rattle.wired_state.specs.Wires.{Wired, wired_of}
use Rattle.wired_state.proofs.WiresLaws.{wired-path, machine-long, child-long}
use Rattle.board_block.specs.Block.{domain_words, wired_words}
use Rattle.sizes.specs.Sizes.{child_place, domain_size, wired_size}

-- the stretch of k words behind n others
pub stretch-at : (l xs ys zs : List ℕ) (n k : ℕ) → l ≡ xs ++ (ys ++ zs) → length xs ≡ n → length ys ≡ k
    → take k (drop n l) ≡ ys
stretch-at l xs ys zs n k e h g =
    ap (λ (r : List ℕ). take k (drop n r)) e ∙ ap (take k) (drop_at xs (ys ++ zs) n h) ∙ take_at ys zs k g

-- ---- a domain

pub domain-words-back : (l : List ℕ) → length l ≡ domain_size → domain_words (domain_of l) ≡ l
unfolding domain_words domain_of
domain-words-back l long =
    rw (← take-add 64 64 l, ← take-add 128 2 l, ← take-add 130 2 l, ← take-add 132 12 l)
    (take_all domain_size l (omega arith))

module _ (d : Domain) (shaped : DomainShaped d) where
  pub length-domain_words : length (domain_words d) ≡ domain_size
  unfolding domain_words
  length-domain_words = simp length-append (omega arith)

  pub domain-back : domain_of (domain_words d) ≡ d
  unfolding domain_words domain_of
  domain-back =
      let l = domain_words d in
      let s = d.source in
      let t = d.target in
      let p = d.pending in
      let e = d.enable in
      let x = d.delivery in
      domain-path (stretch-at l [] s (t ++ (p ++ (e ++ x))) 0 64 (simp append_assoc) refl shaped.sources)
      (stretch-at l s t (p ++ (e ++ x)) 64 64 (simp append_assoc) shaped.sources shaped.targets)
      (stretch-at l (s ++ t) p (e ++ x) 128 2 (simp append_assoc) (simp length-append (omega arith))
      shaped.pendings)
      (stretch-at l (s ++ t ++ p) e x 130 2 (simp append_assoc) (simp length-append (omega arith))
      shaped.enables)
      (stretch-at l (s ++ t ++ p ++ e) x [] 132 12 (simp append-nil) (simp length-append (omega arith))
      shaped.deliveries)

-- ---- the wired controller

pub wired-words-back : (l : List ℕ) → length l ≡ wired_size → wired_words (wired_of l) ≡ l
unfolding wired_words wired_of
wired-words-back l long =
    rw (
      domain-words-back (take domain_size (drop 2 l)) (machine-long l long),
      domain-words-back (take domain_size (drop child_place l)) (child-long l long),
      ← take-add 2 domain_size l,
      ← take-add child_place domain_size l,
    )
    (take_all wired_size l (omega arith))

module _ (w : Wired) (wires : length w.wires ≡ 2) (machine : DomainShaped w.machine)
    (child : DomainShaped w.child) where
  pub length-wired_words : length (wired_words w) ≡ wired_size
  unfolding wired_words
  length-wired_words =
      simp length-append
      (omega (arith, length-domain_words w.machine machine, length-domain_words w.child child))

  pub wired-back : wired_of (wired_words w) ≡ w
  unfolding wired_words wired_of
  wired-back =
      let ws = w.wires in
      let r = domain_words w.machine in
      let c = domain_words w.child in
      let two = length-domain_words w.machine machine in
      wired-path (stretch-at (wired_words w) [] ws (r ++ c) 0 2 (append_assoc ws r c) refl wires)
      (ap domain_of (stretch-at (wired_words w) ws r c 2 domain_size (append_assoc ws r c) wires two)
      ∙ domain-back w.machine machine)
      (ap domain_of (stretch-at (wired_words w) (ws ++ r) c [] child_place domain_size (simp append-nil)
      (simp length-append (omega arith)) (length-domain_words w.child child))
      ∙ domain-back w.child child)
