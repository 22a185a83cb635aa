-- Laws of specs/Wires.antt: a domain's part lent and put back is that domain replaced. No contract cites this
-- file.
-- Assumes nothing.
use Prim.Native.Nat.{ℕ, ◌+◌, ◌/◌, ◌%◌, ◌≤◌, ◌<◌}
use mathlib.Core.Path.{◌≡◌, refl, sym, ap, ◌∙◌}
use mathlib.Core.Bool.{Bool, true, false}
use mathlib.Core.List.{List, [], ◌∷◌, ◌++◌, append_assoc}
use native.Mathlib.Omega.{arith}
use lib.Dec.{leb}
use lib.ListN.{length, get_or, take, drop, set, length-take, length-drop, length-append}
use lib.Seq.{take_at, drop_at, drop-drop, take-add, drop-cons, take-set-lt, drop-set-lt, get_or-take}
use Rattle.words.specs.Bits.{put_bit}
use Rattle.words.specs.Sets.{put}
use Rattle.words.proofs.SegmentLaws.{segment-long}
use Rattle.words.proofs.SetsLaws.{put_word}
use Rattle.domain.specs.Domain.{Domain, domain_of}
use Rattle.domain.specs.Slot.{source_at}
use Rattle.wired_state.specs.Wires.{Wired, wired_of, place_of, domain_in, with_domain, is_delegated}
use Rattle.wired_state.specs.Wires.{with_wires}
use Rattle.sizes.specs.Sizes.{child_place, domain_size, wired_size}

-- two controllers are equal if their parts are
pub wired-path : {w v : Wired} → w.wires ≡ v.wires → w.machine ≡ v.machine → w.child ≡ v.child → w ≡ v
wired-path a b c = λ k. record { wires = a k; machine = b k; child = c k }

module _ (l ys : List ℕ) (long : length l ≡ wired_size) (part : length ys ≡ domain_size) where
  pub put-machine : wired_of (take 2 l ++ (ys ++ drop domain_size (drop 2 l)))
      ≡ record { wires = (wired_of l).wires; machine = domain_of ys; child = (wired_of l).child }
  unfolding wired_of
  put-machine =
      let two : length (take 2 l) ≡ 2 = simp length-take (omega arith) in
      let behind = drop_at (take 2 l) (ys ++ drop domain_size (drop 2 l)) 2 two in
      wired-path (take_at (take 2 l) (ys ++ drop domain_size (drop 2 l)) 2 two)
      (ap domain_of (ap (take domain_size) behind ∙ take_at ys
      (drop domain_size (drop 2 l)) domain_size part))
      (ap (λ (x : List ℕ). domain_of (take domain_size x))
      (sym (drop-drop domain_size 2 (take 2 l ++ (ys ++ drop domain_size (drop 2 l))))
      ∙ ap (drop domain_size) behind
      ∙ drop_at ys (drop domain_size (drop 2 l)) domain_size part ∙ drop-drop domain_size 2 l))

  pub put-child : wired_of (take child_place l ++ (ys ++ drop domain_size (drop child_place l)))
      ≡ record { wires = (wired_of l).wires; machine = (wired_of l).machine; child = domain_of ys }
  unfolding wired_of
  put-child =
      let z = ys ++ drop domain_size (drop child_place l) in
      let middle = take domain_size (drop 2 l) in
      let two : length (take 2 l) ≡ 2 = simp length-take (omega arith) in
      let most : length (take child_place l) ≡ child_place = simp length-take (omega arith) in
      let whole : length middle ≡ domain_size = segment-long l 2 domain_size (omega arith) in
      let apart : take child_place l ++ z ≡ take 2 l ++ (middle ++ z) =
      ap (λ (x : List ℕ). x ++ z) (take-add 2 domain_size l) ∙ append_assoc (take 2 l) middle z in
      wired-path (ap (take 2) apart ∙ take_at (take 2 l) (middle ++ z) 2 two)
      (ap domain_of
      (ap (λ (x : List ℕ). take domain_size (drop 2 x)) apart
      ∙ ap (take domain_size) (drop_at (take 2 l) (middle ++ z) 2 two)
      ∙ take_at middle z domain_size whole))
      (ap domain_of
      (ap (take domain_size) (drop_at (take child_place l) z child_place most)
      ∙ take_at ys (drop domain_size (drop child_place l)) domain_size part))

-- the parts that are lent
module _ (l : List ℕ) (long : length l ≡ wired_size) where
  pub machine-long : length (take domain_size (drop 2 l)) ≡ domain_size
  machine-long = segment-long l 2 domain_size (omega arith)

  pub child-long : length (take domain_size (drop child_place l)) ≡ domain_size
  child-long = segment-long l child_place domain_size (omega arith)

  pub machine-part : domain_of (take domain_size (drop 2 l)) ≡ (wired_of l).machine
  unfolding wired_of
  machine-part = refl

  pub child-part : domain_of (take domain_size (drop child_place l)) ≡ (wired_of l).child
  unfolding wired_of
  child-part = refl

  pub wires-read : (get_or l 0 0 ∷ get_or l 1 0 ∷ []) ≡ (wired_of l).wires
  unfolding wired_of
  wires-read =
      sym (ap (take 2) (drop-cons l 0 0 (omega arith))
      ∙ ap (λ (x : List ℕ). get_or l 0 0 ∷ take 1 x) (drop-cons l 1 0 (omega arith)))

-- ---- a domain's words, lent from where they begin

place-within : (c : Bool) → place_of c + domain_size ≤ wired_size
place-within true = omega arith
place-within false = omega arith

pub part-read : (l : List ℕ) (c : Bool)
    → domain_of (take domain_size (drop (place_of c) l)) ≡ domain_in (wired_of l) c
unfolding domain_in wired_of
part-read l true = refl
part-read l false = refl

part-put : (l ys : List ℕ) (c : Bool) → length l ≡ wired_size → length ys ≡ domain_size
    → wired_of (take (place_of c) l ++ (ys ++ drop domain_size (drop (place_of c) l)))
    ≡ with_domain (wired_of l) c (domain_of ys)
unfolding with_domain
part-put l ys true = put-child l ys
part-put l ys false = put-machine l ys

-- what the lender is afterwards: before, in front of it; behind, what begins with it
module _ (l : List ℕ) (c : Bool) {from : ℕ} (at : from ≡ place_of c) {behind : List ℕ}
    (rest : behind ≡ drop from l) where
  pub part-lent : (part : List ℕ) → part ≡ take domain_size behind
      → domain_of part ≡ domain_in (wired_of l) c
  part-lent part e = rw (e, rest, at) (part-read l c)

  pub part-back : length l ≡ wired_size → (before ys : List ℕ) → before ≡ take from l
      → length (ys ++ drop domain_size behind) ≡ length behind → {d : Domain} → domain_of ys ≡ d
      → wired_of (before ++ (ys ++ drop domain_size behind)) ≡ with_domain (wired_of l) c d
  part-back long before ys front same e =
      let within = place-within c in
      let here : length ys ≡ domain_size =
      omega (
        arith,
        length-append ys (drop domain_size behind),
        length-drop domain_size behind,
        ap length rest ∙ length-drop from l,
      ) in
      rw (front, rest, at, ← e) (part-put l ys c long here)

-- ---- a wire

pub wire-put : (l : List ℕ) (i v : ℕ) (b : Bool) → i < 64 → v ≡ put_bit (get_or l (i / 32) 0) (i % 32) b
    → wired_of (set l (i / 32) v) ≡ with_wires (wired_of l) (put (wired_of l).wires i b)
unfolding wired_of
wire-put l i v b h e =
    wired-path
    (take-set-lt 2 l (i / 32) v (omega arith)
    ∙ ap (set (take 2 l) (i / 32)) (e
    ∙ ap (λ (w : ℕ). put_bit w (i % 32) b) (sym (get_or-take 2 l (i / 32) 0 (omega arith))))
    ∙ put_word (take 2 l) i b)
    (ap (λ (x : List ℕ). domain_of (take domain_size x)) (drop-set-lt 2 l (i / 32) v (omega arith)))
    (ap (λ (x : List ℕ). domain_of (take domain_size x)) (drop-set-lt child_place l (i / 32) v (omega arith)))

-- ---- one of the two domains

module _ (w : Wired) (c : Bool) where
  pub domain-child : c ≡ true → domain_in w c ≡ w.child
  unfolding domain_in
  domain-child e = simp e

  pub domain-machine : c ≡ false → domain_in w c ≡ w.machine
  unfolding domain_in
  domain-machine e = simp e

  pub with-child : (d : Domain) → c ≡ true
      → with_domain w c d ≡ record { wires = w.wires; machine = w.machine; child = d }
  unfolding with_domain
  with-child d e = simp e

  pub with-machine : (d : Domain) → c ≡ false
      → with_domain w c d ≡ record { wires = w.wires; machine = d; child = w.child }
  unfolding with_domain
  with-machine d e = simp e

-- ---- one source

pub delegated-mode : (w : Wired) (i : ℕ) → is_delegated w i ≡ leb 1024 (source_at w.machine i).mode
unfolding is_delegated
delegated-mode w i = refl
