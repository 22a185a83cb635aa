-- Claims 60 to 71: what the contract says is the claim itself; and a block is known from its parts.
-- Assumes nothing.
use Prim.Native.Nat.{ℕ, ◌+◌, ◌≤◌}
use mathlib.Core.Path.{◌≡◌, refl, sym, ap, ap₂, ◌∙◌}
use mathlib.Core.List.{List, ◌++◌}
use native.Mathlib.Omega.{arith}
use lib.ListN.{length, take, drop, take-append-drop, length-drop}
use lib.Seq.{drop-drop, take_all}
use Rattle.words.proofs.SegmentLaws.{segment-long}
use Rattle.domain.specs.Domain.{Domain, domain_of}
use Rattle.domain_region.specs.declared.Word.TheVariants.{Sourcecfg}
use Rattle.domain_region.proofs.RoleLaws.{configures-only}
use Rattle.wired_state.specs.Wires.{Wired, wired_of}
use Rattle.wired_registers.proofs.WiredLaws.{written-part, written-source}
use Rattle.files.specs.Files.{words_of}
use Rattle.files_laws.proofs.BlockBack.{words_back}
use Rattle.claims_wired.specs.WiredCalls.{Claim-60, Claim-61, Claim-62, Claim-63, Claim-64, Claim-65}
use Rattle.claims_wired.specs.WiredCalls.{Claim-66, Claim-67, Claim-68, Claim-69, Claim-70, Claim-71}

pub claim-60 : Claim-60
unfolding Claim-60
claim-60 a r learnt = learnt

pub claim-61 : Claim-61
unfolding Claim-61
claim-61 l b b' ws w r learnt = learnt

pub claim-62 : Claim-62
unfolding Claim-62
claim-62 l b b' c ws w v learnt = learnt

pub claim-63 : Claim-63
unfolding Claim-63
claim-63 l b h r learnt = learnt

pub claim-64 : Claim-64
unfolding Claim-64
claim-64 l b b' g g' c r learnt = learnt

pub claim-65 : Claim-65
unfolding Claim-65
claim-65 l f f' g n learnt =
    (learnt, λ long. sym (words_back f'.now long) ∙ ap words_of learnt)

-- ---- a list is its stretches

-- two lists that agree on n elements from a on, and behind them, agree from a on
stretch : (l m : List ℕ) (a n : ℕ) → take n (drop a l) ≡ take n (drop a m) → drop (a + n) l ≡ drop (a + n) m
    → drop a l ≡ drop a m
stretch l m a n e r =
    sym (take-append-drop n (drop a l))
    ∙ ap₂ (λ (x y : List ℕ). x ++ y) e (drop-drop n a l ∙ r ∙ sym (drop-drop n a m))
    ∙ take-append-drop n (drop a m)

-- the last stretch
last-stretch : (l m : List ℕ) (a n : ℕ) → length l ≡ a + n → length m ≡ a + n
    → take n (drop a l) ≡ take n (drop a m) → drop a l ≡ drop a m
last-stretch l m a n hl hm e =
    sym (take_all n (drop a l) (rw (length-drop a l) (omega arith))) ∙ e
    ∙ take_all n (drop a m) (rw (length-drop a m) (omega arith))

pub claim-66 : Claim-66
unfolding Claim-66 domain_of
claim-66 l m hl hm e =
    stretch l m 0 64 (ap (λ (d : Domain). d.source) e)
    (stretch l m 64 64 (ap (λ (d : Domain). d.target) e)
    (stretch l m 128 2 (ap (λ (d : Domain). d.pending) e)
    (stretch l m 130 2 (ap (λ (d : Domain). d.enable) e)
    (last-stretch l m 132 12 hl hm (ap (λ (d : Domain). d.delivery) e)))))

pub claim-67 : Claim-67
unfolding Claim-67 wired_of
claim-67 l m hl hm e =
    let same : (a : ℕ) → a + 144 ≤ 290 → domain_of (take 144 (drop a l)) ≡ domain_of (take 144 (drop a m))
    → take 144 (drop a l) ≡ take 144 (drop a m) =
    λ a h q. unfold Claim-66 in
    claim-66 (take 144 (drop a l)) (take 144 (drop a m)) (segment-long l a 144 (omega arith))
    (segment-long m a 144 (omega arith)) q in
    stretch l m 0 2 (ap (λ (w : Wired). w.wires) e)
    (stretch l m 2 144 (same 2 (omega arith) (ap (λ (w : Wired). w.machine) e))
    (last-stretch l m 146 144 hl hm (same 146 (omega arith) (ap (λ (w : Wired). w.child) e))))

pub claim-68 : Claim-68
unfolding Claim-68
claim-68 l b b' i level learnt = learnt

pub claim-69 : Claim-69
unfolding Claim-69
claim-69 l b b' c i v learnt = learnt ∙ written-source (wired_of b.now) c (Sourcecfg i) v i refl

pub claim-70 : Claim-70
unfolding Claim-70
claim-70 l b b' c w v r = (
  (λ learnt. learnt),
  (λ n learnt. learnt ∙ written-part (wired_of b.now) c w v (λ i e. n i (configures-only w i e))),
)

pub claim-71 : Claim-71
unfolding Claim-71
claim-71 l b g g' c v r learnt = learnt
