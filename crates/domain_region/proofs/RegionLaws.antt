-- Laws of specs/Region.antt. No contract cites this file. Assumes nothing.
use Prim.Native.Nat.{ℕ, zero, suc, ◌+◌, ◌-◌, ◌*◌, ◌/◌, ◌%◌, ◌≤◌, ◌<◌}
use mathlib.Core.Path.{◌≡◌, refl, ap, ◌∙◌}
use mathlib.Core.Bool.{Bool, true, false, cond, ◌&&◌}
use mathlib.Core.List.{List, [], ◌∷◌, ◌++◌}
use mathlib.Core.Logic.{◌↔◌}
use native.Mathlib.Nat.{mul-div_right, add-sub_cancel_left}
use native.Mathlib.Omega.{arith}
use lib.Dec.{eqb, leb, lit<}
use lib.ListN.{take, drop}
use borrow.Author.Tests.{eqb-true, leb-true, ltb-true, le-leb, lt-ltb, eq-eqb}
use Rattle.words.proofs.BitsLaws.{bit-cases}
use Rattle.words.proofs.TestsLaws.{and_first, and_second, and_both}
use Rattle.domain_region.specs.declared.Word.{Word}
use Rattle.domain_region.specs.declared.Word.TheVariants.{Domaincfg, Sourcecfg, Setip, Setipnum}
use Rattle.domain_region.specs.declared.Word.TheVariants.{InClrip}
use Rattle.domain_region.specs.declared.Word.TheVariants.{Clripnum, Setie, Setienum, Clrie, Clrienum}
use Rattle.domain_region.specs.declared.Word.TheVariants.{SetipnumLe, SetipnumBe, Genmsi, Target}
use Rattle.domain_region.specs.declared.Word.TheVariants.{Idelivery}
use Rattle.domain_region.specs.declared.Word.TheVariants.{Iforce, Ithreshold, Topi, Claimi, Unused}
use Rattle.domain_region.specs.Region.{address_legal, Row, words_from, registers, name_in, word_in}
use Rattle.domain_region.specs.Region.{word_at, Within}

-- ---- legal addresses

pub legal-iff : (a : ℕ) → address_legal a ≡ true ↔ ((a % 4 ≡ 0) × (a < 0x5000))
unfolding address_legal
legal-iff a = (
  λ t. (eqb-true (a % 4) 0 (and_first _ _ t), ltb-true a 0x5000 (and_second (eqb (a % 4) 0) _ t)),
  λ p. and_both _ _ (eq-eqb (a % 4) 0 p.0) (lt-ltb a 0x5000 p.1),
)

-- ---- one row, and all of them

cond_cases : (P : Word → Type 0) (t : Bool) {x y : Word} → (t ≡ true → P x) → P y → P (cond t x y)
cond_cases P true there other = there refl
cond_cases P false there other = other

-- a is the address of a register of the row, with this number
record At (r : Row) (a : ℕ) : Type 0 where
  pub number : ℕ
  pub from : r.first ≤ number
  pub to : number ≤ r.last
  pub place : a ≡ r.base + r.step * number

name-cases : (P : Word → Type 0) (a : ℕ) (r : Row) (w : Word)
    → ((p : At r a) → P (r.name p.number)) → P w → P (name_in r a w)
unfolding name_in
name-cases P a r w there other =
    let k = (a - r.base) / r.step in
    let here = eqb a (r.base + r.step * k) in
    let low = here && leb r.first k in
    cond_cases P (low && leb k r.last)
    (λ t.
    there (record {
      number = k;
      from = leb-true r.first k (and_second here _ (and_first low _ t));
      to = leb-true k r.last (and_second low _ t);
      place = eqb-true a _ (and_first here _ (and_first low _ t));
    }))
    other

-- Q holds of each row
abbrev All : (Row → Type 0) → List Row → Type 0
All Q [] = Unit {0}
All Q (r ∷ rs) = Q r × All Q rs

-- what holds of each register that can be at a, and of Unused, holds of the word at a
word-cases : (P : Word → Type 0) (a : ℕ) (rs : List Row)
    → All (λ r. (p : At r a) → P (r.name p.number)) rs → P Unused → P (word_in rs a)
unfolding word_in
word-cases P a [] each other = other
word-cases P a (r ∷ rs) each other =
    name-cases P a r (word_in rs a) each.0 (word-cases P a rs each.1 other)

pub word-within : (a : ℕ) → Within (word_at a)
unfolding word_at registers
word-within a = word-cases Within a registers (omega arith) tt

absurd-all : (a : ℕ) (rs : List Row) → All (λ r. At r a → ⊥) rs
    → All (λ r. (p : At r a) → r.name p.number ≡ Unused) rs
absurd-all a [] none = tt
absurd-all a (r ∷ rs) none = (λ p. absurd (none.0 p), absurd-all a rs none.1)

-- an address in no row
word-unused : (a : ℕ) → All (λ r. At r a → ⊥) registers → word_at a ≡ Unused
unfolding word_at
word-unused a none = word-cases (λ w. w ≡ Unused) a registers (absurd-all a registers none) refl

-- ---- where there is no register

pub unaligned-unused : (a : ℕ) → (a % 4 ≡ 0 → ⊥) → word_at a ≡ Unused
unfolding registers
unaligned-unused a n = word-unused a (omega arith)

pub config-unused : (a : ℕ) → 0x100 ≤ a → a < 0x1C00 → word_at a ≡ Unused
unfolding registers
config-unused a l h = word-unused a (omega arith)

pub bits-unused : (a : ℕ) → 0x1C00 ≤ a → a < 0x2000 → 8 ≤ a % 0x100 → (a % 0x100 ≡ 0xDC → ⊥)
    → word_at a ≡ Unused
unfolding registers
bits-unused a l h m n = word-unused a (omega arith)

pub numbers-unused : (a : ℕ) → 0x2008 ≤ a → a < 0x3000 → word_at a ≡ Unused
unfolding registers
numbers-unused a l h = word-unused a (omega arith)

pub targets-unused : (a : ℕ) → 0x3100 ≤ a → a < 0x4000 → word_at a ≡ Unused
unfolding registers
targets-unused a l h = word-unused a (omega arith)

pub structures-unused : (a : ℕ) → 0x4000 ≤ a → 8 < a % 32 → a % 32 < 0x18 → word_at a ≡ Unused
unfolding registers
structures-unused a l m h = word-unused a (omega arith)

pub past-unused : (a : ℕ) → 0x4080 ≤ a → word_at a ≡ Unused
unfolding registers
past-unused a l = word-unused a (omega arith)

-- ---- where each register is

-- rows that do not have a are passed over
word-skip : (a : ℕ) (xs ys : List Row) → All (λ r. At r a → ⊥) xs → word_in (xs ++ ys) a ≡ word_in ys a
unfolding word_in
word-skip a [] ys none = refl
word-skip a (r ∷ xs) ys none =
    name-cases (λ w. w ≡ word_in ys a) a r _ (λ p. absurd (none.0 p)) (word-skip a xs ys none.1)

name-at : (r : Row) (a k : ℕ) (w : Word) → 0 < r.step → r.first ≤ k → k ≤ r.last
    → a ≡ r.base + r.step * k → name_in r a w ≡ r.name k
unfolding name_in
name-at r a k w p l m e =
    let off : a - r.base ≡ r.step * k =
    ap (λ (x : ℕ). x - r.base) e ∙ add-sub_cancel_left r.base (r.step * k) in
    let q : (a - r.base) / r.step ≡ k = ap (λ (x : ℕ). x / r.step) off ∙ mul-div_right k p in
    rw (q, eq-eqb a _ e, le-leb r.first k l, le-leb k r.last m)

pub sourcecfg-at : (s : ℕ) → 1 ≤ s → s ≤ 63 → word_at (4 * s) ≡ Sourcecfg s
unfolding registers word_at word_in
sourcecfg-at s l m =
    word-skip (4 * s) (take 1 registers) (drop 1 registers) (omega arith)
    ∙ name-at (words_from 0x0000 1 63 Sourcecfg) (4 * s) s _ (lit< tt) l m (omega arith)

pub target_at : (s : ℕ) → 1 ≤ s → s ≤ 63 → word_at (0x3000 + 4 * s) ≡ Target s
unfolding registers word_at word_in
target_at s l m =
    word-skip (0x3000 + 4 * s) (take 13 registers) (drop 13 registers) (omega arith)
    ∙ name-at (words_from 0x3000 1 63 Target) (0x3000 + 4 * s) s _ (lit< tt) l m refl

below-four : (P : ℕ → Type 0) → P 0 → P 1 → P 2 → P 3 → (k : ℕ) → k < 4 → P k
below-four P a b c d zero h = a
below-four P a b c d (suc zero) h = b
below-four P a b c d (suc (suc k)) h = bit-cases (λ (n : ℕ). P (suc (suc n))) c d k (omega arith)

pub setip-at : (k : ℕ) → k < 2 → word_at (0x1C00 + 4 * k) ≡ Setip k
unfolding registers word_at word_in name_in
setip-at k h = bit-cases (λ (k : ℕ). word_at (0x1C00 + 4 * k) ≡ Setip k) refl refl k h

pub in-clrip-at : (k : ℕ) → k < 2 → word_at (0x1D00 + 4 * k) ≡ InClrip k
unfolding registers word_at word_in name_in
in-clrip-at k h = bit-cases (λ (k : ℕ). word_at (0x1D00 + 4 * k) ≡ InClrip k) refl refl k h

pub setie-at : (k : ℕ) → k < 2 → word_at (0x1E00 + 4 * k) ≡ Setie k
unfolding registers word_at word_in name_in
setie-at k h = bit-cases (λ (k : ℕ). word_at (0x1E00 + 4 * k) ≡ Setie k) refl refl k h

pub clrie-at : (k : ℕ) → k < 2 → word_at (0x1F00 + 4 * k) ≡ Clrie k
unfolding registers word_at word_in name_in
clrie-at k h = bit-cases (λ (k : ℕ). word_at (0x1F00 + 4 * k) ≡ Clrie k) refl refl k h

pub idelivery-at : (h : ℕ) → h < 4 → word_at (0x4000 + 32 * h + 0x00) ≡ Idelivery h
unfolding registers word_at word_in name_in
idelivery-at h l =
    below-four (λ (h : ℕ). word_at (0x4000 + 32 * h + 0x00) ≡ Idelivery h) refl refl refl refl h l

pub iforce-at : (h : ℕ) → h < 4 → word_at (0x4000 + 32 * h + 0x04) ≡ Iforce h
unfolding registers word_at word_in name_in
iforce-at h l =
    below-four (λ (h : ℕ). word_at (0x4000 + 32 * h + 0x04) ≡ Iforce h) refl refl refl refl h l

pub ithreshold-at : (h : ℕ) → h < 4 → word_at (0x4000 + 32 * h + 0x08) ≡ Ithreshold h
unfolding registers word_at word_in name_in
ithreshold-at h l =
    below-four (λ (h : ℕ). word_at (0x4000 + 32 * h + 0x08) ≡ Ithreshold h) refl refl refl refl h l

pub topi-at : (h : ℕ) → h < 4 → word_at (0x4000 + 32 * h + 0x18) ≡ Topi h
unfolding registers word_at word_in name_in
topi-at h l =
    below-four (λ (h : ℕ). word_at (0x4000 + 32 * h + 0x18) ≡ Topi h) refl refl refl refl h l

pub claimi-at : (h : ℕ) → h < 4 → word_at (0x4000 + 32 * h + 0x1C) ≡ Claimi h
unfolding registers word_at word_in name_in
claimi-at h l =
    below-four (λ (h : ℕ). word_at (0x4000 + 32 * h + 0x1C) ≡ Claimi h) refl refl refl refl h l

pub domaincfg-at : word_at 0x0000 ≡ Domaincfg
unfolding registers word_at word_in name_in
domaincfg-at = refl

pub setipnum-at : word_at 0x1CDC ≡ Setipnum
unfolding registers word_at word_in name_in
setipnum-at = refl

pub clripnum-at : word_at 0x1DDC ≡ Clripnum
unfolding registers word_at word_in name_in
clripnum-at = refl

pub setienum-at : word_at 0x1EDC ≡ Setienum
unfolding registers word_at word_in name_in
setienum-at = refl

pub clrienum-at : word_at 0x1FDC ≡ Clrienum
unfolding registers word_at word_in name_in
clrienum-at = refl

pub setipnum-le-at : word_at 0x2000 ≡ SetipnumLe
unfolding registers word_at word_in name_in
setipnum-le-at = refl

pub setipnum-be-at : word_at 0x2004 ≡ SetipnumBe
unfolding registers word_at word_in name_in
setipnum-be-at = refl

pub genmsi-at : word_at 0x3000 ≡ Genmsi
unfolding registers word_at word_in name_in
genmsi-at = refl
