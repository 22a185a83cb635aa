-- Claims 130 and 131, from the laws of the region. Assumes nothing.
use Prim.Native.Nat.{ℕ, ◌+◌, ◌*◌, ◌-◌, ◌/◌, ◌≤◌}
use mathlib.Core.Path.{◌≡◌, refl, ap}
use mathlib.Core.Bool.{◌&&◌}
use mathlib.Core.List.{List, [], ◌∷◌, ◌++◌}
use mathlib.Core.Logic.{◌⊎◌, inl, inr, ⊎_elim}
use native.Mathlib.Omega.{arith}
use lib.Dec.{eqb, leb}
use lib.ListN.{take, drop}
use borrow.Author.Tests.{eqb-true, leb-true}
use Rattle.words.proofs.TestsLaws.{tested, and_first, and_second}
use Rattle.domain_region.specs.declared.Word.{Word}
use Rattle.domain_region.specs.declared.Word.TheVariants.{Domaincfg, Sourcecfg, Setip, Setipnum, InClrip}
use Rattle.domain_region.specs.declared.Word.TheVariants.{Clripnum}
use Rattle.domain_region.specs.declared.Word.TheVariants.{Setie, Setienum, Clrie, Clrienum, SetipnumLe}
use Rattle.domain_region.specs.declared.Word.TheVariants.{SetipnumBe}
use Rattle.domain_region.specs.declared.Word.TheVariants.{Genmsi, Target, Idelivery, Iforce, Ithreshold}
use Rattle.domain_region.specs.declared.Word.TheVariants.{Topi}
use Rattle.domain_region.specs.declared.Word.TheVariants.{Claimi, Unused}
use Rattle.domain_region.specs.Region.{Row, registers, name_in, word_in, word_at}
use Rattle.domain_region.proofs.RegionLaws.{domaincfg-at, sourcecfg-at, setip-at, setipnum-at, in-clrip-at}
use Rattle.domain_region.proofs.RegionLaws.{clripnum-at, setie-at, setienum-at, clrie-at, clrienum-at}
use Rattle.domain_region.proofs.RegionLaws.{config-unused, setipnum-le-at, setipnum-be-at, genmsi-at}
use Rattle.domain_region.proofs.RegionLaws.{target_at, word-within}
use Rattle.domain_region.proofs.RegionLaws.{idelivery-at, iforce-at, ithreshold-at, topi-at, claimi-at}
use Rattle.domain_registers.specs.Read.{register_value}
use Rattle.domain_registers.specs.Write.{register_written}
use Rattle.claims_domain.specs.Region.{address_of, Numbered, Unnamed, Claim-130, Claim-131}

-- ---- each register is at its address

at_address : (r : Word) → Numbered r → word_at (address_of r) ≡ r
at_address Domaincfg n = domaincfg-at
at_address (Sourcecfg i) n = sourcecfg-at i n.0 n.1
at_address (Setip k) n = setip-at k n
at_address Setipnum n = setipnum-at
at_address (InClrip k) n = in-clrip-at k n
at_address Clripnum n = clripnum-at
at_address (Setie k) n = setie-at k n
at_address Setienum n = setienum-at
at_address (Clrie k) n = clrie-at k n
at_address Clrienum n = clrienum-at
at_address SetipnumLe n = setipnum-le-at
at_address SetipnumBe n = setipnum-be-at
at_address Genmsi n = genmsi-at
at_address (Target i) n = target_at i n.0 n.1
at_address (Idelivery h) n = idelivery-at h n
at_address (Iforce h) n = iforce-at h n
at_address (Ithreshold h) n = ithreshold-at h n
at_address (Topi h) n = topi-at h n
at_address (Claimi h) n = claimi-at h n
at_address Unused n = absurd n

-- ---- and at no other

-- a register at a is one that there is, and a is its address
abbrev Placed : ℕ → Word → Type 0
Placed a r = Numbered r × (a ≡ address_of r)

-- the register of each row and number has its address there
abbrev All : ℕ → List Row → Type 0
All a [] = Unit {0}
All a (r ∷ rs) =
    ((k : ℕ) → r.first ≤ k → k ≤ r.last → a ≡ r.base + r.step * k → Placed a (r.name k)) × All a rs

placed-in : (a : ℕ) (rs : List Row) → All a rs → (word_in rs a ≡ Unused) ⊎ Placed a (word_in rs a)
unfolding word_in name_in
placed-in a [] each = inl refl
placed-in a (r ∷ rs) each =
    let k = (a - r.base) / r.step in
    let here = eqb a (r.base + r.step * k) in
    let low = here && leb r.first k in
    tested (low && leb k r.last)
    (λ t. rw t (inr (each.0 k (leb-true r.first k (and_second here _ (and_first low _ t)))
    (leb-true k r.last (and_second low _ t)) (eqb-true a _ (and_first here _ (and_first low _ t))))))
    (λ f. rw f (placed-in a rs each.1))

-- `omega` takes a third of the rows at a time
both : (a : ℕ) (xs ys : List Row) → All a xs → All a ys → All a (xs ++ ys)
both a [] ys left right = right
both a (x ∷ xs) ys left right = (left.0, both a xs ys left.1 right)

placed : (a : ℕ) → (word_at a ≡ Unused) ⊎ Placed a (word_at a)
unfolding word_at registers
placed a =
    placed-in a registers (both a (take 7 registers) (drop 7 registers) (omega arith)
    (both a (take 6 (drop 7 registers)) (drop 13 registers) (omega arith) (omega arith)))

unnamed-unused : (a : ℕ) → Unnamed a → word_at a ≡ Unused
unnamed-unused a n = ⊎_elim (λ e. e) (λ p. absurd (n (word_at a) p.0 p.1)) (placed a)

pub claim-130 : Claim-130
unfolding Claim-130
claim-130 = (
  at_address,
  (λ a n. ⊎_elim (λ e. absurd (n e)) (λ p. p) (placed a)),
  unnamed-unused,
  config-unused 0x1BC0 (omega arith) (omega arith),
  config-unused 0x1BC4 (omega arith) (omega arith),
  config-unused 0x1BC8 (omega arith) (omega arith),
  config-unused 0x1BCC (omega arith) (omega arith),
  word-within,
)

-- ---- what reads 0

pub claim-131 : Claim-131
unfolding Claim-131 register_value register_written
claim-131 c d wires = (
  refl,
  refl,
  refl,
  refl,
  refl,
  refl,
  λ k. refl,
  refl,
  λ v. refl,
  (λ a n. (
    ap (register_value d wires) (unnamed-unused a n),
    λ v. ap (λ (r : Word). register_written c d wires r v) (unnamed-unused a n),
  )),
  λ h v. (refl, refl),
)
