-- Claim-134, from what a write does to each source of its domain. Assumes nothing.
use Prim.Native.Nat.{ℕ, ◌/◌, ◌%◌, ◌<◌}
use mathlib.Core.Path.{◌≡◌, refl, sym}
use mathlib.Core.Bool.{Bool, true, false, cond, and-false}
use mathlib.Core.List.{List}
use mathlib.Core.Logic.{◌⊎◌, ◌↔◌, ⊎_elim}
use native.Mathlib.Omega.{arith}
use lib.Dec.{eqb}
use borrow.Author.Tests.{eqb-true, eq-eqb, lt-leb}
use Rattle.words.proofs.TestsLaws.{tested, and_first, and_second, and_both}
use Rattle.source_mode.specs.Mode.{is_active}
use Rattle.source.specs.declared.Source.{Source}
use Rattle.source.specs.declared.Change.{Change}
use Rattle.source.specs.declared.Change.TheVariants.{Enable, Disable}
use Rattle.source.specs.Pending.{switched, changed}
use Rattle.domain.specs.Domain.{Domain}
use Rattle.domain.specs.Slot.{source_at}
use Rattle.domain_laws.specs.Became.{Touched}
use Rattle.domain_writes.specs.Writes.{number_changed}
use Rattle.domain_writes_laws.specs.Named.{named}
use Rattle.domain_writes_laws.proofs.WritesEffects.{touched-word_changed, touched-number_changed}
use Rattle.domain_registers.specs.Write.{register_written}
use Rattle.claims_registers.specs.Enables.{EnablesWritten, NamedIn, Claim-134}
use Rattle.claims_registers.proofs.Registers.{bit-one}

module _ (s : Source) (on : Bool) where
  switched-on : is_active s.mode ≡ true → (switched s on).enabled ≡ on
  unfolding switched
  switched-on a = simp a

  switched-off : is_active s.mode ≡ false → switched s on ≡ s
  unfolding switched
  switched-off f = simp f

  switched-rest : ((switched s on).mode ≡ s.mode) × ((switched s on).target ≡ s.target)
      × ((switched s on).pending ≡ s.pending)
  unfolding switched
  switched-rest =
      tested (is_active s.mode) (λ t. rw t (refl, refl, refl)) (λ f. rw f (refl, refl, refl))

-- a change that switches the sources that a test names
module _ (on : Bool) (test : ℕ → Bool) (Names : ℕ → Type 0) (iff : (j : ℕ) → Names j ↔ (test j ≡ true))
    (d d' : Domain) (p : Touched d d' (λ j s. cond (test j) (switched s on) s)) where
  enables-written : EnablesWritten on Names d d'
  enables-written =
      record {
        named = λ j l h n a. rw (p.source j l (omega arith), (iff j).0 n) (switched-on (source_at d j) on a);
        others = λ j l h. ⊎_elim
            (λ n. rw (p.source j l (omega arith)) (tested (test j) (λ t. absurd (n ((iff j).1 t)))
            (λ f. rw f)))
            (λ off. rw (p.source j l (omega arith)) (tested (test j)
            (λ t. rw (t, switched-off (source_at d j) on off)) (λ f. rw f)));
        sources = λ j l h. rw (p.source j l (omega arith)) (tested (test j)
            (λ t. rw t (switched-rest (source_at d j) on)) (λ f. rw f (refl, refl, refl)));
        domaincfg = p.domaincfg;
        genmsi = p.genmsi;
        structures = p.structure;
        zero = (p.pending-zero, p.enable-zero);
      }

-- the sources of a word, and the source of a number, as tests
word-iff : (k v j : ℕ) → NamedIn k v j ↔ (named k v j ≡ true)
unfolding named
word-iff k v j =
    let here = eqb (j / 32) k in (
      λ p. and_both here _ (eq-eqb (j / 32) k p.0) ((bit-one v (j % 32)).0 p.1),
      λ e. (
        eqb-true (j / 32) k (and_first here _ e),
        (bit-one v (j % 32)).1 (and_second here _ e),
      ),
    )

number-iff : (v j : ℕ) → (j ≡ v) ↔ (eqb v j ≡ true)
number-iff v j = (λ e. eq-eqb v j (sym e), λ t. sym (eqb-true v j t))

number-none : (d : Domain) (ws : List ℕ) (c : Change) (v : ℕ) → (v ≡ 0) ⊎ (63 < v)
    → number_changed d ws c v ≡ d
unfolding number_changed
number-none d ws c v =
    ⊎_elim (λ z. simp (lt-leb 1 v (omega arith))) (λ h. simp (lt-leb v 63 h, and-false))

pub claim-134 : Claim-134
unfolding Claim-134 register_written changed
claim-134 c d wires v shaped = (
  λ k h. (
    enables-written true (named k v) (NamedIn k v) (word-iff k v) d _
        (touched-word_changed d wires Enable v shaped k h),
    enables-written false (named k v) (NamedIn k v) (word-iff k v) d _
        (touched-word_changed d wires Disable v shaped k h),
  ),
  enables-written true (eqb v) (λ j. j ≡ v) (number-iff v) d _
      (touched-number_changed d wires Enable v shaped),
  enables-written false (eqb v) (λ j. j ≡ v) (number-iff v) d _
      (touched-number_changed d wires Disable v shaped),
  λ none. (number-none d wires Enable v none, number-none d wires Disable v none),
)
