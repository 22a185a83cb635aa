-- The search that goes from one source that is pending and enabled to the next. No contract cites this file.
-- Assumes nothing.
--   Left d h left best   where the search stands: left are the sources to come, best the best before them
--   left-start           it holds at the start
--   left-head            the next of left is a source that stands
--   left-next            it holds after the next
--   left_end             what it says when none is left
use Prim.Native.Nat.{ℕ, ◌+◌, ◌-◌, ◌≤◌, ◌<◌}
use mathlib.Core.Path.{◌≡◌, refl, sym, ap, ◌∙◌}
use mathlib.Core.Bool.{true}
use mathlib.Core.List.{List, [], ◌∷◌}
use native.Mathlib.Omega.{arith}
use Rattle.words.specs.Bits.{has_bit}
use Rattle.words_masks.specs.Members.{listed}
use Rattle.words_masks.proofs.MembersLaws.{Head, listed-ext, listed-head, listed-end}
use Rattle.domain.specs.Domain.{Domain}
use Rattle.domain_topi.specs.Top.{standing, top_from, top_source}
use Rattle.domain_topi.proofs.TopLaws.{better, better-lt, eligible-unstanding, top_from-none}
use Rattle.domain_topi.proofs.TopLaws.{top_from-skip, top_from-next-to}

pub record Left (d : Domain) (h : ℕ) (left : List ℕ) (best : ℕ) : Type 0 where
  pub from : ℕ
  pub within : from ≤ 64
  pub list : left ≡ listed (standing d) from (64 - from)
  pub found : best < 64
  pub same : top_source d h ≡ top_from d h from (64 - from) best

pub left-start : (d : Domain) (h set : ℕ) (left : List ℕ)
    → ((j : ℕ) → j < 64 → has_bit set j ≡ standing d j) → left ≡ listed (has_bit set) 1 63
    → Left d h left 0
unfolding top_source
left-start d h set left bits e =
    record {
      from = 1;
      within = omega arith;
      list = e ∙ listed-ext (has_bit set) (standing d) 1 63 (λ j l m. bits j (omega arith));
      found = omega arith;
      same = refl;
    }

module _ {d : Domain} {h : ℕ} {left : List ℕ} {best : ℕ} (l : Left d h left best) where
  pub left_end : left ≡ [] → top_source d h ≡ best
  left_end none =
      l.same
      ∙ top_from-none d h l.from (64 - l.from) best
      (λ j n m. eligible-unstanding d h j
      (listed-end (standing d) l.from (64 - l.from) (sym l.list ∙ none) j n (omega (arith, l.within))))

  module _ {i : ℕ} {is : List ℕ} (e : left ≡ i ∷ is) where
    head : Head (standing d) l.from (l.from + (64 - l.from)) i is
    head = listed-head (standing d) l.from (64 - l.from) i is (sym l.list ∙ e)

    pub left-head : (i < 64) × (standing d i ≡ true)
    left-head = (omega (arith, head.high, l.within), head.holds)

    pub left-next : (best' : ℕ) → best' ≡ better d h i best → Left d h is best'
    left-next best' b =
        let high = left-head.0 in
        record {
          from = i + 1;
          within = omega arith;
          list = head.others ∙ ap (listed (standing d) (i + 1)) (omega (arith, l.within));
          found = rw b (better-lt d h i best 64 high l.found);
          same =
              l.same
              ∙ top_from-skip d h l.from i 64 best head.low (omega arith)
              (λ j n m. eligible-unstanding d h j (head.passed j n m))
              ∙ top_from-next-to d h i 64 best high
              ∙ ap (top_from d h (i + 1) (64 - (i + 1))) (sym b);
        }
