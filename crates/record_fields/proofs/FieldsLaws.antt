-- The fields of a line, found one after the other: each ends where a tab is found, or the line ends.
-- Assumes nothing.
use Prim.Native.Nat.{ℕ, suc, ◌+◌, ◌-◌, ◌<◌}
use mathlib.Core.Path.{◌≡◌, sym, ap, ◌∙◌}
use mathlib.Core.Bool.{Bool, cond}
use mathlib.Core.List.{List, [], ◌∷◌}
use native.Mathlib.Omega.{arith}
use native.Mathlib.Nat.{add-suc}
use native.Mathlib.Numerals.{add-one}
use borrow.Author.Tests.{lt-ltb, ltb-true}
use lib.Dec.{ltb}
use lib.ListN.{length, take, drop, length-drop}
use lib.Seq.{drop-drop, take_all}
use Rattle.words.proofs.TestsLaws.{same_truth}
use Rattle.record_lines.specs.Bytes.{index_of}
use Rattle.record_lines.proofs.FirstLaws.{parts_first}
use Rattle.record_fields.specs.Fields.{tab, fields_of, first_of, others_of, name_of, texts_of}

-- the fields that stand behind the byte at place k of l
abbrev pub texts_after : List ℕ → ℕ → List (List ℕ)
texts_after l k = cond (ltb k (length l)) (fields_of (drop (suc k) l)) []

-- what stands behind a byte of the rest of l stands behind that byte of l
after-drop : (l : List ℕ) (j n : ℕ) → texts_after (drop j l) n ≡ texts_after l (j + n)
after-drop l j n =
    ap (λ (ys : List ℕ). cond (ltb n (length (drop j l))) (fields_of ys) []) shifted
    ∙ ap (λ (t : Bool). cond t (fields_of (drop (suc (j + n)) l)) []) same
  where
    shifted : drop (suc n) (drop j l) ≡ drop (suc (j + n)) l
    shifted = drop-drop (suc n) j l ∙ ap (λ (k : ℕ). drop k l) (add-suc j n)

    same : ltb n (length (drop j l)) ≡ ltb (j + n) (length l)
    same =
        let rest = length (drop j l) in
        same_truth _ _
        (λ e. lt-ltb (j + n) (length l) (omega (arith, ltb-true n rest e, length-drop j l)))
        (λ e. lt-ltb n rest (omega (arith, ltb-true (j + n) (length l) e, length-drop j l)))

-- ---- a line

pub name-first : (l : List ℕ) → take (index_of tab l) l ≡ name_of l
unfolding name_of fields_of
name-first l = sym (ap first_of (parts_first tab l []))

pub texts-first : (l : List ℕ) → texts_of l ≡ texts_after l (index_of tab l)
unfolding texts_of fields_of
texts-first l = ap others_of (parts_first tab l [])

-- the next field, and those behind it
pub texts-next : (l : List ℕ) (k : ℕ) → k < length l →
    let xs = drop (suc k) l in
    texts_after l k ≡ take (index_of tab xs) xs ∷ texts_after l (suc k + index_of tab xs)
unfolding fields_of
texts-next l k h =
    let xs : List ℕ = drop (suc k) l in
    let n : ℕ = index_of tab xs in
    ap (λ (t : Bool). cond t (fields_of xs) []) (lt-ltb k (length l) h)
    ∙ parts_first tab xs []
    ∙ ap (λ (ts : List (List ℕ)). take n xs ∷ ts) (after-drop l (suc k) n)

-- ---- as the code finds them: the field behind place k begins where the rest of l does

module _ (l : List ℕ) (k n : ℕ) (found : n ≡ index_of tab (take (length l - (k + 1)) (drop (k + 1) l))) where
  behind : take (length l - (k + 1)) (drop (k + 1) l) ≡ drop (suc k) l
  behind =
      take_all (length l - (k + 1)) (drop (k + 1) l) (omega (arith, length-drop (k + 1) l))
      ∙ ap (λ (j : ℕ). drop j l) (add-one k)

  much : n ≡ index_of tab (drop (suc k) l)
  much = found ∙ ap (index_of tab) behind

  pub next-found : k + (1 + n) ≡ suc k + index_of tab (drop (suc k) l)
  next-found = omega (arith, much)

  pub text-found : take n (take (length l - (k + 1)) (drop (k + 1) l)) ≡
      (let xs = drop (suc k) l in take (index_of tab xs) xs)
  text-found =
      ap (take n) behind ∙ ap (λ (m : ℕ). take m (drop (suc k) l)) much
