-- Claim 195, by the parts of bytes. No axioms.
use Prim.Native.Nat.{ℕ, ◌≤◌}
use mathlib.Core.Path.{◌≡◌, refl, sym, ap, subst, ◌∙◌}
use mathlib.Core.Logic.{inl, inr}
use mathlib.Core.List.{List, [], ◌∷◌, ◌++◌, append-nil, append_assoc}
use native.Mathlib.Omega.{arith}
use lib.ListN.{length}
use Rattle.record_lines.specs.Parted.{ended_by, rest_by}
use Rattle.record_lines.specs.Lines.{line_feed, lines_of, last_of}
use Rattle.claims_record.specs.Lines.{NoFeed, AllNoFeed, with_ends, Parted, Claim-195}
use Rattle.claims_record.proofs.PartsLaws.{Lacks, AllLack, lacks-none, glued, glued-parts, parts-lack}
use Rattle.claims_record.proofs.PartsLaws.{ended-glued, rest-glued}

no-feed : (ls : List (List ℕ)) → AllLack line_feed ls → AllNoFeed ls
no-feed [] n = tt
no-feed (l ∷ ls) n = (n.0, no-feed ls n.1)

feed-less : (ls : List (List ℕ)) → AllNoFeed ls → AllLack line_feed ls
feed-less [] n = tt
feed-less (l ∷ ls) n = (n.0, feed-less ls n.1)

-- lines with their ends, and what stands behind them
pub glued-ends : (ls : List (List ℕ)) (r : List ℕ) → with_ends ls ++ r ≡ glued line_feed ls r
glued-ends [] r = refl
glued-ends (l ∷ ls) r =
    append_assoc l (line_feed ∷ with_ends ls) r
    ∙ ap (λ (bs : List ℕ). l ++ (line_feed ∷ bs)) (glued-ends ls r)

-- ---- the lines of bytes

module _ (bs : List ℕ) where
  abbrev ended : List (List ℕ)
  ended = ended_by line_feed [] bs

  parted-by : (r : List ℕ) → Lacks line_feed r → AllLack line_feed ended → glued line_feed ended r ≡ bs →
      AllNoFeed (ended ++ last_of r) × Parted (ended ++ last_of r) bs
  unfolding last_of
  parted-by [] n all e =
      subst (λ ls. AllNoFeed ls × Parted ls bs) (sym (append-nil ended))
      (no-feed ended all, inl (sym e ∙ sym (glued-ends ended []) ∙ append-nil (with_ends ended)))
  parted-by (x ∷ xs) n all e = (
    all_end ended (x ∷ xs) all n,
    inr (ended, (x ∷ xs), refl, omega arith, sym (glued-ends ended (x ∷ xs) ∙ e)),
  )
    where
      all_end : (ls : List (List ℕ)) (l : List ℕ) → AllLack line_feed ls → Lacks line_feed l →
          AllNoFeed (ls ++ (l ∷ []))
      all_end [] l m n = (n, tt)
      all_end (k ∷ ls) l m n = (m.0, all_end ls l m.1 n)

  lines-1 : AllNoFeed (lines_of bs) × Parted (lines_of bs) bs
  unfolding lines_of
  lines-1 =
      let lack = parts-lack line_feed bs [] (lacks-none line_feed) in
      parted-by (rest_by line_feed [] bs) lack.1 lack.0 (glued-parts line_feed bs [])

-- ---- and back

lines-of : (ls : List (List ℕ)) (r : List ℕ) → AllLack line_feed ls → Lacks line_feed r →
    lines_of (glued line_feed ls r) ≡ ls ++ last_of r
unfolding lines_of
lines-of ls r n m = rw (ended-glued line_feed ls r n m, rest-glued line_feed ls r n m)

last_one : (l : List ℕ) → 1 ≤ length l → last_of l ≡ l ∷ []
unfolding last_of
last_one [] h = absurd (omega (arith, h))
last_one (x ∷ xs) h = refl

lines-2 : (ls : List (List ℕ)) (bs : List ℕ) → AllNoFeed ls × Parted ls bs → lines_of bs ≡ ls
unfolding last_of
lines-2 ls bs (n, inl e) =
    ap lines_of (e ∙ sym (append-nil (with_ends ls)) ∙ glued-ends ls [])
    ∙ lines-of ls [] (feed-less ls n) (lacks-none line_feed) ∙ append-nil ls
lines-2 ls bs (n, inr (ks, l, e, some, all)) =
    let each = split ks l (subst AllNoFeed e n) in
    ap lines_of (all ∙ glued-ends ks l) ∙ lines-of ks l (feed-less ks each.0) each.1
    ∙ ap (λ (ms : List (List ℕ)). ks ++ ms) (last_one l some) ∙ sym e
  where
    split : (ks : List (List ℕ)) (l : List ℕ) → AllNoFeed (ks ++ (l ∷ [])) → AllNoFeed ks × NoFeed l
    split [] l n = (tt, n.0)
    split (k ∷ ks) l n = let more = split ks l n.1 in ((n.0, more.0), more.1)

pub claim-195 : Claim-195
unfolding Claim-195
claim-195 ls bs = ((λ e. subst (λ ks. AllNoFeed ks × Parted ks bs) e (lines-1 bs)), lines-2 ls bs)
