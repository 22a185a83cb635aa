-- Claims 192 and 193: a line is its fields, put together with tabs, and the table says which call they
-- are. No axioms.
use Prim.Native.Nat.{ℕ, suc, ◌*◌, ◌^◌, ◌≤◌, ◌<◌}
use mathlib.Core.Path.{◌≡◌, refl, sym, ap, subst, ◌∙◌}
use mathlib.Core.Bool.{Bool, true, cond, ◌&&◌, not}
use mathlib.Core.List.{List, [], ◌∷◌, ◌++◌, append-nil, map}
use native.Mathlib.Omega.{arith}
use borrow.Author.Tests.{le-leb, leb-true, eqb-false, not-true}
use lib.Dec.{eqb, leb}
use lib.ListN.{length, get_or, length-append}
use Rattle.words.proofs.TestsLaws.{tested, and_first, and_second}
use Rattle.record_numbers.specs.Decimal.{text_of}
use Rattle.record_numbers.proofs.TextLaws.{text-le}
use Rattle.record_lines.specs.Parted.{ended_by, rest_by}
use Rattle.record_lines.specs.Lines.{line_size}
use Rattle.record_fields.specs.Fields.{tab, fields_of, first_of, others_of, name_of, texts_of, are_numbers}
use Rattle.record_fields.specs.Fields.{numbers_of}
use Rattle.record_call.specs.Table.{table, call_in, line_of}
use Rattle.board_call.specs.declared.Call.{Call}
use Rattle.board_call.specs.declared.Call.TheVariants.{Reset, Wire, DomainRead, DomainWrite, PageRead}
use Rattle.board_call.specs.declared.Call.TheVariants.{PageWrite, Register, Top, Claim, Signals, Move}
use Rattle.claims_record.specs.Written.{Decimal, Spelled, call_name, call_numbers}
use Rattle.claims_record.specs.Written.{behind_tabs, Written}
use Rattle.claims_record.specs.Written.{Claim-192, Claim-193}
use Rattle.claims_record.proofs.PartsLaws.{Lacks, AllLack, lacks-none, lacks-cons, glued, glued-parts}
use Rattle.claims_record.proofs.PartsLaws.{ended-part, rest_part, ended-only, rest-only}
use Rattle.claims_record.proofs.Decimals.{spelled-1, spelled-2, text-decimal}
use Rattle.claims_record.proofs.Rows.{table-1, table-2, call-not-unreadable}
use Rattle.std.specs.Prelude.{Option, Some, None}

-- ---- the fields of a line, put together

tabs-glued : (ls : List (List ℕ)) (r : List ℕ) → behind_tabs (ls ++ (r ∷ [])) ≡ tab ∷ glued tab ls r
tabs-glued [] r = ap (λ (bs : List ℕ). tab ∷ bs) (append-nil r)
tabs-glued (l ∷ ls) r = ap (λ (bs : List ℕ). tab ∷ (l ++ bs)) (tabs-glued ls r)

fields-glued : (ls : List (List ℕ)) (r : List ℕ) →
    glued tab ls r ≡ first_of (ls ++ (r ∷ [])) ++ behind_tabs (others_of (ls ++ (r ∷ [])))
fields-glued [] r = sym (append-nil r)
fields-glued (l ∷ ls) r = ap (λ (bs : List ℕ). l ++ bs) (sym (tabs-glued ls r))

fields-1 : (l : List ℕ) → l ≡ name_of l ++ behind_tabs (texts_of l)
unfolding name_of texts_of fields_of
fields-1 l = sym (glued-parts tab l []) ∙ fields-glued (ended_by tab [] l) (rest_by tab [] l)

pub fields-2 : (t : List ℕ) (ts : List (List ℕ)) → Lacks tab t → AllLack tab ts →
    fields_of (t ++ behind_tabs ts) ≡ t ∷ ts
unfolding fields_of
fields-2 t [] n all =
    ap (λ (bs : List ℕ). ended_by tab [] bs ++ (rest_by tab [] bs ∷ [])) (append-nil t)
    ∙ rw (ended-only tab t [] n, rest-only tab t [] n)
fields-2 t (u ∷ ts) n all =
    let bs : List ℕ = u ++ behind_tabs ts in
    rw (ended-part tab t bs [] n, rest_part tab t bs [] n)
    (ap (λ (us : List (List ℕ)). t ∷ us) (fields-2 u ts all.0 all.1))

-- ---- nothing of a call has a tab

decimal-lacks : (t : List ℕ) (n : ℕ) → Decimal t n → Lacks tab t
decimal-lacks t n d i h e = absurd (omega (arith, d.digits i h, e))

spelled-lack : (ts : List (List ℕ)) (ns : List ℕ) → Spelled ts ns → AllLack tab ts
spelled-lack [] [] s = tt
spelled-lack [] (n ∷ ns) s = elim s [ ]
spelled-lack (t ∷ ts) [] s = elim s [ ]
spelled-lack (t ∷ ts) (n ∷ ns) s = (decimal-lacks t n s.0, spelled-lack ts ns s.1)

abbrev lacks_tab : List ℕ → Bool
lacks_tab [] = true
lacks_tab (x ∷ xs) = not (eqb x tab) && lacks_tab xs

lacks-tested : (t : List ℕ) → lacks_tab t ≡ true → Lacks tab t
lacks-tested [] e = lacks-none tab
lacks-tested (x ∷ xs) e =
    lacks-cons tab x xs (eqb-false x tab
    (not-true (eqb x tab) (and_first (not (eqb x tab)) (lacks_tab xs) e)))
    (lacks-tested xs (and_second (not (eqb x tab)) (lacks_tab xs) e))

name-tested : (c : Call) → (lacks_tab (call_name c) ≡ true) × (length (call_name c) ≤ 12) × (length
    (call_numbers c) ≤ 5)
name-tested Reset = (refl, omega arith, omega arith)
name-tested (Wire i level) = (refl, omega arith, omega arith)
name-tested (DomainRead d a) = (refl, omega arith, omega arith)
name-tested (DomainWrite d a v) = (refl, omega arith, omega arith)
name-tested (PageRead h f a) = (refl, omega arith, omega arith)
name-tested (PageWrite h f a v) = (refl, omega arith, omega arith)
name-tested (Register h f k s v) = (refl, omega arith, omega arith)
name-tested (Top h f) = (refl, omega arith, omega arith)
name-tested (Claim h f) = (refl, omega arith, omega arith)
name-tested (Signals h) = (refl, omega arith, omega arith)
name-tested (Move oh of nh nf n) = (refl, omega arith, omega arith)

-- ---- both directions

module _ (l : List ℕ) (c : Call) where
  abbrev readable : Bool
  readable = leb (length l) line_size && are_numbers (texts_of l)

  abbrev says : Option Call
  says = call_in table (name_of l) (numbers_of (texts_of l))

  pub written-1 : line_of l ≡ Some c → (length l ≤ 200) × Written c l
  unfolding line_of
  written-1 e =
      tested readable (λ t. good t (sym (ap (λ (u : Bool). cond u says None) t) ∙ e))
      (λ t. absurd (call-not-unreadable c (sym (ap (λ (u : Bool). cond u says None) t) ∙ e)))
    where
      good : readable ≡ true → says ≡ Some c → (length l ≤ 200) × Written c l
      good t q =
          let row = table-1 (name_of l) (numbers_of (texts_of l)) c q in (
            leb-true (length l) line_size (and_first (leb (length l) line_size) (are_numbers (texts_of l)) t),
            record {
              texts = texts_of l;
              line = fields-1 l ∙ ap (λ (n : List ℕ). n ++ behind_tabs (texts_of l)) (sym row.name);
              numbers = subst (Spelled (texts_of l)) (sym row.numbers)
                  (spelled-1 (texts_of l)
                  (and_second (leb (length l) line_size) (are_numbers (texts_of l)) t));
              words = row.words;
            },
          )

  pub written_2 : length l ≤ 200 → Written c l → line_of l ≡ Some c
  unfolding line_of name_of texts_of
  written_2 le w =
      let name = lacks-tested (call_name c) (name-tested c).0 in
      let fields : fields_of l ≡ call_name c ∷ w.texts =
      ap fields_of w.line ∙ fields-2 (call_name c) w.texts name (spelled-lack w.texts
      (call_numbers c) w.numbers) in
      let all = spelled-2 w.texts (call_numbers c) w.numbers in
      rw (fields, le-leb (length l) line_size le, all.0, all.1) (table-2 c w.words)

pub claim-192 : Claim-192
unfolding Claim-192
claim-192 l c = (written-1 l c, λ p. written_2 l c p.0 p.1)

-- ---- a line for each call

texts-spelled : (ns : List ℕ) → ((i : ℕ) → i < length ns → get_or ns i 0 < 2 ^ 64) → Spelled
    (map text_of ns) ns
texts-spelled [] h = tt
texts-spelled (n ∷ ns) h = (
  text-decimal n (h 0 (omega arith)),
  texts-spelled ns
      (λ i g. h (suc i) (omega (arith, g))),
)

texts-le : (ns : List ℕ) → length (behind_tabs (map text_of ns)) ≤ length ns * 21
texts-le [] = omega arith
texts-le (n ∷ ns) =
    omega (arith, length-append (text_of n) (behind_tabs (map text_of ns)), text-le n, texts-le ns)

pub claim-193 : Claim-193
unfolding Claim-193
claim-193 c small words =
    let l : List ℕ = call_name c ++ behind_tabs (map text_of (call_numbers c)) in
    let few = name-tested c in (
      l,
      written_2 l c
          (omega (
            arith,
            length-append (call_name c) (behind_tabs (map text_of (call_numbers c))),
            texts-le
                (call_numbers c),
            few.1,
            few.2,
          ))
          record {
            texts = map text_of (call_numbers c);
            line = refl;
            numbers = texts-spelled
                (call_numbers c) small;
            words = words;
          },
    )
