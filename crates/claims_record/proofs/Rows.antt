-- The table of calls, row by row: each row says its call, and no other. No axioms.
use Prim.Native.Nat.{ℕ, ◌^◌}
use mathlib.Core.Path.{◌≡◌, refl, sym, ap, subst, ◌∙◌}
use mathlib.Core.Bool.{Bool, true, false, cond, ◌&&◌}
use mathlib.Core.List.{List, [], ◌∷◌}
use native.Mathlib.Omega.{arith}
use borrow.Author.Tests.{eqb-true, ltb-true, lt-ltb}
use lib.Dec.{eqb}
use lib.ListN.{length}
use Rattle.words.proofs.TestsLaws.{tested, and_first, and_second}
use Rattle.record_call.specs.Table.{NameRow, table, same_bytes, word_at_end, fits, call_in}
use Rattle.record_call.specs.Table.{reset_row, signals_row, wire_row, domain_read_row, top_row, claim_row}
use Rattle.record_call.specs.Table.{page_read_row, domain_write_row, page_write_row, register_row, move_row}
use Rattle.record_call.proofs.TableLaws.{same-bytes-1}
use Rattle.board_call.specs.declared.Call.{Call}
use Rattle.board_call.specs.declared.Call.TheVariants.{Reset, Wire, DomainRead, DomainWrite, PageRead}
use Rattle.board_call.specs.declared.Call.TheVariants.{PageWrite, Register, Top, Claim, Signals, Move}
use Rattle.claims_record.specs.Written.{call_name, call_numbers, WordsSmall}
use Rattle.std.specs.Prelude.{Option, Some, None}

-- what the call c has to do with a name and with numbers
pub record Says (c : Call) (n ns : List ℕ) : Type 0 where
  pub name : call_name c ≡ n
  pub numbers : call_numbers c ≡ ns
  pub words : WordsSmall c

-- a row says its call, if the numbers are as many as it has
abbrev RowSays : NameRow → Type 0
RowSays r = (ns : List ℕ) → length ns ≡ r.count → word_at_end r.word ns ≡ true →
    Says (r.make ns) r.name ns

abbrev AllSay : List NameRow → Type 0
AllSay [] = Unit {0}
AllSay (r ∷ rs) = RowSays r × AllSay rs

-- ---- the call of a line

abbrev call_or : Call → Option Call → Call
call_or d (Some c) = c
call_or d None = d

abbrev is_call : Option Call → Bool
is_call (Some c) = true
is_call None = false

pub same-call : (c d : Call) → ◌≡◌ {A = Option Call} (Some c) (Some d) → c ≡ d
same-call c d e = ap (call_or c) e

pub call-not-unreadable : (c : Call) → ◌≡◌ {A = Option Call} None (Some c) → ⊥
call-not-unreadable c e = subst (λ (t : Bool). cond t ⊥ (Unit {0})) (ap is_call e) tt

-- ---- from the table to the call

row_in : (rs : List NameRow) (name ns : List ℕ) (c : Call) → AllSay rs →
    call_in rs name ns ≡ Some c → Says c name ns
unfolding call_in
row_in [] name ns c say e = absurd (call-not-unreadable c e)
row_in (r ∷ rs) name ns c say e =
    tested (fits r name ns)
    (λ t. here t (sym (ap (λ (u : Bool). cond u (Some (r.make ns)) (call_in rs name ns)) t) ∙ e))
    (λ t. row_in rs name ns c say.1 (sym (ap
    (λ (u : Bool). cond u (Some (r.make ns)) (call_in rs name ns)) t) ∙ e))
  where
    here : fits r name ns ≡ true → ◌≡◌ {A = Option Call} (Some (r.make ns)) (Some c) → Says c name ns
    here t q =
        let many = and_first (eqb (length ns) r.count) (same_bytes name r.name && word_at_end
        r.word ns) t in
        let rest = and_second (eqb (length ns) r.count) (same_bytes name r.name && word_at_end
        r.word ns) t in
        let same = same-bytes-1 name r.name (and_first (same_bytes name r.name) (word_at_end
        r.word ns) rest) in
        let word = and_second (same_bytes name r.name) (word_at_end r.word ns) rest in
        subst (λ d. Says d name ns) (same-call (r.make ns) c q)
        (subst (λ n. Says (r.make ns) n ns) (sym same)
        (say.0 ns (eqb-true (length ns) r.count many) word))

-- each row, by how many numbers it has
none : (r : NameRow) → r.count ≡ 0 → (word_at_end r.word [] ≡ true → Says (r.make []) r.name []) →
    RowSays r
none r e s [] h w = s w
none r e s (a ∷ ns) h w = absurd (omega (arith, e, h))

one : (r : NameRow) → r.count ≡ 1 → ((a : ℕ) → word_at_end r.word (a ∷ []) ≡ true →
    Says (r.make (a ∷ [])) r.name (a ∷ [])) →
    RowSays r
one r e s [] h w = absurd (omega (arith, e, h))
one r e s (a ∷ []) h w = s a w
one r e s (a ∷ b ∷ ns) h w = absurd (omega (arith, e, h))

two : (r : NameRow) → r.count ≡ 2 →
    ((a b : ℕ) → word_at_end r.word (a ∷ b ∷ []) ≡ true →
    Says (r.make (a ∷ b ∷ [])) r.name (a ∷ b ∷ [])) → RowSays r
two r e s [] h w = absurd (omega (arith, e, h))
two r e s (a ∷ []) h w = absurd (omega (arith, e, h))
two r e s (a ∷ b ∷ []) h w = s a b w
two r e s (a ∷ b ∷ c ∷ ns) h w = absurd (omega (arith, e, h))

three : (r : NameRow) → r.count ≡ 3 →
    ((a b c : ℕ) → word_at_end r.word (a ∷ b ∷ c ∷ []) ≡ true →
    Says (r.make (a ∷ b ∷ c ∷ [])) r.name (a ∷ b ∷ c ∷ [])) → RowSays r
three r e s [] h w = absurd (omega (arith, e, h))
three r e s (a ∷ []) h w = absurd (omega (arith, e, h))
three r e s (a ∷ b ∷ []) h w = absurd (omega (arith, e, h))
three r e s (a ∷ b ∷ c ∷ []) h w = s a b c w
three r e s (a ∷ b ∷ c ∷ d ∷ ns) h w = absurd (omega (arith, e, h))

four : (r : NameRow) → r.count ≡ 4 →
    ((a b c d : ℕ) → word_at_end r.word (a ∷ b ∷ c ∷ d ∷ []) ≡ true →
    Says (r.make (a ∷ b ∷ c ∷ d ∷ [])) r.name (a ∷ b ∷ c ∷ d ∷ [])) → RowSays r
four r e s [] h w = absurd (omega (arith, e, h))
four r e s (a ∷ []) h w = absurd (omega (arith, e, h))
four r e s (a ∷ b ∷ []) h w = absurd (omega (arith, e, h))
four r e s (a ∷ b ∷ c ∷ []) h w = absurd (omega (arith, e, h))
four r e s (a ∷ b ∷ c ∷ d ∷ []) h w = s a b c d w
four r e s (a ∷ b ∷ c ∷ d ∷ f ∷ ns) h w = absurd (omega (arith, e, h))

five : (r : NameRow) → r.count ≡ 5 →
    ((a b c d f : ℕ) → word_at_end r.word (a ∷ b ∷ c ∷ d ∷ f ∷ []) ≡ true →
    Says (r.make (a ∷ b ∷ c ∷ d ∷ f ∷ [])) r.name (a ∷ b ∷ c ∷ d ∷ f ∷ [])) → RowSays r
five r e s [] h w = absurd (omega (arith, e, h))
five r e s (a ∷ []) h w = absurd (omega (arith, e, h))
five r e s (a ∷ b ∷ []) h w = absurd (omega (arith, e, h))
five r e s (a ∷ b ∷ c ∷ []) h w = absurd (omega (arith, e, h))
five r e s (a ∷ b ∷ c ∷ d ∷ []) h w = absurd (omega (arith, e, h))
five r e s (a ∷ b ∷ c ∷ d ∷ f ∷ []) h w = s a b c d f w
five r e s (a ∷ b ∷ c ∷ d ∷ f ∷ g ∷ ns) h w = absurd (omega (arith, e, h))

all_say : AllSay table
unfolding table
all_say = (
  none reset_row refl (λ w. record { name = refl; numbers = refl; words = tt }),
  (
    one signals_row refl (λ a w. record { name = refl; numbers = refl; words = tt }),
    (
      two wire_row refl (λ a b w. record { name = refl; numbers = refl; words = tt }),
      (
        two domain_read_row refl (λ a b w. record { name = refl; numbers = refl; words = tt }),
        (
          two top_row refl (λ a b w. record { name = refl; numbers = refl; words = tt }),
          (
            two claim_row refl (λ a b w. record { name = refl; numbers = refl; words = tt }),
            (
              three page_read_row refl (λ a b c w. record { name = refl; numbers = refl; words = tt }),
              (
                three domain_write_row refl (λ a b c w. record {
                  name = refl;
                  numbers = refl;
                  words =
                      ltb-true c (2 ^ 32) w;
                }),
                (
                  four page_write_row refl (λ a b c d w. record {
                    name = refl;
                    numbers = refl;
                    words =
                        ltb-true d (2 ^ 32) w;
                  }),
                  (
                    five register_row refl
                        (λ a b c d f w. record { name = refl; numbers = refl; words = tt }),
                    (
                      five move_row refl (λ a b c d f w. record { name = refl; numbers = refl; words = tt }),
                      tt,
                    ),
                  ),
                ),
              ),
            ),
          ),
        ),
      ),
    ),
  ),
)

pub table-1 : (name ns : List ℕ) (c : Call) → call_in table name ns ≡ Some c → Says c name ns
table-1 name ns c e = row_in table name ns c all_say e

-- ---- from the call to the table

pub table-2 : (c : Call) → WordsSmall c → call_in table (call_name c) (call_numbers c) ≡ Some c
unfolding call_in table same_bytes
table-2 Reset w = refl
table-2 (Wire i level) w = refl
table-2 (DomainRead d a) w = refl
table-2 (DomainWrite d a v) w = rw (lt-ltb v (2 ^ 32) w)
table-2 (PageRead h f a) w = refl
table-2 (PageWrite h f a v) w = rw (lt-ltb v (2 ^ 32) w)
table-2 (Register h f k s v) w = refl
table-2 (Top h f) w = refl
table-2 (Claim h f) w = refl
table-2 (Signals h) w = refl
table-2 (Move oh of nh nf n) w = refl
