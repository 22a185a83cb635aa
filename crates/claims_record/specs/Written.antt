-- Claims 192 to 194, on a line of a record: when it says a call, and what a number looks like that is
-- printed. 02, M-100; docs/RECORD.md.
--   worth t            what digits are worth: each by its place
--   Decimal t n        t is n in decimal: a digit or more, nothing else, worth n, which has 64 bits
--   Spelled ts ns      the fields ts are the numbers ns, in order
--   behind_tabs ts     the fields ts, each behind one tab
--   call_name c        the name of the call c; call_numbers c: its numbers, in the order of the header
--   WordsSmall c       what the call takes as a word has 32 bits
--   Written c l        l is the name of c and its numbers, and nothing else
-- Premises: none. No axioms.
use Rattle.std.specs.Prelude.{ℕ, ◌+◌, ◌-◌, ◌*◌, ◌^◌, ◌≤◌, ◌<◌, ◌≡◌, ◌↔◌, ◌≢◌, List, [], ◌∷◌, ◌++◌, length}
use Rattle.std.specs.Prelude.{get_or}
use Rattle.record_numbers.specs.Decimal.{text_of}
use Rattle.record_call.specs.Table.{line_of}
use Rattle.board_call.specs.declared.Call.{Call}
use Rattle.board_call.specs.declared.Call.TheVariants.{Reset, Wire, DomainRead, DomainWrite, PageRead}
use Rattle.board_call.specs.declared.Call.TheVariants.{PageWrite, Register, Top, Claim, Signals, Move}
use Rattle.claims_record.specs.Text.{text_codes}
use Rattle.std.specs.Prelude.{Some}

-- ---- numbers

abbrev pub worth : List ℕ → ℕ
worth [] = 0
worth (b ∷ bs) = (b - 48) * 10 ^ length bs + worth bs

pub record Decimal (t : List ℕ) (n : ℕ) : Type 0 where
  pub some : 1 ≤ length t
  pub digits : (i : ℕ) → i < length t → (48 ≤ get_or t i 0) × (get_or t i 0 ≤ 57)
  pub value : worth t ≡ n
  pub small : n < 2 ^ 64

abbrev pub Spelled : List (List ℕ) → List ℕ → Type 0
Spelled [] [] = Unit {0}
Spelled [] (n ∷ ns) = ⊥
Spelled (t ∷ ts) [] = ⊥
Spelled (t ∷ ts) (n ∷ ns) = Decimal t n × Spelled ts ns

-- ---- calls

abbrev pub call_name : Call → List ℕ
call_name Reset = text_codes "reset"
call_name (Wire i level) = text_codes "wire"
call_name (DomainRead d a) = text_codes "domain_read"
call_name (DomainWrite d a v) = text_codes "domain_write"
call_name (PageRead h f a) = text_codes "page_read"
call_name (PageWrite h f a v) = text_codes "page_write"
call_name (Register h f k s v) = text_codes "register"
call_name (Top h f) = text_codes "top"
call_name (Claim h f) = text_codes "claim"
call_name (Signals h) = text_codes "signals"
call_name (Move oh of nh nf n) = text_codes "move"

abbrev pub call_numbers : Call → List ℕ
call_numbers Reset = []
call_numbers (Wire i level) = i ∷ level ∷ []
call_numbers (DomainRead d a) = d ∷ a ∷ []
call_numbers (DomainWrite d a v) = d ∷ a ∷ v ∷ []
call_numbers (PageRead h f a) = h ∷ f ∷ a ∷ []
call_numbers (PageWrite h f a v) = h ∷ f ∷ a ∷ v ∷ []
call_numbers (Register h f k s v) = h ∷ f ∷ k ∷ s ∷ v ∷ []
call_numbers (Top h f) = h ∷ f ∷ []
call_numbers (Claim h f) = h ∷ f ∷ []
call_numbers (Signals h) = h ∷ []
call_numbers (Move oh of nh nf n) = oh ∷ of ∷ nh ∷ nf ∷ n ∷ []

abbrev pub WordsSmall : Call → Type 0
WordsSmall Reset = Unit {0}
WordsSmall (Wire i level) = Unit {0}
WordsSmall (DomainRead d a) = Unit {0}
WordsSmall (DomainWrite d a v) = v < 2 ^ 32
WordsSmall (PageRead h f a) = Unit {0}
WordsSmall (PageWrite h f a v) = v < 2 ^ 32
WordsSmall (Register h f k s v) = Unit {0}
WordsSmall (Top h f) = Unit {0}
WordsSmall (Claim h f) = Unit {0}
WordsSmall (Signals h) = Unit {0}
WordsSmall (Move oh of nh nf n) = Unit {0}

-- ---- lines

abbrev pub behind_tabs : List (List ℕ) → List ℕ
behind_tabs [] = []
behind_tabs (t ∷ ts) = 9 ∷ (t ++ behind_tabs ts)

pub record Written (c : Call) (l : List ℕ) : Type 0 where
  pub texts : List (List ℕ)
  pub line : l ≡ call_name c ++ behind_tabs texts
  pub numbers : Spelled texts (call_numbers c)
  pub words : WordsSmall c

-- a line says a call exactly if it has at most 200 bytes and is the name of the call, in small letters,
-- and its numbers in order, each behind one tab: decimal digits, one or more, of at most 64 bits, or 32
-- for a word
-- [02 M100.3 M100.6 M100.8]
unfoldable pub Claim-192 : Type 0
Claim-192 = (l : List ℕ) (c : Call) → (line_of l ≡ Some c) ↔ ((length l ≤ 200) × Written c l)

-- every call that a program can hold is said by some line of at most 200 bytes, so that the grammar
-- leaves none out
unfoldable pub Claim-193 : Type 0
Claim-193 =
    (c : Call) → ((i : ℕ) → i < length (call_numbers c) → get_or (call_numbers c) i 0 < 2 ^ 64) → WordsSmall c
    → (l : List ℕ) × (line_of l ≡ Some c)

-- a number of 64 bits is printed in decimal, with no zero in front but for 0 itself
unfoldable pub Claim-194 : Type 0
Claim-194 =
    (n : ℕ) → n < 2 ^ 64 → Decimal (text_of n) n × (10 ≤ n → get_or (text_of n) 0 0 ≢ 48) × (n < 10 →
    length (text_of n) ≡ 1)
