-- What a line says: one table of calls, by name and count of numbers. 02, M-100; docs/RECORD.md.
-- Assumes nothing.
--   NameRow             a call's name in bytes, how many numbers it has, whether the last is a word of 32
--                       bits, and the call with such numbers
--   first .. fifth      one of some numbers, by its place: 0 if there are fewer
--   reset_row ..        the row of each call
--   table               all of them
--   same_bytes a b      a and b are the same bytes
--   last_in ns          the last of the numbers ns: 0 if there is none
--   word_at_end t ns    if t, the last of the numbers ns is a word of 32 bits
--   fits r name ns      r is the row of a line with this name and these numbers
--   call_in rs name ns  the call of the first row that fits, if there is one
--   line_of l           what the line l says
use Rattle.std.specs.Prelude.{ℕ, ◌^◌, Bool, true, false, cond, ◌&&◌, List, [], ◌∷◌, eqb, leb, ltb, length}
use Rattle.std.specs.Prelude.{get_or, Option, Some, None}
use Rattle.record_lines.specs.Lines.{line_size}
use Rattle.record_fields.specs.Fields.{name_of, texts_of, are_numbers, numbers_of}
use Rattle.board_call.specs.declared.Call.{Call}
use Rattle.board_call.specs.declared.Call.TheVariants as calls

pub record NameRow : Type 0 where
  pub name : List ℕ
  pub count : ℕ
  pub word : Bool
  pub make : List ℕ → Call

abbrev pub first : List ℕ → ℕ
first ns = get_or ns 0 0

abbrev pub second : List ℕ → ℕ
second ns = get_or ns 1 0

abbrev pub third : List ℕ → ℕ
third ns = get_or ns 2 0

abbrev pub fourth : List ℕ → ℕ
fourth ns = get_or ns 3 0

abbrev pub fifth : List ℕ → ℕ
fifth ns = get_or ns 4 0

-- reset
abbrev pub reset_row : NameRow
reset_row =
    record {
      name = 114 ∷ 101 ∷ 115 ∷ 101 ∷ 116 ∷ [];
      count = 0;
      word = false;
      make = λ ns. calls.Reset;
    }

-- wire
abbrev pub wire_row : NameRow
wire_row =
    record {
      name = 119 ∷ 105 ∷ 114 ∷ 101 ∷ [];
      count = 2;
      word = false;
      make = λ ns. calls.Wire (first ns) (second ns);
    }

-- domain_read
abbrev pub domain_read_row : NameRow
domain_read_row =
    record {
      name = 100 ∷ 111 ∷ 109 ∷ 97 ∷ 105 ∷ 110 ∷ 95 ∷ 114 ∷ 101 ∷ 97 ∷ 100 ∷ [];
      count = 2;
      word = false;
      make = λ ns. calls.DomainRead (first ns) (second ns);
    }

-- domain_write
abbrev pub domain_write_row : NameRow
domain_write_row =
    record {
      name = 100 ∷ 111 ∷ 109 ∷ 97 ∷ 105 ∷ 110 ∷ 95 ∷ 119 ∷ 114 ∷ 105 ∷ 116 ∷ 101 ∷ [];
      count = 3;
      word = true;
      make = λ ns. calls.DomainWrite (first ns) (second ns) (third ns);
    }

-- page_read
abbrev pub page_read_row : NameRow
page_read_row =
    record {
      name = 112 ∷ 97 ∷ 103 ∷ 101 ∷ 95 ∷ 114 ∷ 101 ∷ 97 ∷ 100 ∷ [];
      count = 3;
      word = false;
      make = λ ns. calls.PageRead (first ns) (second ns) (third ns);
    }

-- page_write
abbrev pub page_write_row : NameRow
page_write_row =
    record {
      name = 112 ∷ 97 ∷ 103 ∷ 101 ∷ 95 ∷ 119 ∷ 114 ∷ 105 ∷ 116 ∷ 101 ∷ [];
      count = 4;
      word = true;
      make = λ ns. calls.PageWrite (first ns) (second ns) (third ns) (fourth ns);
    }

-- register
abbrev pub register_row : NameRow
register_row =
    record {
      name = 114 ∷ 101 ∷ 103 ∷ 105 ∷ 115 ∷ 116 ∷ 101 ∷ 114 ∷ [];
      count = 5;
      word = false;
      make = λ ns. calls.Register (first ns) (second ns) (third ns) (fourth ns) (fifth ns);
    }

-- top
abbrev pub top_row : NameRow
top_row =
    record {
      name = 116 ∷ 111 ∷ 112 ∷ [];
      count = 2;
      word = false;
      make = λ ns. calls.Top (first ns) (second ns);
    }

-- claim
abbrev pub claim_row : NameRow
claim_row =
    record {
      name = 99 ∷ 108 ∷ 97 ∷ 105 ∷ 109 ∷ [];
      count = 2;
      word = false;
      make = λ ns. calls.Claim (first ns) (second ns);
    }

-- signals
abbrev pub signals_row : NameRow
signals_row =
    record {
      name = 115 ∷ 105 ∷ 103 ∷ 110 ∷ 97 ∷ 108 ∷ 115 ∷ [];
      count = 1;
      word = false;
      make = λ ns. calls.Signals (first ns);
    }

-- move
abbrev pub move_row : NameRow
move_row =
    record {
      name = 109 ∷ 111 ∷ 118 ∷ 101 ∷ [];
      count = 5;
      word = false;
      make = λ ns. calls.Move (first ns) (second ns) (third ns) (fourth ns) (fifth ns);
    }

-- in the order of how many numbers they have
-- [02 M100.3]
unfoldable pub table : List NameRow
table =
    reset_row ∷ signals_row ∷ wire_row ∷ domain_read_row ∷ top_row ∷ claim_row
    ∷ page_read_row ∷ domain_write_row ∷ page_write_row ∷ register_row ∷ move_row ∷ []

unfoldable pub same_bytes : List ℕ → List ℕ → Bool
same_bytes [] [] = true
same_bytes [] (y ∷ ys) = false
same_bytes (x ∷ xs) [] = false
same_bytes (x ∷ xs) (y ∷ ys) = eqb x y && same_bytes xs ys

abbrev pub last_in : List ℕ → ℕ
last_in [] = 0
last_in (n ∷ []) = n
last_in (n ∷ m ∷ ns) = last_in (m ∷ ns)

abbrev pub word_at_end : Bool → List ℕ → Bool
word_at_end true ns = ltb (last_in ns) (2 ^ 32)
word_at_end false ns = true

abbrev pub fits : NameRow → List ℕ → List ℕ → Bool
fits r name ns = eqb (length ns) r.count && (same_bytes name r.name && word_at_end r.word ns)

unfoldable pub call_in : List NameRow → List ℕ → List ℕ → Option Call
call_in [] name ns = None
call_in (r ∷ rs) name ns = cond (fits r name ns) (Some (r.make ns)) (call_in rs name ns)

-- [02 M100.6]
unfoldable pub line_of : List ℕ → Option Call
line_of l =
    cond (leb (length l) line_size && are_numbers (texts_of l))
    (call_in table (name_of l) (numbers_of (texts_of l)))
    None
