-- The table of the calls: what each tests, and what it may change and send. What is said of every call reads
-- it. 01, "Calls and their refusals", "The wired controller". Assumes nothing.
--   Tests          what is tested before a call is done: whether the state rules are; that every hart, file,
--                  domain, wire, wire level and kind of access that it names is there, and that the board
--                  does not bar it, as one whose child domain is in direct mode bars a move; that its address
--                  is a multiple of 4 in its region or page; that its select number is legal
--   numbered n a s the tests of a call that the board does not bar, by its numbers: n of names, a, s
--   FilePart       the files that it may change, before its messages arrive: none, number k, or every one
--   WiredPart      what it may change of the wired controller, before anything is sent: nothing; by wire i;
--                  by a read or a write of register r of a domain; by access n of a move from file f of hart
--                  h; or all. c says that a domain is the child
--   old_access, new_access n   access n of a move writes the old file, or the new one
--   CallRow        a row of the table
--   Wide           the number of a call that needs a bound, of 64 bits, if there is one: the value v
--   row_of c        the row of c
--   tests_rules c, present c b, addressed c, selected c    its tests; b is the board
use Rattle.std.specs.Prelude.{ℕ, Bool, true, false, cond, ◌&&◌, ◌||◌, eqb, leb, ltb}
use Rattle.sizes.specs.Sizes.{domain_count, hart_count}
use Rattle.file_select.specs.Select.{select_legal}
use Rattle.files.specs.Files.{file_number}
use Rattle.domain_region.specs.declared.Word.{Word}
use Rattle.domain_region.specs.Region.{address_legal, word_at}
use Rattle.domain.specs.Domain.{by_messages}
use Rattle.board_block.specs.Block.{Board}
use Rattle.board_call.specs.declared.Call.{Call}
use Rattle.board_call.specs.declared.Call.TheVariants.{Reset, Wire, DomainRead, DomainWrite, PageRead}
use Rattle.board_call.specs.declared.Call.TheVariants.{PageWrite, Register, Top, Claim, Signals, Move}
use Rattle.board_call.specs.Numbers.{is_wire, is_file, is_move, is_page_address}

pub record Tests : Type 0 where
  pub rules : Bool
  pub names : Board → Bool
  pub address : Bool
  pub select : Bool

abbrev pub numbered : Bool → Bool → Bool → Tests
numbered n a s = record { rules = true; names = λ b. n; address = a; select = s }

pub data FilePart : Type 0 where
  NoFile : FilePart
  OneFile : (k : ℕ) → FilePart
  EveryFile : FilePart

pub data WiredPart : Type 0 where
  Nothing : WiredPart
  ByWire : (i : ℕ) → WiredPart
  ByRead : (c : Bool) (r : Word) → WiredPart
  ByWrite : (c : Bool) (r : Word) (v : ℕ) → WiredPart
  ByAccess : (h f n : ℕ) → WiredPart
  Everything : WiredPart

pub data Wide : Type 0 where
  NoValue : Wide
  Value : (v : ℕ) → Wide

pub record CallRow : Type 0 where
  pub tests : Tests
  pub files : FilePart
  pub wired : WiredPart
  pub wide : Wide

abbrev pub old_access : ℕ → Bool
old_access n = eqb n 3

abbrev pub new_access : ℕ → Bool
new_access n = (leb 4 n && leb n 8) || leb 80 n

-- the files that access n writes, where old and new have these numbers
abbrev pub access_file : ℕ → ℕ → ℕ → FilePart
access_file old new n = cond (old_access n) (OneFile old) (cond (new_access n) (OneFile new) NoFile)

-- [01 C13 C15 C16 C20 V11]
unfoldable pub row_of : Call → CallRow
row_of Reset =
    record {
      tests = record { rules = false; names = λ b. true; address = true; select = true };
      files = EveryFile;
      wired = Everything;
      wide = NoValue;
    }
row_of (Wire w level) =
    record { tests = numbered (is_wire w level) true true; files = NoFile; wired = ByWire w; wide = NoValue }
row_of (DomainRead d a) =
    record {
      tests = numbered (ltb d domain_count) (address_legal a) true;
      files = NoFile;
      wired = ByRead (eqb d 1) (word_at a);
      wide = NoValue;
    }
row_of (DomainWrite d a v) =
    record {
      tests = numbered (ltb d domain_count) (address_legal a) true;
      files = NoFile;
      wired = ByWrite (eqb d 1) (word_at a) v;
      wide = NoValue;
    }
row_of (PageRead h f a) =
    record {
      tests = numbered (is_file h f) (is_page_address a) true;
      files = NoFile;
      wired = Nothing;
      wide = NoValue;
    }
row_of (PageWrite h f a v) =
    record {
      tests = numbered (is_file h f) (is_page_address a) true;
      files = OneFile (file_number h f);
      wired = Nothing;
      wide = NoValue;
    }
row_of (Register h f k s v) =
    record {
      tests = numbered (is_file h f && ltb k 4) true (select_legal s);
      files = cond (eqb k 0) NoFile (OneFile (file_number h f));
      wired = Nothing;
      wide = Value v;
    }
row_of (Top h f) =
    record { tests = numbered (is_file h f) true true; files = NoFile; wired = Nothing; wide = NoValue }
row_of (Claim h f) =
    record {
      tests = numbered (is_file h f) true true;
      files = OneFile (file_number h f);
      wired = Nothing;
      wide = NoValue;
    }
row_of (Signals h) =
    record { tests = numbered (ltb h hart_count) true true; files = NoFile; wired = Nothing; wide = NoValue }
row_of (Move oh of nh nf n) =
    record {
      tests = record {
        rules = true;
        names = λ b. is_move oh of nh nf n && by_messages b.wired.child;
        address = true;
        select = true;
      };
      files = access_file (file_number oh of) (file_number nh nf) n;
      wired = ByAccess oh of n;
      wide = NoValue;
    }

-- ---- what a call tests

abbrev pub tests_rules : Call → Bool
tests_rules c = (row_of c).tests.rules

abbrev pub present : Call → Board → Bool
present c b = (row_of c).tests.names b

abbrev pub addressed : Call → Bool
addressed c = (row_of c).tests.address

abbrev pub selected : Call → Bool
selected c = (row_of c).tests.select
