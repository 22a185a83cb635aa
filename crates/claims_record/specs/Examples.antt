-- Claim 202: lines that are read and lines that are not, each by itself. 02, M-100; docs/RECORD.md.
-- Premises: none. No axioms.
use Rattle.std.specs.Prelude.{◌≡◌, [], ◌++◌, replicate}
use Rattle.record_call.specs.Table.{line_of}
use Rattle.board_call.specs.declared.Call.TheVariants.{Reset, Wire, PageWrite, Register, Signals}
use Rattle.claims_record.specs.Text.{text_codes}
use Rattle.std.specs.Prelude.{Some, None}

-- lines at the edges: 200 and 201 bytes, the largest numbers and one more, zeros in front, an empty line,
-- a carriage return, a sign, a space, two tabs, a tab at the end, a number too few and one too many, a
-- capital letter
-- [02 M100.8]
unfoldable pub Claim-202 : Type 0
Claim-202 =
    (line_of (text_codes "reset") ≡ Some Reset)
    × (line_of (text_codes "wire\t007\t1") ≡ Some (Wire 7 1))
    × (line_of (text_codes "signals\t" ++ replicate 192 48) ≡ Some (Signals 0))
    × (line_of (text_codes "signals\t" ++ replicate 193 48) ≡ None)
    × (line_of (text_codes "signals\t18446744073709551615") ≡ Some (Signals 18446744073709551615))
    × (line_of (text_codes "signals\t18446744073709551616") ≡ None)
    × (line_of (text_codes "page_write\t0\t2\t0\t4294967295") ≡ Some (PageWrite 0 2 0 4294967295))
    × (line_of (text_codes "page_write\t0\t2\t0\t4294967296") ≡ None)
    × (line_of (text_codes "register\t1\t2\t3\t4\t5") ≡ Some (Register 1 2 3 4 5))
    × (line_of [] ≡ None)
    × (line_of (text_codes "reset\r") ≡ None)
    × (line_of (text_codes "signals\t+1") ≡ None)
    × (line_of (text_codes "signals 1") ≡ None)
    × (line_of (text_codes "signals\t\t1") ≡ None)
    × (line_of (text_codes "signals\t1\t") ≡ None)
    × (line_of (text_codes "wire\t7") ≡ None)
    × (line_of (text_codes "reset\t0") ≡ None)
    × (line_of (text_codes "Reset") ≡ None)
