-- The number of a call that a program can hold: a value of 64 bits. Assumes nothing.
--   Small c   the value of a register access has 64 bits; no other number of a call needs a bound
use Rattle.std.specs.Prelude.{◌^◌, ◌<◌}
use Rattle.board_call.specs.declared.Call.{Call}
use Rattle.board_call.specs.Calls.{Wide, NoValue, Value, row_of}

abbrev pub InBound : Wide → Type 0
InBound NoValue = Unit {0}
InBound (Value v) = v < 2 ^ 64

abbrev pub Small : Call → Type 0
Small c = InBound (row_of c).wide
