-- The field reads as the value so far reads with the bytes that are left. Assumes nothing.
use Rattle.std.proofs.Common.{◌≡◌, ◌^◌, ◌<◌}
use lib.ListN.{drop}
use Rattle.record_numbers.specs.Decimal.{number_in}
use Rattle.record_numbers.proofs.ReadingLaws.{number_from}
use Rattle.record_numbers.proofs.reading.decimal.Given as goal

abbrev pub invariant-loop-byte : goal.invariant-loop-byte
invariant-loop-byte l =
    (l.value < 2 ^ 64) × (number_in l.field ≡ number_from l.value (drop l.byte-index l.field))
