-- Claim 202, by computing. No axioms.
use mathlib.Core.Path.{refl}
use Rattle.record_numbers.specs.Decimal.{all_digits, value_onto, is_number}
use Rattle.record_lines.specs.Parted.{ended_by, rest_by}
use Rattle.record_fields.specs.Fields.{fields_of, name_of, texts_of, are_numbers, numbers_of}
use Rattle.record_call.specs.Table.{table, same_bytes, call_in, line_of}
use Rattle.claims_record.specs.Examples.{Claim-202}

pub claim-202 : Claim-202
unfolding Claim-202 line_of call_in table same_bytes numbers_of are_numbers texts_of name_of fields_of rest_by
    ended_by
    is_number value_onto all_digits
claim-202 = (
  refl,
  refl,
  refl,
  refl,
  refl,
  refl,
  refl,
  refl,
  refl,
  refl,
  refl,
  refl,
  refl,
  refl,
  refl,
  refl,
  refl,
  refl,
)
