-- The paper's numbers for what a register access answers, a value or, if its select number is illegal, none:
-- the refusal, 0 if it is done, and the value. 01, "Calls and their refusals".
-- Assumes nothing.
use Rattle.std.specs.Prelude.{ℕ, Option, Some, None}

abbrev pub reply_number : Option ℕ → ℕ
reply_number (Some v) = 0
reply_number None = 6

abbrev pub reply_value : Option ℕ → ℕ
reply_value (Some v) = v
reply_value None = 0
