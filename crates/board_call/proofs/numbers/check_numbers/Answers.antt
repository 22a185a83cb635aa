-- `board_call::numbers::check_numbers` meets its contract: test by test. Assumes nothing.
use mathlib.Core.Path.{sym}
use Rattle.board_call.proofs.RefusalLaws.{refused-name, refused-address, refused-select, numbers-name}
use Rattle.board_call.proofs.numbers.check_numbers.Goals as goal

pub returns-then-not-names : goal.returns-then-not-names
returns-then-not-names c b = sym (refused-name _ b c.if-not-names.true)

pub returns-then-not-address : goal.returns-then-not-address
returns-then-not-address c b = sym (refused-address _ b c.if-not-names.false c.if-not-address.true)

pub returns-then-not-select : goal.returns-then-not-select
returns-then-not-select c b =
    sym (refused-select _ b c.if-not-names.false c.if-not-address.false c.if-not-select.true)

pub returns : goal.returns
returns c b =
    sym (numbers-name _ b c.if-not-names.false c.if-not-address.false c.if-not-select.false)
