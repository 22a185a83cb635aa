-- `board_file_calls::block_file::check_page` meets its contract. Assumes nothing.
use mathlib.Core.Path.{◌≡◌, ap₂, ◌∙◌}
use mathlib.Core.Bool.{Bool, true}
use Rattle.board_call.specs.Calls.{numbered}
use Rattle.board_call.specs.Numbers.{is_file, is_page_address}
use Rattle.board_call.specs.Refusal.{name_refusal_by}
use Rattle.board_file_calls.proofs.block_file.check_page.Goals as goal

pub returns : goal.returns
returns c b =
    let args = c.args in
    let there : c.is_file.result ≡ is_file args.hart args.file = c.is_file.ensures in
    let at : c.is_page_address.result ≡ is_page_address args.address = c.is_page_address.ensures in
    c.check_numbers.ensures b ∙ ap₂ (λ (m d : Bool). name_refusal_by (numbered m d true) b) there at
