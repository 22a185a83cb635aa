-- What an accepted call on the wired controller leaves of the board and the log. Contracts of private
-- functions cite it; those of the calls do not. Assumes nothing.
--   Left o l l' g g' n   the block l became l' and the log g became g': the wired controller did o, its
--                        messages reached their files and are logged, and n is their number
use Rattle.std.specs.Prelude.{ℕ, ◌≡◌, List, length}
use Rattle.domain_sending.specs.Sending.{logged}
use Rattle.wired.specs.Controller.{Out}
use Rattle.board_block.specs.Block.{with_wired, board_of}
use Rattle.board_call.specs.Outcome.{delivered}

abbrev pub Left : Out → List ℕ → List ℕ → List ℕ → List ℕ → ℕ → Type 0
Left o l l' g g' n =
    (board_of l' ≡ delivered (with_wired (board_of l) o.wired) o.messages)
    × (g' ≡ logged g o.messages) × (n ≡ length o.messages)
