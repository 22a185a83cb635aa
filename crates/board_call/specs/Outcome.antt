-- What a call does, all in all. 01, "Calls and their refusals", "The wired controller". Assumes nothing.
--   Stepped           the board after a call, its value, the messages that it sent, in order, and the saved
--                     numbers
--   delivered b ms    b after the messages ms reached their files, in order
--   then_sent x        x, then each domain sends what is to be sent, and every message reaches its file
--   step c b s        what an accepted call does: its change, then what is sent; s are the saved numbers of a
--                     move
--   Outcome           refusal, value and count, the block, the log and the saved numbers after the call
--   outcome c l g s   what the call c does with the block l, the log g and the saved numbers s: refused, it
--                     answers 0 and 0 and changes nothing
--   Gives o r l g s   a call that answers r and leaves the block l, the log g and the saved numbers s does as
--                     o says
--   Does c l g r l' g'   the same of a call that is lent no saved numbers: any saved numbers stay as they are
use Rattle.std.specs.Prelude.{ℕ, ◌≡◌, cond, List, ◌++◌, eqb, length}
use Rattle.files.specs.Files.{all_reached}
use Rattle.domain_sending.specs.Sending.{logged}
use Rattle.wired.specs.Controller.{flushed}
use Rattle.board_block.specs.Block.{Board, with_files, with_wired, board_of, block_of}
use Rattle.board_call.specs.declared.Call.{Call}
use Rattle.board_call.specs.Answer.{Answer, refusal_number, answer_value, answer_count}
use Rattle.board_call.specs.Refusal.{refusal_of}
use Rattle.board_call.specs.Change.{Changed, change}

pub record Stepped : Type 0 where
  pub board : Board
  pub value : ℕ
  pub messages : List ℕ
  pub saved : List ℕ

abbrev pub delivered : Board → List ℕ → Board
delivered b ms = with_files b (all_reached b.files ms)

-- [01 B15 W45]
unfoldable pub then_sent : Changed → Stepped
then_sent x =
    let after = flushed x.board.wired in
    let ms = x.own ++ after.messages in
    record {
      board = delivered (with_wired x.board after.wired) ms;
      value = x.value;
      messages = ms;
      saved = x.saved;
    }

-- [01 X7 X8]
unfoldable pub step : Call → Board → List ℕ → Stepped
step c b s = then_sent (change c b s)

pub record Outcome : Type 0 where
  pub number : ℕ
  pub value : ℕ
  pub count : ℕ
  pub block : List ℕ
  pub log : List ℕ
  pub saved : List ℕ

-- [01 C19 V4]
abbrev pub refused_as : ℕ → List ℕ → List ℕ → List ℕ → Outcome
refused_as n l g s = record { number = n; value = 0; count = 0; block = l; log = g; saved = s }

-- [01 C9 W50 X7 X10]
abbrev pub done_as : Stepped → List ℕ → Outcome
done_as x g =
    record {
      number = 0;
      value = x.value;
      count = length x.messages;
      block = block_of x.board;
      log = logged g x.messages;
      saved = x.saved;
    }

unfoldable pub outcome : Call → List ℕ → List ℕ → List ℕ → Outcome
outcome c l g s =
    let n = refusal_of c l g in cond (eqb n 0) (done_as (step c (board_of l) s) g) (refused_as n l g s)

-- [01 P17 X1 X2 X3]
pub record Gives (o : Outcome) (r : Answer) (l g s : List ℕ) : Type 0 where
  pub number : refusal_number r ≡ o.number
  pub value : answer_value r ≡ o.value
  pub count : answer_count r ≡ o.count
  pub block : l ≡ o.block
  pub log : g ≡ o.log
  pub saved : s ≡ o.saved

abbrev pub Does : Call → List ℕ → List ℕ → Answer → List ℕ → List ℕ → Type 0
Does c l g r l' g' = (s : List ℕ) → Gives (outcome c l g s) r l' g' s
