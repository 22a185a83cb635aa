-- What an accepted call changes and answers, before what is then to be sent. 01, all of its sections on the
-- board; the standard, chapters 3 and 4. Assumes nothing.
--   Changed               the board, the value answered, the messages sent at once, which genmsi's are, and
--                         the saved numbers of a move
--   kind_of k             how a register is accessed: read (0), written (1), bits set (2), bits cleared (3)
--   signal_at b h f       file f of hart h signals: by itself with delivery 1; by its domain, the machine
--                         domain for file 0 and the child for file 1, with delivery 0x40000000
--   signals_to b h n      the lowest n bits of the signals of hart h: bit f for file f
--   on_wired, on_file     what a call does to the wired controller, or to one file, and answers
--   change c b s          what the call c changes in b and in the saved numbers s, which only a move does
-- Only what refusal_of accepts has a meaning: a hart, file or domain that is there, a legal select number.
use Rattle.std.specs.Prelude.{ℕ, zero, suc, Bool, cond, ◌&&◌, ◌||◌, List, [], eqb, ltb}
use Rattle.sizes.specs.Sizes.{hart_files, first_guest}
use Rattle.file_select.specs.Deliveries.{from_wired}
use Rattle.words.specs.Bits.{put_bit}
use Rattle.sizes.specs.Sizes.{identities}
use Rattle.file.specs.declared.File.{File}
use Rattle.file.specs.declared.register.Access.{Access}
use Rattle.file.specs.declared.register.Access.TheVariants.{Read, Write, Set, Clear}
use Rattle.file.specs.Reply.{reply_value}
use Rattle.file.specs.Page.{page_written, page_read}
use Rattle.file.specs.Top.{top_of, claimed, signals}
use Rattle.files.specs.Files.{file_number, the_file, with_file}
use Rattle.domain_region.specs.Region.{word_at}
use Rattle.domain_direct.specs.Direct.{signal_of}
use Rattle.wired_state.specs.Wires.{Wired, domain_in, wire_set}
use Rattle.wired_registers.specs.Wired.{read_in, claimed_in, written_in}
use Rattle.wired.specs.Controller.{genmsi_by}
use Rattle.board_move_steps.specs.Steps.{act_of}
use Rattle.board_block.specs.Block.{Board, with_files, with_wired}
use Rattle.board_block.specs.Start.{start_board}
use Rattle.board_call.specs.Move.{register_on, Acted, acted}
use Rattle.board_call.specs.declared.Call.{Call}
use Rattle.board_call.specs.declared.Call.TheVariants as call

pub record Changed : Type 0 where
  pub board : Board
  pub value : ℕ
  pub own : List ℕ
  pub saved : List ℕ

-- [01 C3]
unfoldable pub kind_of : ℕ → Access
kind_of k = cond (eqb k 0) Read (cond (eqb k 1) Write (cond (eqb k 2) Set Clear))

-- [01 S17 S19]
unfoldable pub signal_at : Board → ℕ → ℕ → Bool
signal_at b h f =
    let x = the_file b.files (file_number h f) in
    signals identities x
    || (ltb f first_guest && eqb x.delivery from_wired && signal_of (domain_in b.wired (eqb f 1)) h)

-- [01 S20]
unfoldable pub signals_to : Board → ℕ → ℕ → ℕ
signals_to b h zero = 0
signals_to b h (suc n) = put_bit (signals_to b h n) n (signal_at b h n)

abbrev pub on_wired : Board → Wired → ℕ → List ℕ → List ℕ → Changed
on_wired b w v ms s = record { board = with_wired b w; value = v; own = ms; saved = s }

-- [01 C2 W52]
abbrev pub on_file : Board → ℕ → File → ℕ → List ℕ → Changed
on_file b k f v s =
    record { board = with_files b (with_file b.files k f); value = v; own = []; saved = s }

-- [01 C7]
abbrev pub answering : Board → ℕ → List ℕ → Changed
answering b v s = record { board = b; value = v; own = []; saved = s }

-- [01 V4]
abbrev pub moving : Acted → Changed
moving x = answering x.board 0 x.saved

-- [01 C1 C4 X6]
unfoldable pub change : Call → Board → List ℕ → Changed
change call.Reset b s = answering start_board 0 s
change (call.Wire i level) b s = on_wired b (wire_set b.wired i (eqb level 1)) 0 [] s
change (call.DomainRead d a) b s =
    let c = eqb d 1 in on_wired b (claimed_in b.wired c (word_at a)) (read_in b.wired c (word_at a)) [] s
change (call.DomainWrite d a v) b s =
    let c = eqb d 1 in
    on_wired b (written_in b.wired c (word_at a) v) 0
    (genmsi_by c (domain_in b.wired c) (word_at a) v) s
change (call.PageRead h f a) b s = answering b (page_read (the_file b.files (file_number h f)) a) s
change (call.PageWrite h f a v) b s =
    let k = file_number h f in on_file b k (page_written identities (the_file b.files k) a v) 0 s
change (call.Register h f kind x v) b s =
    let r = register_on b h f (kind_of kind) x v in
    on_file b (file_number h f) r.file (reply_value r.answer) s
change (call.Top h f) b s = answering b (top_of identities (the_file b.files (file_number h f))) s
change (call.Claim h f) b s =
    let k = file_number h f in
    let x = the_file b.files k in on_file b k (claimed identities x) (top_of identities x) s
change (call.Signals h) b s = answering b (signals_to b h hart_files) s
change (call.Move oh of nh nf n) b s = moving (acted (act_of n) oh of nh nf b s)
