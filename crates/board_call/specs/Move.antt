-- One access of a move, made of the accesses to a file's registers and to a target that the other calls make.
-- 01, "The move, with its premises"; the standard 6.1.2. Assumes nothing.
--   register_on b h f k s v    an access of kind k to register s of file f of hart h: its answer, and the
--                              file
--   with_one b h f x           b with x as file f of hart h
--   retargeted_in .. w i       w after target[i] of the child, if it names old, was written to name new, with
--                              the same identity
--   Acted                      the board and the saved numbers
--   acted a .. b s             b and the saved numbers s after the act a
-- oh and of are the hart and the file of old, nh and nf those of new.
use Rattle.std.specs.Prelude.{ℕ, true, cond, List, get_or, set}
use Rattle.sizes.specs.Sizes.{identities}
use Rattle.file.specs.declared.File.{File}
use Rattle.file.specs.declared.register.Access.{Access}
use Rattle.file.specs.declared.register.Access.TheVariants.{Read, Write}
use Rattle.file.specs.declared.register.Accessed.{Accessed}
use Rattle.file.specs.Reply.{reply_value}
use Rattle.file.specs.Register.{accessed}
use Rattle.files.specs.Files.{file_number, is_guest, the_file, with_file}
use Rattle.domain_region.specs.declared.Word.TheVariants as word
use Rattle.wired_state.specs.Wires.{Wired}
use Rattle.wired_registers.specs.Wired.{read_in, written_in}
use Rattle.board_move_steps.specs.declared.Act.{Act}
use Rattle.board_move_steps.specs.declared.Act.TheVariants.{Save, Zero, Target, Put}
use Rattle.board_move_steps.specs.Names.{names_file, renamed}
use Rattle.board_block.specs.Block.{Board, with_files, with_wired}

abbrev pub register_on : Board → ℕ → ℕ → Access → ℕ → ℕ → Accessed
register_on b h f k s v =
    let n = file_number h f in accessed identities (is_guest n) (the_file b.files n) k s v

abbrev pub with_one : Board → ℕ → ℕ → File → Board
with_one b h f x = with_files b (with_file b.files (file_number h f) x)

-- [01 V8]
unfoldable pub retargeted_in : ℕ → ℕ → ℕ → ℕ → Wired → ℕ → Wired
retargeted_in oh of nh nf w i =
    let t = read_in w true (word.Target i) in
    cond (names_file t oh of) (written_in w true (word.Target i) (renamed t nh nf)) w

pub record Acted : Type 0 where
  pub board : Board
  pub saved : List ℕ

-- [01 V1 V3 X9]
unfoldable pub acted : Act → ℕ → ℕ → ℕ → ℕ → Board → List ℕ → Acted
acted (Save select place) oh of nh nf b s =
    record { board = b; saved = set s place (reply_value (register_on b oh of Read select 0).answer) }
acted (Zero new select) oh of nh nf b s =
    let h = cond new nh oh in
    let f = cond new nf of in
    record { board = with_one b h f (register_on b h f Write select 0).file; saved = s }
acted (Target i) oh of nh nf b s =
    record { board = with_wired b (retargeted_in oh of nh nf b.wired i); saved = s }
acted (Put kind select place) oh of nh nf b s =
    record { board = with_one b nh nf (register_on b nh nf kind select (get_or s place 0)).file; saved = s }
