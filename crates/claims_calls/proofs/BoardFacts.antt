-- Claims 91 to 93. Where nothing is refused the block is that of a board after a reset. Assumes nothing.
use Prim.Native.Nat.{ℕ}
use mathlib.Core.Path.{◌≡◌, refl, ap, ◌∙◌}
use mathlib.Core.Bool.{true, false}
use mathlib.Core.List.{List, [], ◌∷◌}
use native.Mathlib.Omega.{arith}
use lib.ListN.{length, replicate}
use Rattle.words.specs.Every.{every}
use Rattle.file_select.specs.Select.{select_legal}
use Rattle.file_select.specs.Deliveries.{delivery_legal}
use Rattle.file.specs.declared.File.{File}
use Rattle.file.specs.Rules as rules
use Rattle.file_words.specs.Stored.{file_at}
use Rattle.files.specs.Files.{files_of, files_from, the_file, files_sound, sound_at, is_guest}
use Rattle.files.proofs.FilesLaws.{the_file-with_file-other}
use Rattle.domain_region.specs.Region.{address_legal}
use Rattle.board_block.specs.Block.{Board, board_of, block_of, board_sound}
use Rattle.board_block.specs.Start.{start_domain, start_board}
use Rattle.domain.specs.Domain.{domaincfg_of, by_messages}
use Rattle.words.specs.Bits.{bit_of, has_bit}
use Rattle.board_block_laws.proofs.BlockBack.{board-back, length-block_of}
use Rattle.board_block_laws.proofs.StartEffects.{start-sound, start-shaped}
use Rattle.board_call.specs.declared.Call.{Call}
use Rattle.board_call.specs.declared.Call.TheVariants.{Reset, Wire, DomainRead, DomainWrite, PageRead}
use Rattle.board_call.specs.declared.Call.TheVariants.{PageWrite}
use Rattle.board_call.specs.declared.Call.TheVariants.{Register, Top, Claim, Signals, Move}
use Rattle.board_call.specs.Change.{on_file, answering, change}
use Rattle.board_call.specs.Numbers.{is_wire, is_file, is_guest_file, is_move, is_page_address}
use Rattle.board_call.specs.Calls.{tests_rules, present, addressed, selected, row_of}
use Rattle.board_call.specs.Refusal.{refusal_of}
use Rattle.board_call.proofs.RefusalLaws.{numbers-name}
use Rattle.board_call.specs.Outcome.{Stepped, then_sent, step}
use Rattle.board_call_laws.proofs.StepEffects.{step-on_file, step-answering}
use Rattle.board_runs.specs.Ready.{board_in}
use Rattle.board_runs.proofs.RunsEffects.{ready-refusal}
use Rattle.move_laws.specs.Premises.{ByMessages}
use Rattle.move_laws.proofs.ShiftEffects.{lent_from, started-ready}
use Rattle.move_cases.specs.Example.{start as shift-start}
use Rattle.move_cases.proofs.ExampleShift.{example}
use Rattle.monitor_answer.specs.declared.VskAnswer.{VskAnswer}
use Rattle.monitor_answer.proofs.ToldLaws.{told-one}
use Rattle.claims_calls.specs.BoardCalls.{Passes, Claim-84}
use Rattle.claims_calls.specs.BoardFacts.{OnlyFile, Claim-91, Given, Claim-92, Claim-93, Claim-162}
use Rattle.claims_calls.proofs.BoardCalls.{claim-84}

-- ---- one file

module _ (b : Board) (sound : board_sound b ≡ true) where
  on-file : (k : ℕ) (f : File) (v : ℕ) (u : List ℕ) → OnlyFile k b (then_sent (on_file b k f v u)).board
  on-file k f v u =
      let e = step-on_file b sound k f v u in
      record {
        files = λ j n. ap (λ (s : Stepped). the_file s.board.files j) e
            ∙ the_file-with_file-other b.files k f j n;
        wired = ap (λ (s : Stepped). s.board.wired) e;
      }

  answers : (v : ℕ) (u : List ℕ) → (then_sent (answering b v u)).board ≡ b
  answers v u = ap (λ (s : Stepped). s.board) (step-answering b sound v u)

pub claim-91 : Claim-91
unfolding Claim-91 step change
claim-91 b sound h f u = (
  (λ a v. on-file b sound _ _ _ u),
  (λ k s v. on-file b sound _ _ _ u),
  on-file b sound _ _ _ u,
  (λ a. answers b sound _ u),
  answers b sound _ u,
  answers b sound _ u,
)

-- ---- the table

abbrev start : List ℕ
start = block_of start_board

abbrev log : List ℕ
log = replicate 63 0

start-long : length start ≡ 650
start-long = length-block_of start_board start-shaped

start-keeps : board_sound (board_of start) ≡ true
start-keeps = ap board_sound (board-back start_board start-shaped) ∙ start-sound

-- a block whose first file has a delivery that is none
abbrev broken : List ℕ
broken = 2 ∷ replicate 649 0

broken-breaks : board_sound (board_of broken) ≡ false
unfolding board_sound board_of files_of files_from files_sound every sound_at the_file file_at is_guest
    rules.file_sound
    rules.delivery_rule delivery_legal
broken-breaks = refl

given : (c : Call) (l g : List ℕ) (n : ℕ) → refusal_of c l g ≡ n → Given c n
given c l g n e = record { block = l; log = g; refused = e }

module _ (c : Call) where
  passes : Passes c start log
  passes = (start-long, refl, (λ t. start-keeps))

  one : Given c 1
  unfolding Claim-84
  one = given c [] log 1 ((claim-84 c [] log).0 (λ e. omega arith))

  two : Given c 2
  unfolding Claim-84
  two = given c start [] 2 ((claim-84 c start []).1 start-long (λ e. omega arith))

  three : tests_rules c ≡ true → Given c 3
  unfolding Claim-84
  three t = given c broken log 3 ((claim-84 c broken log).2 refl refl t broken-breaks)

  four : present c (board_of start) ≡ false → Given c 4
  unfolding Claim-84
  four n = given c start log 4 ((claim-84 c start log).3 passes n)

  five : present c (board_of start) ≡ true → addressed c ≡ false → Given c 5
  unfolding Claim-84
  five n a = given c start log 5 ((claim-84 c start log).4 passes n a)

  six : present c (board_of start) ≡ true → addressed c ≡ true → selected c ≡ false → Given c 6
  unfolding Claim-84
  six n a s = given c start log 6 ((claim-84 c start log).5 passes n a s)

  done : present c (board_of start) ≡ true → addressed c ≡ true → selected c ≡ true → Given c 0
  unfolding Claim-84
  done n a s = given c start log 0 ((claim-84 c start log).6 passes n a s)

-- after a reset the child domain is in direct mode
direct : present (Move 0 2 1 3 1) (board_of start) ≡ false
unfolding row_of is_move is_guest_file start_board start_domain by_messages domaincfg_of has_bit bit_of
direct = ap (λ (b : Board). by_messages b.wired.child) (board-back start_board start-shaped)

-- the shift of Claim-111 starts with a child domain that sends messages
accepted : Given (Move 0 2 1 3 1) 0
unfolding row_of is_move is_guest_file ByMessages
accepted =
    let c = Move 0 2 1 3 1 in
    let p = example.premises in
    let x = lent_from shift-start.block shift-start.saved in
    given c x.block x.log 0
    (ready-refusal c x (started-ready x.block x.saved p.started)
    ∙ numbers-name (row_of c).tests (board_in x) p.messages refl refl)

pub claim-92 : Claim-92
unfolding Claim-92 row_of is_wire is_file is_guest_file is_move is_page_address address_legal select_legal
claim-92 = (
  (λ c. (one c, two c)),
  (λ c t. three c t),
  (four (Wire 0 1) refl, four (Wire 64 1) refl, four (Wire 1 2) refl),
  (four (DomainRead 2 0) refl, four (DomainWrite 2 0 0) refl),
  (four (PageRead 4 0 0) refl, four (PageRead 0 5 0) refl, four (PageWrite 4 0 0 1) refl),
  (four (Register 4 0 0 0x70 0) refl, four (Register 0 0 4 0x70 0) refl),
  (four (Top 4 0) refl, four (Claim 0 5) refl, four (Signals 4) refl),
  (four (Move 0 2 1 3 0) refl, four (Move 0 2 1 3 90) refl, four (Move 0 2 0 2 1) refl),
  (four (Move 4 2 1 3 1) refl, four (Move 0 1 1 3 1) refl, four (Move 0 5 1 3 1) refl),
  (four (Move 0 2 4 3 1) refl, four (Move 0 2 1 1 1) refl, four (Move 0 2 1 5 1) refl),
  four (Move 0 2 1 3 1) direct,
  (five (DomainRead 0 0x5000) refl refl, five (DomainWrite 1 2 0) refl refl),
  (five (PageRead 0 0 0x1000) refl refl, five (PageWrite 0 0 1 1) refl refl),
  six (Register 0 0 0 0x81 0) refl refl refl,
  (
    done Reset refl refl refl,
    done (Wire 1 1) refl refl refl,
    done (DomainRead 0 0) refl refl refl,
    done (DomainWrite 0 0 0) refl refl refl,
  ),
  (
    done (PageRead 0 0 0) refl refl refl,
    done (PageWrite 0 0 0 1) refl refl refl,
    done (Register 0 0 0 0x70 0) refl refl refl,
  ),
  (done (Top 0 0) refl refl refl, done (Claim 0 0) refl refl refl, done (Signals 0) refl refl refl),
  accepted,
)

-- ---- the functions that C calls

pub claim-93 : Claim-93
unfolding Claim-93
claim-93 l b b' g g' r = (
  (λ learnt. learnt),
  (λ i level learnt. learnt),
  (λ d a learnt. learnt),
  (λ d a v learnt. learnt),
  (λ h f a learnt. learnt),
  (λ h f a v learnt. learnt),
  (λ h f k s v learnt. learnt),
  (λ h f learnt. learnt),
  (λ h f learnt. learnt),
  (λ h learnt. learnt),
)

pub claim-162 : Claim-162
unfolding Claim-162
claim-162 o r r' l l' g g' s s' t u =
    let one = told-one o r r' l l' g g' s s' t u in (
      ap (λ (x : VskAnswer). x.refusal) one.0,
      ap (λ (x : VskAnswer). x.value) one.0,
      ap (λ (x : VskAnswer). x.count) one.0,
      one.1,
      one.2,
      one.3,
    )
