-- Claim 163: a run is computed on boards and not on blocks; that it is ready for the next call is shown once
-- for every run. Assumes nothing.
--   Held               the board, the log and the saved numbers of what is lent
--   step_on c y        what the call c makes of them: refused, it leaves them
--   board_run cs y     what the calls cs make of them, in order
--   answers_on c y     what the call c answers: refusal, value, count, and the first word of the log
-- To unfold answers_on is to unfold all that these calls compute with.
use Prim.Native.Nat.{ℕ}
use mathlib.Core.Path.{◌≡◌, refl, sym, ap, ◌∙◌}
use mathlib.Core.Bool.{cond}
use mathlib.Core.List.{List, [], ◌∷◌, ◌++◌}
use native.Mathlib.Decide.{ℕ_discrete}
use native.Mathlib.Omega.{arith}
use lib.Dec.{eqb}
use lib.ListN.{length, get_or, replicate}
use borrow.Author.Tests.{eq-eqb, ne_eqb}
use Rattle.words.specs.Bits.{bit_of, has_bit, with_bit, without_bit, put_bit}
use Rattle.words.specs.Sets.{member, insert, remove, put}
use Rattle.words.specs.Parts.{low, high, joined, reversed, field_of, packed}
use Rattle.file_select.specs.Select.{select_legal, register_of, registers_from}
use Rattle.file_select.specs.Halves.{doubleword, put_halves, put_doubleword}
use Rattle.file.specs.Page.{arrived, page_written}
use Rattle.file.specs.Top.{passes, qualifies, lowest, top_identity, top_of}
use Rattle.file.specs.Register.{held, written, accessed_at, accessed}
use Rattle.file_message.specs.Message.{log_word, hart_in, file_in, identity_in}
use Rattle.files.specs.Files.{file_number, is_guest, the_file, with_file, named_by, reached, all_reached}
use Rattle.source_mode.specs.Mode.{is_active, is_level, is_rectified, kept_mode, source_word}
use Rattle.source_target.specs.Target.{hart_of, guest_of, number_of, start_target, priority_of, receiver_of}
use Rattle.source_target.specs.Target.{kept_target, message_of}
use Rattle.source.specs.Pending.{settled, pended, cleared, switched, changed, moded, redelivered}
use Rattle.source.specs.Pending.{retargeted, wire_changed}
use Rattle.domain_region.specs.Region.{address_legal, registers, name_in, word_in, word_at}
use Rattle.domain_delivery.specs.Delivery.{lets}
use Rattle.domain.specs.Domain.{domaincfg_of, is_enabled, by_messages, genmsi_of, with_domaincfg, with_genmsi}
use Rattle.domain.specs.Slot.{source_at, with_source}
use Rattle.domain.specs.Structure.{structure_at, with_structure}
use Rattle.domain_writes.specs.Writes.{number_changed, changed_at, target_written}
use Rattle.domain_domaincfg.specs.Domaincfg.{kept_domaincfg, redelivered_at, redelivered_from, mode_settled}
use Rattle.domain_domaincfg.specs.Domaincfg.{domaincfg_written}
use Rattle.domain_sending.specs.Sending.{candidate, served_at, messages_at, sent_from, sent, logged}
use Rattle.domain_topi.specs.Top.{standing, eligible, precedes, top_from, top_source, topi_of}
use Rattle.domain_direct.specs.Direct.{unforced, released, hart_claimed}
use Rattle.domain_inputs.specs.Inputs.{input_bit, inputs_to, input_word}
use Rattle.domain_values.specs.Values.{register_value}
use Rattle.domain_registers.specs.Read.{claimed_as, claimed_by}
use Rattle.domain_registers.specs.Write.{register_written}
use Rattle.wired_state.specs.Wires.{domain_in, with_domain, is_delegated, source_wired, wire_set}
use Rattle.wired_sourcecfg.specs.Delegation.{source_moded, child_written, machine_written, source_written}
use Rattle.wired_registers.specs.Wired.{written_as, written_in}
use Rattle.wired.specs.Controller.{flushed, genmsi_as, genmsi_by}
use Rattle.board_block.specs.Start.{start_file, start_files_from, start_domain, start_board}
use Rattle.board_block.specs.Block.{Board, block_of}
use Rattle.board_block_laws.proofs.BlockBack.{board-back}
use Rattle.board_block_laws.proofs.StartEffects.{start-shaped}
use Rattle.board_call.specs.Change.{kind_of, change}
use Rattle.board_call.specs.Numbers.{is_wire, is_file, is_page_address}
use Rattle.board_call.specs.Calls.{row_of}
use Rattle.board_call.specs.Refusal.{first_failed, name_tests, name_refusal, name_refusal_by}
use Rattle.board_call.specs.Outcome.{Stepped, then_sent, step}
use Rattle.board_call.specs.declared.Call.{Call}
use Rattle.board_call.specs.declared.Call.TheVariants.{DomainRead, DomainWrite, PageWrite, Register, Top}
use Rattle.board_call_laws.specs.Small.{Small}
use Rattle.board_call_laws.proofs.OutcomeEffects.{outcome-refused, outcome-done}
use Rattle.board_runs.specs.Runs.{Lent, outcome_on, after, ran}
use Rattle.board_runs.specs.Ready.{board_in, Ready, AllSmall, at_reset}
use Rattle.board_runs.proofs.StartEffects.{ready-reset}
use Rattle.board_runs.proofs.RunsEffects.{after-refused, ready-refusal, after-done, after-board, after-saved}
use Rattle.board_runs.proofs.RunsEffects.{ready-after, ready-ran}
use Rattle.claims_cases.specs.Runs.{answered, five_and_nine_at, detached, delegated, Claim-163}

pub record Held : Type 0 where
  pub board : Board
  pub log : List ℕ
  pub saved : List ℕ

abbrev held_by : Lent → Held
held_by x = record { board = board_in x; log = x.log; saved = x.saved }

unfoldable pub step_on : Call → Held → Held
step_on c y =
    let z = step c y.board y.saved in
    let w : Held = record { board = z.board; log = logged y.log z.messages; saved = z.saved } in
    cond (eqb (name_refusal c y.board) 0) w y

unfoldable pub board_run : List Call → Held → Held
board_run [] y = y
board_run (c ∷ cs) y = board_run cs (step_on c y)

unfoldable pub answers_on : Call → Held → List ℕ
unfolding bit_of has_bit with_bit without_bit member insert remove put low high joined reversed field_of
    packed select_legal register_of registers_from doubleword put_halves put_doubleword arrived page_written
    passes qualifies lowest top_identity top_of held written accessed_at accessed log_word hart_in file_in
    identity_in file_number is_guest the_file with_file named_by reached all_reached is_active is_level
    is_rectified kept_mode source_word hart_of guest_of number_of start_target priority_of receiver_of
    kept_target
    message_of settled pended cleared switched changed moded redelivered retargeted lets address_legal
    registers name_in word_in word_at domaincfg_of is_enabled by_messages genmsi_of with_domaincfg with_genmsi
    source_at with_source structure_at with_structure number_changed changed_at target_written kept_domaincfg
    redelivered_at redelivered_from mode_settled domaincfg_written candidate served_at messages_at sent_from
    sent
    logged standing eligible precedes top_from top_source topi_of unforced released hart_claimed
    register_value claimed_as claimed_by register_written domain_in with_domain is_delegated source_moded
    child_written machine_written source_written written_as written_in flushed genmsi_as genmsi_by start_file
    start_files_from start_domain start_board kind_of change is_file is_page_address row_of first_failed
    name_tests
    name_refusal_by then_sent step input_bit inputs_to input_word wire_changed source_wired wire_set is_wire
    put_bit
answers_on c y =
    let z = step c y.board y.saved in
    let n = name_refusal c y.board in
    cond (eqb n 0)
    (0 ∷ z.value ∷ length z.messages ∷ get_or (logged y.log z.messages) 0 0 ∷ [])
    (n ∷ 0 ∷ 0 ∷ get_or y.log 0 0 ∷ [])

-- ---- it is the run

module _ (c : Call) (x : Lent) (ready : Ready x) where
  abbrev told : List ℕ
  told = let o = outcome_on c x in o.number ∷ o.value ∷ o.count ∷ get_or o.log 0 0 ∷ []

  answers-on : told ≡ answers_on c (held_by x)
  unfolding answers_on
  answers-on = at (ℕ_discrete (name_refusal c (board_in x)) 0)
    where
      at : Dec (name_refusal c (board_in x) ≡ 0) → told ≡ answers_on c (held_by x)
      at (yes e) =
          rw (eq-eqb _ _ e, outcome-done c x.block x.log x.saved (ready-refusal c x ready ∙ e))
      at (no n) =
          let f = ready-refusal c x ready in
          rw (ne_eqb _ _ n, outcome-refused c x.block x.log x.saved _ f n)

  step-on : Small c → held_by (after c x) ≡ step_on c (held_by x)
  unfolding step_on
  step-on small = at (ℕ_discrete (name_refusal c (board_in x)) 0)
    where
      at : Dec (name_refusal c (board_in x) ≡ 0) → held_by (after c x) ≡ step_on c (held_by x)
      at (yes e) =
          rw (
            eq-eqb _ _ e,
            after-board c x ready e small,
            ap (λ (y : Lent). y.log) (after-done c x ready e),
            after-saved c x ready e small,
          )
      at (no n) =
          rw (ne_eqb _ _ n) (ap held_by (after-refused c x (λ q. n (sym (ready-refusal c x ready) ∙ q))))

board-run : (cs : List Call) (x : Lent) → Ready x → AllSmall cs
    → held_by (ran cs x) ≡ board_run cs (held_by x)
unfolding ran board_run
board-run [] x ready small = refl
board-run (c ∷ cs) x ready small =
    board-run cs (after c x) (ready-after c x ready small.0) small.1
    ∙ ap (board_run cs) (step-on c x ready small.0)

-- ---- from the start

abbrev pub fresh : Held
fresh = record { board = start_board; log = replicate 63 0; saved = replicate 10 0 }

start-held : held_by at_reset ≡ fresh
start-held = ap (λ (b : Board). record { board = b; log = replicate 63 0; saved = replicate 10 0 })
    (board-back start_board start-shaped)

pub answers : (cs : List Call) (c : Call) → AllSmall cs → answered cs c ≡ answers_on c (board_run cs fresh)
answers cs c small =
    answers-on c (ran cs at_reset) (ready-ran cs at_reset ready-reset small)
    ∙ ap (answers_on c) (board-run cs at_reset ready-reset small ∙ ap (board_run cs) start-held)

-- T4: the page write leaves what it was lent
abbrev write : Call
write = PageWrite 0 2 0 256

abbrev left : Stepped → Lent
left z =
    record { block = block_of z.board; log = logged (replicate 63 0) z.messages; saved = z.saved }

same : step write start_board (replicate 10 0)
    ≡ record { board = start_board; value = 0; messages = []; saved = replicate 10 0 }
unfolding answers_on
same = refl

named : name_refusal write (board_in at_reset) ≡ 0
unfolding answers_on
named = refl

nothing : ran (write ∷ []) at_reset ≡ at_reset
unfolding ran logged
nothing =
    after-done write at_reset ready-reset named
    ∙ ap (λ (b : Board). left (step write b (replicate 10 0))) (board-back start_board start-shaped)
    ∙ ap left same

pub claim-163 : Claim-163
unfolding Claim-163 answers_on board_run step_on
claim-163 = (
  answers (five_and_nine_at 0) (Top 0 2) (omega arith, (tt, (tt, (omega arith, tt)))),
  answers (five_and_nine_at 5) (Top 0 2) (omega arith, (tt, (tt, (omega arith, tt)))),
  answers (five_and_nine_at 6) (Top 0 2) (omega arith, (tt, (tt, (omega arith, tt)))),
  nothing,
  answers (PageWrite 0 2 4 0x05000000 ∷ []) (Register 0 2 0 0x80 0) (tt, tt),
  answers (detached 7 3) (DomainRead 0 0x4018) (tt, (tt, (tt, (tt, tt)))),
  answers (detached 8 3 ++ detached 7 3) (DomainRead 0 0x4018)
      (tt, (tt, (tt, (tt, (tt, (tt, (tt, (tt, tt)))))))),
  answers delegated (DomainRead 1 0x301C) (tt, (tt, (tt, (tt, (tt, tt))))),
  answers delegated (DomainWrite 1 0x1CDC 7) (tt, (tt, (tt, (tt, (tt, tt))))),
  answers (delegated ++ DomainWrite 1 0x1CDC 7 ∷ []) (Register 2 2 0 0x80 0)
      (tt, (tt, (tt, (tt, (tt, (tt, tt)))))),
  answers (DomainWrite 0 0 0x104 ∷ []) (DomainRead 0 0) (tt, tt),
  answers (detached 7 0xC0003) (DomainRead 0 0x407C) (tt, (tt, (tt, (tt, tt)))),
  answers (detached 7 0xC0003 ++ DomainRead 0 0x407C ∷ []) (DomainRead 0 0x407C)
      (tt, (tt, (tt, (tt, (tt, tt))))),
  answers [] (DomainRead 0 0x5000) tt,
  answers [] (Register 0 2 0 0x81 0) tt,
  answers [] (Register 0 2 0 0x71 0) tt,
)
