-- A run computed on boards and not on blocks: whether it is ready for a call is tested once, at its start. No
-- contract cites this file. Assumes nothing.
--   held_by x         the board and the saved numbers of what is lent
--   step_on c y       what the call c makes of both: refused, it leaves them
--   board_run cs y    what the calls cs make of them, in order
-- To unfold board_run is to unfold all that a wire, a page write and an access compute with.
use mathlib.Core.Path.{◌≡◌, refl, sym, ap, ◌∙◌}
use mathlib.Core.Bool.{cond}
use mathlib.Core.List.{List, [], ◌∷◌}
use native.Mathlib.Decide.{ℕ_discrete}
use lib.Dec.{eqb}
use borrow.Author.Tests.{eq-eqb, ne_eqb}
use Rattle.words.specs.Bits.{bit_of, has_bit, with_bit, without_bit, union}
use Rattle.words.specs.Sets.{member, insert, remove, put}
use Rattle.words.specs.Parts.{reversed, low, high, joined, field_of, packed}
use Rattle.file_select.specs.Select.{select_legal, register_of, registers_from}
use Rattle.file_select.specs.Halves.{doubleword, put_halves, put_doubleword}
use Rattle.file_select.specs.Deliveries.{delivery_legal}
use Rattle.file.specs.Page.{arrived, page_written}
use Rattle.file.specs.Register.{held, written, accessed_at, accessed}
use Rattle.file.specs.Top.{passes, lowest, qualifies, top_identity, top_of, claimed}
use Rattle.files.specs.Files.{file_number, is_guest, the_file, with_file, named_by, reached, all_reached}
use Rattle.source_mode.specs.Mode.{is_active, is_level, is_rectified}
use Rattle.file_message.specs.Message.{log_word}
use Rattle.source_target.specs.Target.{hart_of, guest_of, number_of, receiver_of, kept_target, message_of}
use Rattle.file_message.specs.Message.{hart_in, file_in, identity_in}
use Rattle.source.specs.Pending as source
use Rattle.domain.specs.Domain.{domaincfg_of, is_enabled, by_messages}
use Rattle.domain.specs.Slot.{source_at, with_source}
use Rattle.domain_values.specs.Values.{register_value}
use Rattle.domain_writes.specs.Writes.{target_written}
use Rattle.domain_registers.specs.Write.{register_written}
use Rattle.wired_state.specs.Wires.{source_wired, wire_set, domain_in, with_domain}
use Rattle.wired_registers.specs.Wired.{written_as, written_in}
use Rattle.domain_sending.specs.Sending.{candidate, served_at, messages_at, sent_from, sent}
use Rattle.domain_region.specs.Region.{address_legal, registers, name_in, word_in, word_at}
use Rattle.wired.specs.Controller.{flushed, genmsi_as, genmsi_by}
use Rattle.board_move_steps.specs.Names.{names_file, renamed}
use Rattle.board_move_steps.specs.Steps.{act_of}
use Rattle.board_call.specs.declared.Call.{Call}
use Rattle.board_call.specs.Move.{retargeted_in, Acted, acted}
use Rattle.board_call.specs.Change.{kind_of, change}
use Rattle.board_call.specs.Numbers.{is_wire, is_file, is_guest_file, is_move, is_page_address}
use Rattle.board_call.specs.Calls.{row_of}
use Rattle.board_call.specs.Refusal.{first_failed, name_tests, name_refusal, name_refusal_by}
use Rattle.board_call.specs.Outcome.{then_sent, step}
use Rattle.board_call_laws.specs.Small.{Small}
use Rattle.board_runs.specs.Runs.{Lent, after, ran}
use Rattle.board_runs.specs.Ready.{board_in, Ready, AllSmall}
use Rattle.board_runs.proofs.RunsEffects.{after-refused, ready-refusal, after-board, after-saved, ready-after}

abbrev pub held_by : Lent → Acted
held_by x = record { board = board_in x; saved = x.saved }

unfoldable pub step_on : Call → Acted → Acted
step_on c y =
    let z = step c y.board y.saved in
    let w : Acted = record { board = z.board; saved = z.saved } in
    cond (eqb (name_refusal c y.board) 0) w y

unfoldable pub board_run : List Call → Acted → Acted
unfolding step_on step then_sent change acted retargeted_in act_of name_refusal_by name_tests first_failed
    row_of
    is_wire is_file is_guest_file is_move is_page_address names_file renamed flushed hart_in file_in
    identity_in
    candidate served_at messages_at sent_from sent source_wired wire_set domain_in with_domain written_as
    written_in register_written target_written register_value source_at with_source domaincfg_of is_enabled
    by_messages source.settled source.wire_changed source.retargeted hart_of guest_of number_of receiver_of
    kept_target log_word message_of is_active is_level is_rectified file_number is_guest the_file with_file
    named_by
    reached all_reached held written accessed_at accessed arrived page_written delivery_legal doubleword
    put_halves put_doubleword select_legal register_of registers_from reversed low high joined field_of packed
    member insert remove put bit_of has_bit with_bit without_bit union kind_of passes lowest qualifies
    top_identity
    top_of claimed address_legal registers name_in word_in word_at genmsi_as genmsi_by
board_run [] y = y
board_run (c ∷ cs) y = board_run cs (step_on c y)

-- ---- it is the run

pub step-on : (c : Call) (x : Lent) → Ready x → Small c → held_by (after c x) ≡ step_on c (held_by x)
unfolding step_on
step-on c x ready small = at (ℕ_discrete (name_refusal c (board_in x)) 0)
  where
    at : Dec (name_refusal c (board_in x) ≡ 0) → held_by (after c x) ≡ step_on c (held_by x)
    at (yes e) =
        unfold step_on in
        rw (eq-eqb _ _ e, after-board c x ready e small, after-saved c x ready e small)
    at (no n) =
        unfold step_on in
        rw (ne_eqb _ _ n) (ap held_by (after-refused c x (λ q. n (sym (ready-refusal c x ready) ∙ q))))

pub board-run : (cs : List Call) (x : Lent) → Ready x → AllSmall cs
    → held_by (ran cs x) ≡ board_run cs (held_by x)
unfolding ran board_run
board-run [] x ready small = refl
board-run (c ∷ cs) x ready small =
    board-run cs (after c x) (ready-after c x ready small.0) small.1
    ∙ ap (board_run cs) (step-on c x ready small.0)
