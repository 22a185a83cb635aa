-- The table cases hold: one statement, computed over the whole table. Assumes nothing.
use Prim.Native.Nat.{ℕ}
use mathlib.Core.Path.{◌≡◌, refl, ap₂}
use mathlib.Core.Bool.{true, false≢true}
use mathlib.Core.List.{List, [], ◌∷◌}
use lib.Dec.{eqb}
use borrow.Author.Tests.{eqb-true}
use Rattle.words.specs.Bits.{bit_of, has_bit, with_bit, without_bit}
use Rattle.words.specs.Parts.{reversed, field_of, packed}
use Rattle.words.specs.Sets.{member, insert, remove, put}
use Rattle.words.proofs.TestsLaws.{and_first, and_second}
use Rattle.file_select.specs.Select.{select_legal, register_of}
use Rattle.file.specs.Page.{arrived, page_written}
use Rattle.file.specs.Top.{passes, qualifies, lowest, top_identity, top_of}
use Rattle.file.specs.Register.{held, accessed_at, accessed}
use Rattle.file_words.specs.Stored.{file_words}
use Rattle.source_mode.specs.Mode.{is_active}
use Rattle.file_message.specs.Message.{log_word}
use Rattle.source_target.specs.Target.{hart_of, guest_of, number_of, receiver_of, kept_target, message_of}
use Rattle.domain_delivery.specs.Delivery.{lets}
use Rattle.source.specs.Pending.{redelivered}
use Rattle.domain.specs.Domain.{domaincfg_of, by_messages, with_domaincfg, with_genmsi}
use Rattle.domain.specs.Slot.{source_at, with_source}
use Rattle.domain.specs.Structure.{structure_at}
use Rattle.domain_domaincfg.specs.Domaincfg.{kept_domaincfg, redelivered_at, redelivered_from, mode_settled}
use Rattle.domain_domaincfg.specs.Domaincfg.{domaincfg_written}
use Rattle.domain_direct.specs.Direct.{standing, eligible, precedes, top_from, top_source, topi_of}
use Rattle.domain_registers.specs.Read.{register_value as read_of}
use Rattle.domain_region.specs.Region.{word_at, word_in, name_in, registers, address_legal}
use Rattle.board_call.specs.Calls.{row_of}
use Rattle.board_call.specs.Refusal.{name_tests, first_failed, name_refusal_by}
use Rattle.claims_cases.specs.Table.{Claim-170, table, same, holds}

pub table-holds : holds table ≡ true
unfolding holds table same top_of top_identity lowest qualifies passes member has_bit bit_of page_written
    arrived insert with_bit reversed file_words accessed accessed_at select_legal register_of held topi_of
    top_source top_from standing eligible precedes lets structure_at source_at by_messages domaincfg_of
    hart_of
    guest_of number_of field_of kept_target receiver_of packed message_of log_word read_of domaincfg_written
    mode_settled kept_domaincfg with_domaincfg with_genmsi redelivered_from redelivered_at redelivered
    with_source
    is_active put remove without_bit word_at word_in name_in registers name_refusal_by name_tests first_failed
    row_of address_legal
table-holds = refl

pub claim-170 : Claim-170
unfolding Claim-170
claim-170 = table-holds

-- what the test says of one row: the two lists are equal
pub same-equal : (xs ys : List ℕ) → same xs ys ≡ true → xs ≡ ys
unfolding same
same-equal [] [] e = refl
same-equal [] (y ∷ ys) e = absurd (false≢true e)
same-equal (x ∷ xs) [] e = absurd (false≢true e)
same-equal (x ∷ xs) (y ∷ ys) e =
    ap₂ (λ (a : ℕ) (l : List ℕ). a ∷ l) (eqb-true x y (and_first (eqb x y) (same xs ys) e))
    (same-equal xs ys (and_second (eqb x y) (same xs ys) e))
