-- Claim 160: a reset leaves the block of the start, whose lists are lists of zeros but for the deliveries.
-- Assumes nothing.
use Prim.Native.Nat.{ℕ, ◌+◌, ◌*◌, ◌/◌, ◌%◌, ◌<◌}
use mathlib.Core.Path.{◌≡◌, refl, sym, ap, subst, ◌∙◌}
use mathlib.Core.Bool.{Bool, true, false}
use mathlib.Core.List.{List}
use native.Mathlib.Decide.{dec_lt}
use native.Mathlib.Omega.{arith}
use lib.Dec.{eqb}
use lib.ListN.{length, get_or, replicate, length-replicate, get_or-replicate, get_or-eq_default}
use borrow.Author.Tests.{lt-ltb}
use Rattle.words.proofs.BitsLaws.{has_bit-nothing}
use Rattle.words.specs.Sets.{member}
use Rattle.file.specs.declared.File.{File}
use Rattle.files.specs.Files.{the_file}
use Rattle.domain_region.specs.Region.{word_at, word_in, name_in, registers, address_legal}
use Rattle.domain.specs.Domain.{domaincfg_of, genmsi_of}
use Rattle.domain.specs.Slot.{source_at}
use Rattle.domain.specs.Structure.{structure_at}
use Rattle.domain_sending.proofs.SendingLaws.{logged_none}
use Rattle.domain_values.specs.Values.{register_value}
use Rattle.wired_state.specs.Wires.{domain_in}
use Rattle.wired_registers.specs.Wired.{read_in}
use Rattle.board_block.specs.Block.{board_of, block_of, board_sound}
use Rattle.board_block.specs.Start.{start_file, start_domain, start_board}
use Rattle.board_block.proofs.StartLaws.{the_file-start_files_from, start-guest, start-signal}
use Rattle.board_block_laws.proofs.BlockBack.{board-back, length-block_of}
use Rattle.board_block_laws.proofs.StartEffects.{start-sound, start-shaped}
use Rattle.board_call.specs.declared.Call.{Call}
use Rattle.board_call.specs.declared.Call.TheVariants.{Reset, DomainRead}
use Rattle.board_call.specs.Calls.{tests_rules, row_of}
use Rattle.board_call.specs.Refusal.{name_refusal, refusal_of}
use Rattle.board_call.proofs.RefusalLaws.{blocks-sound, blocks-untested, refused-numbers, numbers-name}
use Rattle.board_call.specs.Outcome.{Outcome, outcome}
use Rattle.board_call_laws.proofs.OutcomeEffects.{outcome-done}
use Rattle.board_call_laws.proofs.StepEffects.{step-reset, step-domain_read}
use Rattle.board_runs.proofs.StartEffects.{reset-left}
use Rattle.claims_board.specs.Start.{FileAtStart, DomainAtStart, Claim-160}

-- ---- a list of zeros

zeros-at : (n k : ℕ) → get_or {A = ℕ} (replicate n 0) k 0 ≡ 0
zeros-at n k = at (dec_lt k n)
  where
    at : Dec (k < n) → get_or {A = ℕ} (replicate n 0) k 0 ≡ 0
    at (yes l) = get_or-replicate {A = ℕ} n k 0 0 l
    at (no l) =
        get_or-eq_default {A = ℕ} (replicate n 0) 0 {n = k} (omega (arith, length-replicate {A = ℕ} n 0))

none_in : (n i : ℕ) → member (replicate n 0) i ≡ false
unfolding member
none_in n i = rw (zeros-at n (i / 32)) (has_bit-nothing (i % 32))

-- ---- the start

file-is : (h f : ℕ) → f < 5 → FileAtStart f (start_file (5 * h + f))
file-is h f file =
    let number : (5 * h + f) % 5 ≡ f = omega arith in
    record {
      machine = λ l. ap (λ (x : File). x.delivery) (sym (start-signal (5 * h + f) (omega arith)));
      guest = λ l. ap (λ (x : File). x.delivery) (sym (start-guest (5 * h + f) (omega arith)));
      threshold = unfold start_file in refl;
      pending = unfold start_file in none_in 8;
      enable = unfold start_file in none_in 8;
    }

file-start : (h f : ℕ) → h < 4 → f < 5 → FileAtStart f (the_file start_board.files (5 * h + f))
unfolding start_board
file-start h f hart file =
    let k = 5 * h + f in
    let number : start_file (0 + k) ≡ start_file k = ap start_file (omega arith) in
    subst (FileAtStart f) (sym (the_file-start_files_from 0 20 k (omega arith) ∙ number)) (file-is h f file)

domain-start : DomainAtStart start_domain
unfolding start_domain domaincfg_of genmsi_of source_at structure_at
domain-start =
    record {
      domaincfg = refl;
      genmsi = refl;
      mode = λ i l u. zeros-at 64 i;
      target = λ i l u. zeros-at 64 i;
      pending = none_in 2;
      enabled = none_in 2;
      idelivery = λ h l. zeros-at 12 (3 * h);
      iforce = λ h l. zeros-at 12 (3 * h + 1);
      ithreshold = λ h l. zeros-at 12 (3 * h + 2);
    }

domains-start : (c : Bool) → DomainAtStart (domain_in start_board.wired c)
unfolding start_board domain_in
domains-start true = domain-start
domains-start false = domain-start

-- in the machine domain, and in the child
domaincfg-reads : (c : Bool) → read_in start_board.wired c (word_at 0) ≡ 0x80000000
unfolding start_board start_domain domain_in register_value domaincfg_of word_at word_in name_in registers
domaincfg-reads true = refl
domaincfg-reads false = refl

-- ---- the call

module _ (l g s : List ℕ) (long : length l ≡ 650) (full : length g ≡ 63) where
  next-refusal : (c : Call) → refusal_of c (block_of start_board) g ≡ name_refusal c start_board
  next-refusal c =
      let back = board-back start_board start-shaped in
      refused-numbers (row_of c).tests (block_of start_board) g
      (blocks-sound (tests_rules c) (block_of start_board) g (length-block_of start_board start-shaped) full
      (ap board_sound back ∙ start-sound))
      ∙ ap (name_refusal c) back

  reads : (d : ℕ) → d < 2
      → let r = outcome (DomainRead d 0) (block_of start_board) g s in (r.number ≡ 0) × (r.value ≡ 0x80000000)
  unfolding row_of address_legal
  reads d low =
      let c = DomainRead d 0 in
      let done = next-refusal c ∙ numbers-name (row_of c).tests start_board (lt-ltb d 2 low) refl refl in
      rw (
        outcome-done c (block_of start_board) g s done,
        board-back start_board start-shaped,
        step-domain_read start_board d 0 s,
      ) (refl, domaincfg-reads (eqb d 1))

pub claim-160 : Claim-160
unfolding Claim-160 start_board
claim-160 l g s long full =
    rw (reset-left l g s long full, board-back start_board start-shaped) (
      refl,
      refl,
      refl,
      refl,
      refl,
      length-block_of start_board start-shaped,
      next-refusal l g s long full,
      reads l g s long full,
      file-start,
      none_in 2,
      domains-start,
    )
