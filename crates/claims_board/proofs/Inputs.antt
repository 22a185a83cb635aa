-- The proofs of claims 204 and 205: the tests of a read, then Claim-132 and Claim-203. Assumes nothing.
use Prim.Native.Nat.{ℕ, ◌+◌, ◌*◌, ◌/◌, ◌%◌, ◌^◌, ◌≤◌, ◌<◌}
use mathlib.Core.Path.{◌≡◌, refl, sym, ap, subst, ◌∙◌}
use mathlib.Core.Bool.{true, false, false≢true}
use mathlib.Core.List.{List}
use mathlib.Core.Logic.{◌≢◌}
use native.Mathlib.Omega.{arith}
use lib.Dec.{eqb}
use lib.ListN.{length}
use borrow.Author.Tests.{lt-ltb, le-ltb}
use Rattle.words.proofs.BitsLaws.{bit-cases}
use Rattle.domain_region.specs.declared.Word.{Word}
use Rattle.domain_region.specs.declared.Word.TheVariants.{Setip, InClrip}
use Rattle.domain_region.specs.declared.role.Role.TheVariants.{Claims}
use Rattle.domain_region.specs.Region.{address_legal, word_at}
use Rattle.domain_region.specs.Role.{role_of}
use Rattle.domain_region.proofs.RegionLaws.{setip-at, in-clrip-at}
use Rattle.wired_state.specs.Wires.{Wired, domain_in}
use Rattle.wired_registers.specs.Wired.{read_in}
use Rattle.wired.specs.Controller.{Out, read_call}
use Rattle.wired_laws.proofs.ReadEffects.{read_call-none}
use Rattle.board_block.specs.Block.{board_of, board_sound}
use Rattle.board_call.specs.declared.Call.{Call}
use Rattle.board_call.specs.declared.Call.TheVariants.{DomainRead}
use Rattle.board_call.specs.Calls.{row_of}
use Rattle.board_call.specs.Refusal.{block_refusal, name_refusal, refusal_of}
use Rattle.board_call.proofs.RefusalLaws.{refused-state, refused-log, refused-rules, blocks-sound}
use Rattle.board_call.proofs.RefusalLaws.{refused-blocks, refused-numbers, refused-name, numbers-name}
use Rattle.board_call.specs.Outcome.{Outcome, Stepped, step, done_as, outcome}
use Rattle.board_call_laws.proofs.OutcomeEffects.{outcome-number, outcome-done}
use Rattle.board_call_laws.proofs.StepEffects.{step-domain_read, sound-wired, sound-quiet}
use Rattle.board_runs.specs.Runs.{Lent, after}
use Rattle.board_runs.specs.Reading.{claims_by}
use Rattle.board_runs.proofs.ReadingEffects.{reads_word, after_read}
use Rattle.claims_registers.specs.Rules.{Sound}
use Rattle.claims_registers.specs.Registers.{InputRead, Claim-132, Claim-203}
use Rattle.claims_registers.proofs.Registers.{claim-132, claim-203}
use Rattle.claims_board.specs.BoardRules.{Claim-118}
use Rattle.claims_board.specs.Inputs.{in_clrip, Claim-204, Claim-205}
use Rattle.claims_board.proofs.BoardRules.{claim-118}

-- ---- when it is refused

in-clrip-legal : (k : ℕ) → k < 2 → address_legal (0x1D00 + 4 * k) ≡ true
unfolding address_legal
in-clrip-legal k h = bit-cases (λ (k : ℕ). address_legal (0x1D00 + 4 * k) ≡ true) refl refl k h

setip-legal : (k : ℕ) → k < 2 → address_legal (0x1C00 + 4 * k) ≡ true
unfolding address_legal
setip-legal k h = bit-cases (λ (k : ℕ). address_legal (0x1C00 + 4 * k) ≡ true) refl refl k h

module _ (l g : List ℕ) (d a : ℕ) where
  abbrev read : Call
  read = DomainRead d a

  read-blocks : (n : ℕ) → block_refusal true l g ≡ n → n ≢ 0 → refusal_of read l g ≡ n
  unfolding row_of
  read-blocks n e h = refused-blocks (row_of read).tests l g n (sym e) h

  module _ (long : length l ≡ 650) (full : length g ≡ 63) (sound : board_sound (board_of l) ≡ true) where
    read_named : refusal_of read l g ≡ name_refusal read (board_of l)
    unfolding row_of
    read_named = refused-numbers (row_of read).tests l g (blocks-sound true l g long full sound)

    read_none : 2 ≤ d → refusal_of read l g ≡ 4
    unfolding row_of
    read_none h = read_named ∙ refused-name (row_of read).tests (board_of l) (le-ltb d 2 h)

    read-accepted : d < 2 → address_legal a ≡ true → refusal_of read l g ≡ 0
    unfolding row_of
    read-accepted h legal =
        read_named ∙ numbers-name (row_of read).tests (board_of l) (lt-ltb d 2 h) legal refl

pub claim-205 : Claim-205
unfolding Claim-205
claim-205 l g s d k h =
    let a = 0x1D00 + 4 * k in
    let same = outcome-number (in_clrip d k) l g s in (
      (λ x. same ∙ read-blocks l g d a 1 (refused-state true l g x) (λ e. omega arith)),
      (λ long x. same ∙ read-blocks l g d a 2 (refused-log true l g long x) (λ e. omega arith)),
      (λ long full. (
        (λ f. same ∙ read-blocks l g d a 3 (refused-rules true l g long full refl f) (λ e. omega arith)),
        (λ sound. (
          (λ m. same ∙ read_none l g d a long full sound m),
          (λ m. same ∙ read-accepted l g d a long full sound m (in-clrip-legal k h)),
        )),
      )),
    )

-- ---- what it answers, and what it leaves

module _ (l g s : List ℕ) (long : length l ≡ 650) (full : length g ≡ 63)
    (sound : board_sound (board_of l) ≡ true) (d : ℕ) (there : d < 2) where
  abbrev w : Wired
  w = (board_of l).wired

  wired-sound : Sound w
  unfolding Claim-118
  wired-sound = (claim-118.1 l long, sound-wired (board_of l) sound)

  module _ (a : ℕ) (legal : address_legal a ≡ true) (r : Word) (named : word_at a ≡ r) where
    done : outcome (DomainRead d a) l g s ≡ done_as (step (DomainRead d a) (board_of l) s) g
    done = outcome-done (DomainRead d a) l g s (read-accepted l g d a long full sound there legal)

    value_read : (outcome (DomainRead d a) l g s).value ≡ read_in w (eqb d 1) r
    value_read =
        ap (λ (o : Outcome). o.value) done
        ∙ ap (λ (x : Stepped). x.value) (step-domain_read (board_of l) d a s) ∙ ap (read_in w (eqb d 1)) named

    module _ (none : (h : ℕ) → role_of r ≢ Claims h) where
      nothing-sent : (outcome (DomainRead d a) l g s).count ≡ 0
      nothing-sent =
          ap (λ (o : Outcome). o.count) done
          ∙ ap (λ (x : Stepped). length x.messages) (step-domain_read (board_of l) d a s)
          ∙ ap (λ (r : Word). length (read_call w (eqb d 1) r).messages) named
          ∙ ap (λ (o : Out). length o.messages)
          (read_call-none w (eqb d 1) r none (sound-quiet (board_of l) sound))

      all_left : after (DomainRead d a) (record { block = l; log = g; saved = s })
          ≡ record { block = l; log = g; saved = s }
      all_left = after_read (DomainRead d a) _ (reads_word d a (λ i e. none i (ap role_of (sym named ∙ e))))

abbrev bit : ℕ → ℕ → ℕ
bit n v = v / 2 ^ n % 2

plain : (k h : ℕ) → role_of (InClrip k) ≢ Claims h
unfolding claims_by
plain k h e = false≢true (ap claims_by e)

pub claim-204 : Claim-204
unfolding Claim-204 after Claim-132 Claim-203
claim-204 l g s long full sound d k there h =
    let a = 0x1D00 + 4 * k in
    let legal = in-clrip-legal k h in
    let named = in-clrip-at k h in
    let left = all_left l g s long full sound d there a legal (InClrip k) named (plain k) in
    let value = value_read l g s long full sound d there a legal (InClrip k) named in
    let w = (board_of l).wired in
    let words = claim-132 (domain_in w (eqb d 1)) w.wires k in (
      outcome-number (in_clrip d k) l g s ∙ read-accepted l g d a long full sound there legal,
      subst (λ (v : ℕ). v < 2 ^ 32) (sym value) words.1,
      nothing-sent l g s long full sound d there a legal (InClrip k) named (plain k),
      ap (λ (x : Lent). x.block) left,
      ap (λ (x : Lent). x.log) left,
      ap (λ (x : Lent). x.saved) left,
      (λ n m. (
        subst (λ (v : ℕ). InputRead v n (32 * k + n) (domain_in w (eqb d 1)) w.wires) (sym value)
            (words.0 n m).2,
        (λ i direct level. let keeps = wired-sound l g s long full sound d there in
            ap (bit n) value ∙ (((claim-203 w keeps k n h m i).0 (eqb d 1)).0 level).1 direct
            ∙ ap (bit n) (sym (value_read l g s long full sound d there (0x1C00 + 4 * k) (setip-legal k h)
            (Setip k) (setip-at k h)))),
      )),
    )
