-- The proofs of claims 171 to 174. Assumes nothing.
use Prim.Native.Nat.{ℕ, ◌+◌, ◌-◌, ◌*◌, ◌%◌, ◌≤◌, ◌<◌}
use mathlib.Core.Path.{◌≡◌, refl, sym, ap, ◌∙◌}
use mathlib.Core.Bool.{Bool, true, false}
use mathlib.Core.List.{List, ◌++◌}
use native.Mathlib.Omega.{arith}
use lib.Dec.{leb}
use lib.ListN.{length, get_or, drop, get_or-append}
use lib.Seq.{get_or-append-add, get_or-drop}
use Rattle.file.specs.declared.File.{File}
use Rattle.file.specs.declared.register.Access.{Access}
use Rattle.file.specs.declared.register.Access.TheVariants.{Read, Write, Set, Clear}
use Rattle.file.specs.Page.{page_written, page_read}
use Rattle.file.specs.Register.{accessed}
use Rattle.file.specs.Reply.{reply_value}
use Rattle.files.specs.Files.{file_number, is_guest, the_file}
use Rattle.files.proofs.FilesLaws.{the_file-with_file-same}
use Rattle.domain_sending.specs.Sending.{logged}
use Rattle.domain_region.specs.declared.Word.{Word}
use Rattle.domain_region.specs.declared.Word.TheVariants.{InClrip, Topi, Claimi}
use Rattle.domain_region.specs.Region.{word_at}
use Rattle.domain_region.proofs.RegionLaws.{in-clrip-at, topi-at, claimi-at}
use Rattle.domain_registers.specs.Read.{register_value}
use Rattle.wired_state.specs.Wires.{domain_in}
use Rattle.wired_registers.specs.Wired.{read_in}
use Rattle.wired.specs.Controller.{Out}
use Rattle.board_block.specs.Block.{Board, board_sound}
use Rattle.board_call.proofs.RefusalLaws.{accepted-present}
use Rattle.board_call.specs.Calls.{row_of}
use Rattle.board_call.specs.declared.Call.TheVariants.{DomainRead}
use Rattle.board_call.specs.Change.{kind_of, on_file, change}
use Rattle.board_call.specs.Outcome.{Outcome, Stepped, then_sent, step, done_as}
use Rattle.board_call_laws.proofs.OutcomeEffects.{outcome-done}
use Rattle.board_call_laws.proofs.StepEffects.{wired_step, step-wire, step-domain_read, step-domain_write}
use Rattle.board_call_laws.proofs.StepEffects.{step-on_file}
use Rattle.board_runs.specs.Runs.{outcome_on, after}
use Rattle.board_runs.specs.Ready.{board_in}
use Rattle.board_runs.proofs.RunsEffects.{ready-refusal, after-board, ready-after}
use Rattle.board_call_laws.specs.Fit.{Kept}
use Rattle.board_runs.proofs.KeptEffects.{kept_step}
use Rattle.claims_registers.specs.Registers.{InputRead, Claim-132}
use Rattle.claims_registers.proofs.Registers.{claim-132}
use Rattle.claims_board.specs.Accepted.{AccessedBy}
use Rattle.claims_board.specs.Accepted.{Claim-171, Claim-172, Claim-173, Claim-174}

module _ (g ms : List ℕ) where
  -- the messages come first, and past them the log is as it was
  logged-first : (k : ℕ) → k < length ms → get_or (logged g ms) k 0 ≡ get_or ms k 0
  unfolding logged
  logged-first k h = get_or-append ms (drop (length ms) g) 0 k h

  logged-later : (k : ℕ) → length ms ≤ k → get_or (logged g ms) k 0 ≡ get_or g k 0
  unfolding logged
  logged-later k h =
      let place : k ≡ length ms + (k - length ms) = omega (arith, h) in
      ap (λ (i : ℕ). get_or (ms ++ drop (length ms) g) i 0) place
      ∙ get_or-append-add ms (drop (length ms) g) (k - length ms) 0 ∙ get_or-drop (length ms) g
      (k - length ms) 0
      ∙ ap (λ (i : ℕ). get_or g i 0) (sym place)

pub claim-171 : Claim-171
unfolding Claim-171 after
claim-171 c x ready small e =
    let y = step c (board_in x) x.saved in
    let done : outcome_on c x ≡ done_as y x.log =
    outcome-done c x.block x.log x.saved (ready-refusal c x ready ∙ e) in
    let kept : Kept y =
    kept_step (board_in x) ready.fit x.saved ready.saved c
    (accepted-present (row_of c).tests (board_in x) e) small in
    let next = ready-after c x ready small in (
      ap (λ (o : Outcome). o.number) done,
      ap (λ (o : Outcome). o.value) done,
      ap (λ (o : Outcome). o.count) done,
      rw done kept.few,
      after-board c x ready e small,
      next.long,
      ap (λ (o : Outcome). o.saved) done,
      rw done (logged-first x.log y.messages),
      rw done (logged-later x.log y.messages),
      next.full,
    )

pub claim-172 : Claim-172
unfolding Claim-172 step then_sent change file_number page_read
claim-172 b s = (
  refl,
  (λ i level. refl),
  (λ d a v. refl),
  (λ h f a. refl),
  (λ h f a v. refl),
  (λ oh of nh nf n. refl),
  (λ h f. refl),
  (λ h f. refl),
  (λ h. refl),
)

module _ (b : Board) (many : length b.files ≡ 20) (sound : board_sound b ≡ true) (s : List ℕ) where
  module _ (h f : ℕ) (p : h < 4) (q : f < 5) where
    -- a call on one file leaves there what it makes of it
    on-file : (g : File) (v : ℕ)
        → the_file (then_sent (on_file b (5 * h + f) g v s)).board.files (5 * h + f) ≡ g
    on-file g v =
        ap (λ (x : Stepped). the_file x.board.files (5 * h + f)) (step-on_file b sound (5 * h + f) g v s)
        ∙ the_file-with_file-same b.files (5 * h + f) g (omega (arith, many, p, q))

    guest : is_guest (5 * h + f) ≡ leb 2 f
    unfolding is_guest
    guest =
        let rest : (5 * h + f) % 5 ≡ f = omega (arith, q) in
        rw rest refl

    by : (k : Access) (select v : ℕ)
        → let r = accessed 255 (is_guest (5 * h + f)) (the_file b.files (5 * h + f)) k select v in
        AccessedBy k h f b (then_sent (on_file b (5 * h + f) r.file (reply_value r.answer) s)) select v
        (5 * h + f)
    unfolding then_sent
    by k select v =
        let x = the_file b.files (5 * h + f) in (
          ap (λ (g : Bool). reply_value (accessed 255 g x k select v).answer) guest,
          on-file _ (reply_value (accessed 255 (is_guest (5 * h + f)) x k select v).answer)
              ∙ ap (λ (g : Bool). (accessed 255 g x k select v).file) guest,
        )

-- a step that is one of the wired controller
as-wired : (b : Board) (s : List ℕ) (o : Out) (v : ℕ) (x : Stepped) → x ≡ wired_step b o v s
    → (x.board.wired ≡ o.wired) × (x.messages ≡ o.messages)
as-wired b s o v x e = (ap (λ (x : Stepped). x.board.wired) e, ap (λ (x : Stepped). x.messages) e)

pub claim-173 : Claim-173
unfolding Claim-173 step change file_number kind_of
claim-173 b many sound s = (
  (λ h f p q. (
    (λ a v. on-file b many sound s h f p q (page_written 255 (the_file b.files (5 * h + f)) a v) 0),
    on-file b many sound s h f p q _ _,
    (λ select v. (
      by b many sound s h f p q Read select v,
      by b many sound s h f p q Write select v,
      by b many sound s h f p q Set select v,
      by b many sound s h f p q Clear select v,
    )),
  )),
  (λ i. (as-wired b s _ _ _ (step-wire b i 0 s), as-wired b s _ _ _ (step-wire b i 1 s))),
  (λ a. (
    ap (λ (x : Stepped). x.value) (step-domain_read b 0 a s),
    ap (λ (x : Stepped). x.value) (step-domain_read b 1 a s),
    as-wired b s _ _ _ (step-domain_read b 0 a s),
    as-wired b s _ _ _ (step-domain_read b 1 a s),
  )),
  (λ a v. (
    as-wired b s _ _ _ (step-domain_write b 0 a v s),
    as-wired b s _ _ _
        (step-domain_write b 1 a v s),
  )),
)

-- what a read of a register answers is what the register reads
module _ (b : Board) (s : List ℕ) (a : ℕ) (r : Word) (e : word_at a ≡ r) where
  read-machine : (step (DomainRead 0 a) b s).value ≡ read_in b.wired false r
  read-machine = ap (λ (x : Stepped). x.value) (step-domain_read b 0 a s) ∙ ap (read_in b.wired false) e

  read-child : (step (DomainRead 1 a) b s).value ≡ read_in b.wired true r
  read-child = ap (λ (x : Stepped). x.value) (step-domain_read b 1 a s) ∙ ap (read_in b.wired true) e

  -- bit by bit, as Claim-132 says it of the register
  module _ (k n : ℕ) (l : n < 32) (q : r ≡ InClrip k) where
    input-machine : InputRead (step (DomainRead 0 a) b s).value n (32 * k + n) b.wired.machine
        b.wired.wires
    unfolding Claim-132 domain_in
    input-machine = rw (read-machine, q) ((claim-132 b.wired.machine b.wired.wires k).0 n l).2

    input-child : InputRead (step (DomainRead 1 a) b s).value n (32 * k + n) b.wired.child
        b.wired.wires
    unfolding Claim-132 domain_in
    input-child = rw (read-child, q) ((claim-132 b.wired.child b.wired.wires k).0 n l).2

pub claim-174 : Claim-174
unfolding Claim-174 register_value domain_in
claim-174 b s = (
  (λ h l. (
    read-machine b s (0x4000 + 32 * h + 0x18) (Topi h) (topi-at h l),
    read-child b s (0x4000 + 32 * h + 0x18) (Topi h) (topi-at h l),
    read-machine b s (0x4000 + 32 * h + 0x1C) (Claimi h) (claimi-at h l),
    read-child b s (0x4000 + 32 * h + 0x1C) (Claimi h) (claimi-at h l),
  )),
  (λ k n m l. (
    input-machine b s (0x1D00 + 4 * k) (InClrip k) (in-clrip-at k m) k n l refl,
    input-child b s (0x1D00 + 4 * k) (InClrip k) (in-clrip-at k m) k n l refl,
  )),
)
