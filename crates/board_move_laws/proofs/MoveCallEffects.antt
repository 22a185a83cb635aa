-- One access of a move: what the call tests, what the parts of its code do, and what it gives. No contract
-- cites this file. Assumes nothing.
--   Made a .. b s b' s'   the act a makes b' of the board b, and s' of the saved numbers s
use Prim.Native.Nat.{ℕ, ◌≤◌, ◌<◌}
use mathlib.Core.Path.{◌≡◌, refl, sym, ap₂, ◌∙◌}
use mathlib.Core.Bool.{Bool, true, false, ◌&&◌}
use mathlib.Core.List.{List}
use lib.Dec.{leb, ltb}
use lib.ListN.{length, get_or, set}
use borrow.Author.Tests.{ltb-true, leb-true, lt-ltb, le-leb}
use Rattle.words.proofs.TestsLaws.{and_first, and_second, and_both}
use Rattle.sizes.specs.Sizes.{identities, block_size}
use Rattle.file.specs.declared.File.{File}
use Rattle.file.specs.declared.register.Access.{Access}
use Rattle.file.specs.declared.register.Access.TheVariants.{Read, Write}
use Rattle.file.specs.declared.register.Accessed.{Accessed}
use Rattle.file.specs.Reply.{reply_value}
use Rattle.file.specs.Register.{accessed}
use Rattle.files.specs.Files.{file_number, the_file}
use Rattle.domain.specs.Domain.{domaincfg_of, by_messages}
use Rattle.domain_region.specs.declared.Word.TheVariants as word
use Rattle.domain_registers.specs.Read.{claimed_as, claimed_by}
use Rattle.wired_state.specs.Wires.{Wired, domain_in, with_domain}
use Rattle.wired_registers.specs.Wired.{read_in, claimed_in, written_in}
use Rattle.wired_rules_laws.proofs.DomaincfgEffects.{domaincfg-low}
use Rattle.wired_rules_laws.proofs.WiredEffects.{steady-domain_in}
use Rattle.wired_rules_laws.specs.Steady.{WiredSteady}
use Rattle.domain_sending.proofs.SendingLaws.{logged_none}
use Rattle.board_move_steps.specs.Names.{names_file, renamed}
use Rattle.sizes.specs.Sizes.{saved_size}
use Rattle.board_move_steps.specs.Steps.{act_of, act_within}
use Rattle.board_move_steps.specs.declared.Act.{Act}
use Rattle.board_move_steps.specs.declared.Act.TheVariants.{Save, Zero, Target, Put}
use Rattle.board_block.specs.Block.{Board, with_wired, board_of, board_sound}
use Rattle.board_block_laws.proofs.BlockBack.{board_of-shaped}
use Rattle.board_call.specs.Answer.{done_with}
use Rattle.board_call.specs.declared.Call.TheVariants.{Move}
use Rattle.board_call.specs.Numbers.{is_file, is_guest_file, is_move}
use Rattle.board_call.specs.Calls.{row_of}
use Rattle.board_call.specs.Refusal.{block_refusal}
use Rattle.board_call.specs.Move.{register_on, with_one, retargeted_in, acted}
use Rattle.board_call.specs.Outcome.{outcome, Gives}
use Rattle.board_call_laws.proofs.CallTests.{Tested, checked-long, checked-sound}
use Rattle.board_call_laws.proofs.CallTests.{tests_left}
use Rattle.board_call_laws.proofs.FileCallEffects.{guest-file}
use Rattle.board_call_laws.proofs.FitEffects.{shaped-steady}
use Rattle.board_move_laws.proofs.MoveEffects.{guest-hart, guest-low, guest-high, step-access}

-- ---- a register of a guest's file

module _ (h f : ℕ) (there : is_guest_file h f ≡ true) where
  pub guest-there : is_file h f ≡ true
  unfolding is_file
  guest-there =
      and_both (ltb h 4) (ltb f 5) (lt-ltb h 4 (guest-hart h f there)) (lt-ltb f 5 (guest-high h f there))

  -- what an access to it did, from the file that was loaded
  pub register-made : (b : Board) (x : File) → x ≡ the_file b.files (file_number h f)
      → (k : Access) (s v : ℕ) (r : Accessed) → r ≡ accessed identities true x k s v
      → r ≡ register_on b h f k s v
  register-made b x here k s v r did =
      did
      ∙ ap₂ (λ (g : Bool) (y : File). accessed identities g y k s v)
      (sym (le-leb 2 f (guest-low h f there)) ∙ guest-file h f guest-there) here

-- ---- a target of the child domain

module _ (oh of nh nf : ℕ) (w : Wired) (i : ℕ) where
  -- a read of it changes nothing
  target-back : claimed_in w true (word.Target i) ≡ w
  unfolding claimed_by claimed_as domain_in with_domain
  target-back = refl

  -- t was read, and left the controller v
  module _ (t : ℕ) (v : Wired) (read : t ≡ read_in w true (word.Target i))
      (left : v ≡ claimed_in w true (word.Target i)) where
    pub retarget-made : names_file t oh of ≡ true → (n : ℕ) → n ≡ renamed t nh nf → (v' : Wired)
        → v' ≡ written_in v true (word.Target i) n → v' ≡ retargeted_in oh of nh nf w i
    unfolding retargeted_in
    retarget-made names n q v' wrote =
        wrote
        ∙ ap₂ (λ (x : Wired) (m : ℕ). written_in x true (word.Target i) m) (left ∙ target-back) q
        ∙ rw (sym read) (simp names)

    pub retarget-none : names_file t oh of ≡ false → v ≡ retargeted_in oh of nh nf w i
    unfolding retargeted_in
    retarget-none names = left ∙ target-back ∙ rw (sym read) (simp names)

-- ---- one act

module _ (a : Act) (within : act_within a ≡ true) where
  pub save-within : (x p : ℕ) → a ≡ Save x p → p < 10
  unfolding act_within
  save-within x p e = ltb-true p saved_size (rw e at within)

  pub put-within : (k : Access) (x p : ℕ) → a ≡ Put k x p → p < 10
  unfolding act_within
  put-within k x p e = ltb-true p saved_size (rw e at within)

  pub target-low : (i : ℕ) → a ≡ Target i → 1 ≤ i
  unfolding act_within
  target-low i e = leb-true 1 i (and_first (leb 1 i) (leb i 63) (rw e at within))

  pub target-high : (i : ℕ) → a ≡ Target i → i ≤ 63
  unfolding act_within
  target-high i e = leb-true i 63 (and_second (leb 1 i) (leb i 63) (rw e at within))

abbrev pub Made : Act → ℕ → ℕ → ℕ → ℕ → Board → List ℕ → Board → List ℕ → Type 0
Made a oh of nh nf b s b' s' =
    (b' ≡ (acted a oh of nh nf b s).board) × (s' ≡ (acted a oh of nh nf b s).saved)

module _ (a : Act) (oh of nh nf : ℕ) (b : Board) (s : List ℕ) where
  pub made-save : (x p : ℕ) → a ≡ Save x p → (s' : List ℕ)
      → s' ≡ set s p (reply_value (register_on b oh of Read x 0).answer) → Made a oh of nh nf b s b s'
  unfolding acted
  made-save x p e s' q = rw e (refl, q)

  module _ (b' : Board) where
    pub made-zero-new : (new : Bool) (x : ℕ) → a ≡ Zero new x → new ≡ true
        → b' ≡ with_one b nh nf (register_on b nh nf Write x 0).file → Made a oh of nh nf b s b' s
    unfolding acted
    made-zero-new new x e t q = rw (e, t) (q, refl)

    pub made-zero-old : (new : Bool) (x : ℕ) → a ≡ Zero new x → new ≡ false
        → b' ≡ with_one b oh of (register_on b oh of Write x 0).file → Made a oh of nh nf b s b' s
    unfolding acted
    made-zero-old new x e t q = rw (e, t) (q, refl)

    pub made-target : (i : ℕ) → a ≡ Target i
        → b' ≡ with_wired b (retargeted_in oh of nh nf b.wired i)
        → Made a oh of nh nf b s b' s
    unfolding acted
    made-target i e q = rw e (q, refl)

    pub made-put : (k : Access) (x p : ℕ) → a ≡ Put k x p
        → b' ≡ with_one b nh nf (register_on b nh nf k x (get_or s p 0)).file → Made a oh of nh nf b s b' s
    unfolding acted
    made-put k x p e q = rw e (q, refl)

-- ---- the call

-- what the wired part of a block that keeps the rules has for domaincfg
pub block-steady : (l : List ℕ) → length l ≡ block_size → board_sound (board_of l) ≡ true
    → WiredSteady (board_of l).wired
block-steady l long sound = shaped-steady (board_of l) (board_of-shaped l long) sound

pub child-domaincfg : (l : List ℕ) → length l ≡ block_size → board_sound (board_of l) ≡ true
    → domaincfg_of (domain_in (board_of l).wired true) < 0x80000000
child-domaincfg l long sound =
    domaincfg-low (steady-domain_in (board_of l).wired (block-steady l long sound) true)

pub tests-move : (oh of nh nf n : ℕ)
    → Tested (Move oh of nh nf n) (λ b. is_move oh of nh nf n && by_messages b.wired.child) true true
unfolding row_of
tests-move oh of nh nf n = record { row = refl }

module _ (l g : List ℕ) (z : block_refusal true l g ≡ 0) (oh of nh nf n : ℕ) where
  module _ (there : is_move oh of nh nf n ≡ true) where
    -- its code left the block l' and the saved numbers s'
    pub move-done : by_messages (board_of l).wired.child ≡ true → (a : Act) → a ≡ act_of n
        → (l' s s' : List ℕ) → length l' ≡ length l → Made a oh of nh nf (board_of l) s (board_of l') s'
        → Gives (outcome (Move oh of nh nf n) l g s) (done_with 0 0) l' g s'
    move-done messages a act l' s s' kept made =
        let long = checked-long l g z in
        let sound = checked-sound l g z in
        let did : Made (act_of n) oh of nh nf (board_of l) s (board_of l') s' = rw act at made in
        tests_left (tests-move oh of nh nf n) l g z (and_both _ _ there messages) refl refl s _
        (step-access (board_of l) sound (block-steady l long sound) oh of nh nf n there s) 0 0 l' g s'
        (kept ∙ long) refl did.0 (sym (logged_none g)) refl did.1
