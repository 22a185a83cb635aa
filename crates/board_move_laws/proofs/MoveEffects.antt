-- One access of a move on a board that is fit: it sends nothing, and leaves the board fit and the saved
-- numbers of 64 bits, so that the next call can be made. No contract cites this file. Assumes nothing.
use Prim.Native.Nat.{ℕ, ◌^◌, ◌≤◌, ◌<◌}
use mathlib.Core.Path.{◌≡◌, refl}
use mathlib.Core.Bool.{Bool, true, false, not, ◌&&◌}
use mathlib.Core.List.{List}
use native.Mathlib.Decide.{ℕ_discrete, dec_lt}
use native.Mathlib.Omega.{arith}
use lib.Dec.{eqb, leb, ltb}
use lib.ListN.{length, get_or, set}
use lib.Seq.{get_or-set_same, get_or-set_other, set_out}
use borrow.Author.Tests.{ltb-true, leb-true}
use Rattle.words.proofs.TestsLaws.{tested, and_first, and_second}
use Rattle.sizes.specs.Sizes.{identities, file_count}
use Rattle.file_select.specs.Select.{select_legal, register_of}
use Rattle.file.specs.declared.File.{File}
use Rattle.file.specs.declared.register.Access.{Access}
use Rattle.file.specs.declared.register.Access.TheVariants.{Read, Write, Set, Clear}
use Rattle.file.specs.Reply.{reply_value}
use Rattle.file.specs.Register.{accessed, accessed_at}
use Rattle.file.specs.Shape.{Shaped}
use Rattle.file_laws.proofs.Keeps.{held-lt, accessed-shaped, accessed-rules}
use Rattle.files.specs.Files.{file_number, is_guest, the_file}
use Rattle.wired_rules_laws.specs.Steady.{WiredSteady, WiredQuiet}
use Rattle.board_move_steps.specs.Steps.{accesses, act_of, act_within}
use Rattle.board_move_steps.specs.declared.Act.{Act}
use Rattle.board_move_steps.specs.declared.Act.TheVariants.{Save, Zero, Target, Put}
use Rattle.board_move_files_laws.proofs.TableLaws.{act-within}
use Rattle.board_block.specs.Block.{Board, board_sound}
use Rattle.board_call.specs.declared.Call.TheVariants.{Move}
use Rattle.board_call.specs.Change.{change}
use Rattle.board_call.specs.Move.{register_on, with_one, acted}
use Rattle.board_move_wired_laws.proofs.StepThree.{retargeted-steady, retargeted-quiet, retargeted-sound}
use Rattle.board_call.specs.Outcome.{step}
use Rattle.board_call.specs.Numbers.{is_guest_file, is_move}
use Rattle.board_call_laws.specs.Fit.{Fit, SavedFit, Kept}
use Rattle.board_call_laws.proofs.CallTests.{quiet}
use Rattle.board_call_laws.proofs.FitEffects.{fit-steady, fit-rules, fit-with_file, fit-rewired}
use Rattle.board_call_laws.proofs.KeepsEffects.{kept_of}
use Rattle.board_call_laws.proofs.StepEffects.{sound-quiet, settled-quiet}

-- ---- the numbers of a move that is not barred

-- a guest's file is one of the 20
module _ (h f : ℕ) (there : is_guest_file h f ≡ true) where
  abbrev low : Bool
  low = ltb h 4 && leb 2 f

  pub guest-hart : h < 4
  unfolding is_guest_file
  guest-hart = ltb-true h 4 (and_first (ltb h 4) (leb 2 f) (and_first low (ltb f 5) there))

  pub guest-low : 2 ≤ f
  unfolding is_guest_file
  guest-low = leb-true 2 f (and_second (ltb h 4) (leb 2 f) (and_first low (ltb f 5) there))

  pub guest-high : f < 5
  unfolding is_guest_file
  guest-high = ltb-true f 5 (and_second low (ltb f 5) there)

  pub guest-number : file_number h f < file_count
  unfolding file_number
  guest-number = omega (arith, guest-hart, guest-high)

module _ (oh of nh nf n : ℕ) (there : is_move oh of nh nf n ≡ true) where
  abbrev old : Bool
  old = is_guest_file oh of

  abbrev new : Bool
  new = is_guest_file nh nf

  abbrev apart : Bool
  apart = not (eqb oh nh && eqb of nf)

  move-files : (old && new && apart) ≡ true
  unfolding is_move
  move-files = and_first (old && new && apart) (leb 1 n) (and_first _ (leb n accesses) there)

  pub move-old : is_guest_file oh of ≡ true
  move-old = and_first old new (and_first (old && new) apart move-files)

  pub move_new : is_guest_file nh nf ≡ true
  move_new = and_second old new (and_first (old && new) apart move-files)

  pub move-apart : not (eqb oh nh && eqb of nf) ≡ true
  move-apart = and_second (old && new) apart move-files

  pub move-low : 1 ≤ n
  unfolding is_move
  move-low = leb-true 1 n (and_second (old && new && apart) (leb 1 n) (and_first _ (leb n accesses) there))

  pub move-high : n ≤ accesses
  unfolding is_move
  move-high = leb-true n accesses (and_second (old && new && apart && leb 1 n) (leb n accesses) there)

-- ---- one access

-- what an access to a register answers has 64 bits
answered-lt : (g : Bool) (f : File) (k : Access) (s v : ℕ) → Shaped f
    → reply_value (accessed identities g f k s v).answer < 2 ^ 64
unfolding accessed
answered-lt g f k s v shaped = tested (select_legal s) (λ t. rw t (at k)) (λ u. rw u (omega arith))
  where
    at : (k : Access) → reply_value
        (accessed_at identities g f k (register_of identities s) v).answer < 2 ^ 64
    at Read = unfold accessed_at in held-lt f (register_of identities s) shaped
    at Write = unfold accessed_at in omega arith
    at Set = unfold accessed_at in held-lt f (register_of identities s) shaped
    at Clear = unfold accessed_at in held-lt f (register_of identities s) shaped

saved-set : (s : List ℕ) (p v : ℕ) → SavedFit s → v < 2 ^ 64 → SavedFit (set s p v)
saved-set s p v fit h k = at (ℕ_discrete k p) (dec_lt p (length s))
  where
    at : Dec (k ≡ p) → Dec (p < length s) → get_or (set s p v) k 0 < 2 ^ 64
    at (no n) d = rw (get_or-set_other s p k v 0 n) (fit k)
    at (yes e) (yes l) = rw (e, get_or-set_same s p v 0 l) h
    at (yes e) (no l) = rw (set_out s p v (omega arith)) (fit k)

module _ (b : Board) (fit : Fit b) where
  -- an access to a register of a file that is there
  fit-register : (h f : ℕ) → is_guest_file h f ≡ true → (k : Access) (s v : ℕ) → v < 2 ^ 64
      → Fit (with_one b h f (register_on b h f k s v).file)
  fit-register h f there k s v small =
      let n = file_number h f in
      let below = guest-number h f there in
      let x = the_file b.files n in
      fit-with_file b fit n _
      (accessed-shaped identities (is_guest n) x v (omega arith) small (fit.files n below) k s)
      (accessed-rules identities (is_guest n) x v (omega arith) small (fit.files n below) k s
      (fit-rules b fit n below))

  module _ (oh of nh nf : ℕ) (old : is_guest_file oh of ≡ true) (new : is_guest_file nh nf ≡ true)
      (s : List ℕ)
      (small : SavedFit s) where
    pub acted-fit : (a : Act) → act_within a ≡ true → Fit (acted a oh of nh nf b s).board
    unfolding acted act_within
    acted-fit (Save select place) w = fit
    acted-fit (Zero true select) w = fit-register nh nf new Write select 0 (omega arith)
    acted-fit (Zero false select) w = fit-register oh of old Write select 0 (omega arith)
    acted-fit (Target i) w =
        let l = leb-true 1 i (and_first (leb 1 i) (leb i 63) w) in
        let h = leb-true i 63 (and_second (leb 1 i) (leb i 63) w) in
        let q = sound-quiet b fit.sound in
        let s = fit-steady b fit in
        fit-rewired b fit _ (retargeted-steady oh of nh nf b.wired i s l (omega arith))
        (retargeted-sound oh of nh nf b.wired i s l (omega arith) q)
    acted-fit (Put kind select place) w =
        fit-register nh nf new kind select (get_or s place 0) (small place)

    pub acted-saved : (a : Act) → SavedFit (acted a oh of nh nf b s).saved
    unfolding acted
    acted-saved (Save select place) =
        let n = file_number oh of in
        saved-set s place _ small
        (answered-lt (is_guest n) (the_file b.files n) Read select 0
        (fit.files n (guest-number oh of old)))
    acted-saved (Zero new select) = small
    acted-saved (Target i) = small
    acted-saved (Put kind select place) = small

-- ---- the call

-- a board that keeps the rules, whatever the words of its files
module _ (b : Board) (sound : board_sound b ≡ true) (steady : WiredSteady b.wired) where
  acted-quiet : (oh of nh nf : ℕ) (s : List ℕ) (a : Act) → act_within a ≡ true
      → WiredQuiet (acted a oh of nh nf b s).board.wired
  unfolding acted act_within
  acted-quiet oh of nh nf s (Save select place) w = sound-quiet b sound
  acted-quiet oh of nh nf s (Zero new select) w = sound-quiet b sound
  acted-quiet oh of nh nf s (Target i) w =
      let l = leb-true 1 i (and_first (leb 1 i) (leb i 63) w) in
      let h = leb-true i 63 (and_second (leb 1 i) (leb i 63) w) in
      retargeted-quiet oh of nh nf b.wired i steady l (omega arith) (sound-quiet b sound)
  acted-quiet oh of nh nf s (Put kind select place) w = sound-quiet b sound

  -- its access, and nothing sent
  pub step-access : (oh of nh nf n : ℕ) → is_move oh of nh nf n ≡ true → (s : List ℕ)
      → let x = acted (act_of n) oh of nh nf b s in
      step (Move oh of nh nf n) b s ≡ quiet x.board 0 x.saved
  unfolding step change
  step-access oh of nh nf n there s =
      settled-quiet _
      (acted-quiet oh of nh nf s (act_of n)
      (act-within n (move-low oh of nh nf n there) (move-high oh of nh nf n there)))
      refl

pub step_move : (b : Board) → Fit b → (oh of nh nf n : ℕ) → is_move oh of nh nf n ≡ true → (s : List ℕ)
    → let x = acted (act_of n) oh of nh nf b s in
    step (Move oh of nh nf n) b s ≡ quiet x.board 0 x.saved
step_move b fit = step-access b fit.sound (fit-steady b fit)

pub kept_move : (b : Board) → Fit b → (s : List ℕ) → SavedFit s → (oh of nh nf n : ℕ)
    → is_move oh of nh nf n ≡ true → Kept (step (Move oh of nh nf n) b s)
kept_move b fit s small oh of nh nf n there =
    let old = move-old oh of nh nf n there in
    let new = move_new oh of nh nf n there in
    let within = act-within n (move-low oh of nh nf n there) (move-high oh of nh nf n there) in
    kept_of (step_move b fit oh of nh nf n there s)
    record {
      fit = acted-fit b fit oh of nh nf old new s small (act_of n) within;
      few = omega arith;
      saved = acted-saved b fit oh of nh nf old new s small (act_of n);
    }
