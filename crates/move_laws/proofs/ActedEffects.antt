-- What one access of a move does to the files and the saved numbers, as the laws of the files have it, and to
-- the wired controller. No contract cites this file. Assumes nothing.
use Prim.Native.Nat.{ℕ}
use mathlib.Core.Path.{◌≡◌, refl, sym, ap, subst, ◌∙◌}
use mathlib.Core.Bool.{Bool, true, false, true≢false}
use mathlib.Core.List.{List}
use mathlib.Core.Logic.{◌≢◌}
use native.Mathlib.Omega.{arith}
use lib.ListN.{length, get_or, set}
use borrow.Author.Tests.{le-leb}
use Rattle.sizes.specs.Sizes.{identities, file_count}
use Rattle.file.specs.declared.File.{File}
use Rattle.file.specs.declared.register.Access.{Access}
use Rattle.file.specs.declared.register.Access.TheVariants.{Read, Write}
use Rattle.file.specs.declared.register.Accessed.{Accessed}
use Rattle.file.specs.Reply.{reply_value}
use Rattle.file.specs.Register.{accessed}
use Rattle.file_laws.proofs.Keeps.{Rules}
use Rattle.files.specs.Files.{file_number, is_guest, the_file, with_file}
use Rattle.files.proofs.FilesLaws.{the_file-with_file-same, the_file-with_file-other}
use Rattle.board_move_steps.specs.declared.Act.{Act}
use Rattle.board_move_steps.specs.declared.Act.TheVariants.{Save, Zero, Target, Put}
use Rattle.board_move_files_laws.proofs.TableLaws.{is_target}
use Rattle.board_move_files_laws.specs.Related.{Three, guest_access, acted_on}
use Rattle.board_move_files_laws.proofs.WrittenEffects.{large-within}
use Rattle.board_move_files_laws.proofs.RelatedEffects.{Whole}
use Rattle.board_block.specs.Block.{Board}
use Rattle.board_call.specs.Move.{register_on, retargeted_in, Acted, acted}
use Rattle.board_call.specs.Numbers.{is_guest_file}
use Rattle.board_call_laws.specs.Fit.{Fit}
use Rattle.board_call_laws.proofs.FileCallEffects.{guest-file}
use Rattle.board_call_laws.proofs.FitEffects.{fit-rules}
use Rattle.board_move_laws.proofs.MoveCallEffects.{guest-there}
use Rattle.board_move_laws.proofs.MoveEffects.{guest-low, guest-number}
use Rattle.move_laws.proofs.ArrivalEffects.{three}

three-path : {x y : Three} → x.old ≡ y.old → x.new ≡ y.new → x.numbers ≡ y.numbers → x ≡ y
three-path o f s k = record { old = o k; new = f k; numbers = s k }

-- a guest's file: it keeps the rules, and what an access to a register of it is
module _ (h f : ℕ) (there : is_guest_file h f ≡ true) where
  pub guest-is : is_guest (file_number h f) ≡ true
  guest-is = sym (guest-file h f (guest-there h f there)) ∙ le-leb 2 f (guest-low h f there)

  pub guest-whole : (b : Board) → Fit b → Whole identities (the_file b.files (file_number h f))
  guest-whole b fit =
      let k = file_number h f in
      let lt = guest-number h f there in
      record {
        shaped = fit.files k lt;
        rules = subst (λ (g : Bool). Rules identities g (the_file b.files k)) guest-is
            (fit-rules b fit k lt);
        within = large-within (the_file b.files k);
      }

  register-guest : (b : Board) (k : Access) (s v : ℕ)
      → register_on b h f k s v ≡ guest_access identities (the_file b.files (file_number h f)) k s v
  register-guest b k s v =
      ap (λ (g : Bool). accessed identities g (the_file b.files (file_number h f)) k s v) guest-is

module _ (oh of nh nf : ℕ) (old_there : is_guest_file oh of ≡ true) (new_there : is_guest_file nh nf ≡ true)
    (different : file_number nh nf ≢ file_number oh of) (b : Board) (many : length b.files ≡ file_count)
    (s : List ℕ) where
  abbrev old : ℕ
  old = file_number oh of

  abbrev new : ℕ
  new = file_number nh nf

  abbrev left : Act → Acted
  left a = acted a oh of nh nf b s

  -- a file put in the place of new, or of old
  put-new : (x : File) → three old new (with_file b.files new x) s
      ≡ record { old = the_file b.files old; new = x; numbers = s }
  put-new x =
      three-path (the_file-with_file-other b.files new x old (λ e. different (sym e)))
      (the_file-with_file-same b.files new x (omega (arith, guest-number nh nf new_there))) refl

  put-old : (x : File) → three old new (with_file b.files old x) s
      ≡ record { old = x; new = the_file b.files new; numbers = s }
  put-old x =
      three-path (the_file-with_file-same b.files old x (omega (arith, guest-number oh of old_there)))
      (the_file-with_file-other b.files old x new different) refl

  pub acted-three : (a : Act)
      → three old new (left a).board.files (left a).saved
      ≡ acted_on identities a (three old new b.files s)
  unfolding acted acted_on
  acted-three (Save select place) =
      three-path refl refl
      (ap (λ (x : Accessed). set s place (reply_value x.answer))
      (register-guest oh of old_there b Read select 0))
  acted-three (Zero new? select) = at new?
    where
      at : (c : Bool)
          → three old new (left (Zero c select)).board.files s
          ≡ acted_on identities (Zero c select) (three old new b.files s)
      at true =
          unfold acted acted_on in
          put-new _ ∙ three-path refl (ap (λ (x : Accessed). x.file) (register-guest nh nf new_there b Write
          select 0))
          refl
      at false =
          unfold acted acted_on in
          put-old _ ∙ three-path (ap (λ (x : Accessed). x.file) (register-guest oh of old_there b Write
          select 0)) refl
          refl
  acted-three (Target i) = refl
  acted-three (Put kind select place) =
      put-new _
      ∙ three-path refl
      (ap (λ (x : Accessed). x.file) (register-guest nh nf new_there b kind select (get_or s place 0))) refl

  -- every other file is as it was
  pub acted-others : (a : Act) (k : ℕ) → k ≢ old → k ≢ new
      → the_file (left a).board.files k ≡ the_file b.files k
  unfolding acted
  acted-others (Save select place) k o n = refl
  acted-others (Zero new? select) k o n = at new?
    where
      at : (c : Bool) → the_file (left (Zero c select)).board.files k ≡ the_file b.files k
      at true = unfold acted in the_file-with_file-other b.files new _ k n
      at false = unfold acted in the_file-with_file-other b.files old _ k o
  acted-others (Target i) k o n = refl
  acted-others (Put kind select place) k o n = the_file-with_file-other b.files new _ k n

  -- an access that is not of step 3 leaves the wired controller
  pub acted-wired : (a : Act) → is_target a ≡ false → (left a).board.wired ≡ b.wired
  unfolding acted is_target
  acted-wired (Save select place) e = refl
  acted-wired (Zero new? select) e = refl
  acted-wired (Target i) e = absurd (true≢false e)
  acted-wired (Put kind select place) e = refl

  pub acted-target : (i : ℕ) → (left (Target i)).board.wired ≡ retargeted_in oh of nh nf b.wired i
  unfolding acted
  acted-target i = refl
