-- What each accepted call does, in the words of the parts: a call on the wired controller is its call and the
-- messages at their files; one on a file or on nothing sends nothing. No contract cites this file. Assumes
-- nothing.
use Prim.Native.Nat.{ℕ}
use mathlib.Core.Path.{◌≡◌, refl, ap, ◌∙◌}
use mathlib.Core.Bool.{true}
use mathlib.Core.List.{List, [], ◌∷◌}
use lib.Dec.{eqb}
use Rattle.words.proofs.TestsLaws.{and_first, and_second}
use Rattle.file.specs.declared.File.{File}
use Rattle.files.specs.Files.{files_sound, reached, all_reached}
use Rattle.domain_region.specs.Region.{word_at}
use Rattle.wired_registers.specs.Wired.{read_in}
use Rattle.wired_rules.specs.Rules.{wired_sound}
use Rattle.wired_rules_laws.specs.Steady.{WiredQuiet}
use Rattle.wired_rules_laws.proofs.SoundParts.{wired-sound-quiet}
use Rattle.wired.specs.Controller.{Out, wire_call, read_call, write_call}
use Rattle.wired.proofs.CallLaws.{flushed-quiet}
use Rattle.board_block.specs.Block.{Board, with_wired, board_sound}
use Rattle.board_block.specs.Start.{start_board}
use Rattle.board_block_laws.proofs.StartEffects.{start-sound}
use Rattle.board_call.specs.declared.Call.TheVariants as call
use Rattle.board_call.specs.Change.{Changed, on_file, answering, change}
use Rattle.board_call.specs.Outcome.{Stepped, delivered, then_sent, step}

-- ---- the two parts of a sound board

module _ (b : Board) (sound : board_sound b ≡ true) where
  pub sound-files : files_sound b.files ≡ true
  unfolding board_sound
  sound-files = and_first (files_sound b.files) (wired_sound b.wired) sound

  pub sound-wired : wired_sound b.wired ≡ true
  unfolding board_sound
  sound-wired = and_second (files_sound b.files) (wired_sound b.wired) sound

  pub sound-quiet : WiredQuiet b.wired
  sound-quiet = wired-sound-quiet b.wired sound-wired

-- ---- a call on the wired controller

-- what it does to the board, if it does o to the wired controller and answers v
abbrev pub wired_step : Board → Out → ℕ → List ℕ → Stepped
wired_step b o v s =
    record {
      board = delivered (with_wired b o.wired) o.messages;
      value = v;
      messages = o.messages;
      saved = s;
    }

module _ (b : Board) where
  pub step-wire : (i level : ℕ) (s : List ℕ)
      → step (call.Wire i level) b s ≡ wired_step b (wire_call b.wired i (eqb level 1)) 0 s
  unfolding step then_sent change wire_call
  step-wire i level s = refl

  pub step-domain_read : (d a : ℕ) (s : List ℕ)
      → step (call.DomainRead d a) b s
      ≡ wired_step b (read_call b.wired (eqb d 1) (word_at a)) (read_in b.wired (eqb d 1) (word_at a)) s
  unfolding step then_sent change read_call
  step-domain_read d a s = refl

  pub step-domain_write : (d a v : ℕ) (s : List ℕ)
      → step (call.DomainWrite d a v) b s ≡ wired_step b (write_call b.wired (eqb d 1) (word_at a) v) 0 s
  unfolding step then_sent change write_call
  step-domain_write d a v s = refl

-- where the messages of a wire go: no file, or the one that its message names
module _ (b : Board) (i level : ℕ) (s : List ℕ) where
  abbrev out : Out
  out = wire_call b.wired i (eqb level 1)

  pub wire-sends : (step (call.Wire i level) b s).messages ≡ out.messages
  wire-sends = ap (λ (x : Stepped). x.messages) (step-wire b i level s)

  wire-reaches : (step (call.Wire i level) b s).board.files ≡ all_reached b.files out.messages
  wire-reaches = ap (λ (x : Stepped). x.board.files) (step-wire b i level s)

  pub wire-reaches-none : out.messages ≡ [] → (step (call.Wire i level) b s).board.files ≡ b.files
  unfolding all_reached
  wire-reaches-none e = wire-reaches ∙ ap (all_reached b.files) e

  pub wire-reaches-one : (m : ℕ) → out.messages ≡ m ∷ []
      → (step (call.Wire i level) b s).board.files ≡ reached b.files m
  unfolding all_reached
  wire-reaches-one m e = wire-reaches ∙ ap (all_reached b.files) e

-- ---- a call that leaves the wired controller as it was

-- a change with nothing to send
pub settled-quiet : (x : Changed) → WiredQuiet x.board.wired → x.own ≡ []
    → then_sent x ≡ record { board = x.board; value = x.value; messages = []; saved = x.saved }
unfolding then_sent all_reached
settled-quiet x q none = rw (flushed-quiet x.board.wired q, none)

module _ (b : Board) (sound : board_sound b ≡ true) where
  -- one file k becomes f
  pub step-on_file : (k : ℕ) (f : File) (v : ℕ) (s : List ℕ)
      → then_sent (on_file b k f v s)
      ≡ record { board = (on_file b k f v s).board; value = v; messages = []; saved = s }
  step-on_file k f v s = settled-quiet (on_file b k f v s) (sound-quiet b sound) refl

  pub step-answering : (v : ℕ) (s : List ℕ)
      → then_sent (answering b v s) ≡ record { board = b; value = v; messages = []; saved = s }
  step-answering v s = settled-quiet (answering b v s) (sound-quiet b sound) refl

pub step-reset : (b : Board) (s : List ℕ)
    → step call.Reset b s ≡ record { board = start_board; value = 0; messages = []; saved = s }
unfolding step change
step-reset b s = step-answering start_board start-sound 0 s
