-- A board stays fit for the next call if one of its files is replaced by one that keeps the rules, or if its
-- wired controller does what keeps them and the messages reach their files. No contract cites this file.
-- Assumes nothing.
use Prim.Native.Nat.{ℕ, ◌+◌, ◌^◌, ◌<◌}
use mathlib.Core.Path.{◌≡◌, refl, ap, subst, ◌∙◌}
use native.Mathlib.Decide.{dec_lt}
use native.Mathlib.Omega.{arith}
use mathlib.Core.Bool.{Bool, true, false}
use mathlib.Core.List.{List, []}
use lib.ListN.{length, get_or, replicate, take, get_or-replicate, get_or-eq_default}
use Rattle.words.specs.Sets.{WordsFit}
use Rattle.words.proofs.TestsLaws.{tested, and_both}
use Rattle.sizes.specs.Sizes.{identities, block_size, files_size, file_count}
use Rattle.file.specs.declared.File.{File}
use Rattle.file.specs.Shape.{Shaped}
use Rattle.file_laws.proofs.Keeps.{Rules, rules-of, sound-of}
use Rattle.file_laws.proofs.Stored.{part-fit, shaped-long}
use Rattle.files.specs.Files.{is_guest, the_file, with_file, files_sound, all_reached}
use Rattle.files.proofs.FilesLaws.{length-with_file}
use Rattle.files_laws.proofs.Keeps.{with_file-keeps, with_file-sound, files_sound-1, files_of-shaped}
use Rattle.files_laws.proofs.Keeps.{all_reached-shaped, all_reached-sound}
use Rattle.files_laws.proofs.ReachedEffects.{length-all_reached}
use Rattle.domain.specs.Domain.{Domain}
use Rattle.domain_laws.specs.Shape as domain
use Rattle.domain_sending.specs.Sending.{sent}
use Rattle.domain_sending_laws.proofs.SendingEffects.{sent-rest, sent-long}
use Rattle.wired_state.specs.Wires.{Wired}
use Rattle.wired_rules.specs.Rules.{wired_sound}
use Rattle.wired_rules_laws.specs.Steady.{WiredSteady}
use Rattle.wired_rules_laws.proofs.SoundParts.{wired-sound-steady}
use Rattle.wired.specs.Controller.{flushed}
use Rattle.board_block.specs.Block.{Board, with_files, with_wired, board_of, board_sound}
use Rattle.board_block.proofs.BlockLaws.{files-part, files-long}
use Rattle.board_block_laws.specs.Shape.{BoardShaped}
use Rattle.board_block_laws.proofs.BlockBack.{board_of-shaped}
use Rattle.board_block_laws.proofs.StartEffects.{start-sound, start-shaped}
use Rattle.board_block.specs.Start.{start_file, start_board}
use Rattle.board_block.proofs.StartLaws.{the_file-start_files_from}
use Rattle.board_call.specs.Outcome.{delivered}
use Rattle.board_call_laws.specs.Fit.{Fit}
use Rattle.board_call_laws.proofs.StepEffects.{sound-files, sound-wired}

-- the board of a block of words of 32 bits that keeps the rules
pub fit-block : (l : List ℕ) → length l ≡ block_size → WordsFit l → board_sound (board_of l) ≡ true
    → Fit (board_of l)
fit-block l long fit sound =
    record {
      shaped = board_of-shaped l long;
      files = λ k h. subst (λ (fs : List File). Shaped (the_file fs k)) (files-part l long)
          (files_of-shaped (take files_size l) (files-long l long) k h (part-fit l 0 files_size fit));
      sound = sound;
    }

-- the lengths and the rules are enough for the wired controller
pub shaped-steady : (b : Board) → BoardShaped b → board_sound b ≡ true → WiredSteady b.wired
shaped-steady b shaped sound =
    wired-sound-steady b.wired (sound-wired b sound) shaped.wires shaped.machine shaped.child

module _ (b : Board) (fit : Fit b) where
  pub fit-steady : WiredSteady b.wired
  fit-steady = shaped-steady b fit.shaped fit.sound

  pub fit-rules : (k : ℕ) → k < file_count → Rules identities (is_guest k) (the_file b.files k)
  fit-rules k h =
      rules-of identities (is_guest k) (the_file b.files k)
      (files_sound-1 b.files (sound-files b fit.sound) k h)

  -- ---- one file replaced

  pub fit-with_file : (k : ℕ) (f : File) → Shaped f → Rules identities (is_guest k) f
      → Fit (with_files b (with_file b.files k f))
  unfolding board_sound
  fit-with_file k f s r =
      let all : (j : ℕ) → j < file_count → Shaped (the_file (with_file b.files k f) j) = λ j h.
      with_file-keeps Shaped b.files k f j (λ e. s) (fit.files j h) in
      record {
        shaped =
            record {
              many = length-with_file b.files k f ∙ fit.shaped.many;
              long = λ j h. shaped-long _ (all j h);
              wires = fit.shaped.wires;
              machine = fit.shaped.machine;
              child = fit.shaped.child;
            };
        files = all;
        sound =
            and_both (files_sound (with_file b.files k f)) (wired_sound b.wired)
            (with_file-sound b.files k f (sound-of identities (is_guest k) f r)
            (sound-files b fit.sound))
            (sound-wired b fit.sound);
      }

  -- ---- what the wired controller did, with its messages

  pub fit-wired : (w : Wired) (ms : List ℕ) → wired_sound w ≡ true → length w.wires ≡ 2
      → domain.DomainShaped w.machine → domain.DomainShaped w.child
      → Fit (delivered (with_wired b w) ms)
  unfolding board_sound
  fit-wired w ms sound wires machine child =
      let all : (j : ℕ) → j < file_count → Shaped (the_file (all_reached b.files ms) j) = λ j h.
      all_reached-shaped ms b.files j (fit.files j h) in
      record {
        shaped =
            record {
              many = length-all_reached ms b.files ∙ fit.shaped.many;
              long = λ j h. shaped-long _ (all j h);
              wires = wires;
              machine = machine;
              child = child;
            };
        files = all;
        sound =
            and_both (files_sound (all_reached b.files ms)) (wired_sound w)
            (all_reached-sound ms b.files (sound-files b fit.sound)) sound;
      }

  -- a change of the wired controller that sends nothing
  pub fit-rewired : (w : Wired) → WiredSteady w → wired_sound w ≡ true
      → Fit (with_wired b w)
  unfolding all_reached
  fit-rewired w s sound = fit-wired w [] sound s.long s.machine.shaped s.child.shaped

-- a pass of messages leaves the lengths
sent-shaped : (c : Bool) (d : Domain) → domain.DomainShaped d → domain.DomainShaped (sent c d).domain
sent-shaped c d s =
    let rest = sent-rest c d in
    record {
      sources = ap length rest.source ∙ s.sources;
      targets = ap length rest.target ∙ s.targets;
      pendings = sent-long c d ∙ s.pendings;
      enables = ap length rest.enable ∙ s.enables;
      deliveries = ap length rest.delivery ∙ s.deliveries;
    }

-- what is flushed, where all rules but the one on sending hold before
pub fit-flushed : (b : Board) → Fit b → (w : Wired) → WiredSteady w → (ms : List ℕ)
    → wired_sound (flushed w).wired ≡ true
    → Fit (delivered (with_wired b (flushed w).wired) ms)
unfolding flushed
fit-flushed b fit w s ms sound =
    fit-wired b fit _ ms sound s.long (sent-shaped false w.machine s.machine.shaped)
    (sent-shaped true w.child s.child.shaped)

-- ---- the start

-- the words of its files are small
start-fit : (k : ℕ) → k < file_count → Shaped (the_file start_board.files k)
unfolding start_board
start-fit k h = rw (the_file-start_files_from 0 file_count k h) (start-file (0 + k))
  where
    zeros : WordsFit (replicate 8 0)
    zeros = unfold WordsFit in λ k. at k (dec_lt k 8)
      where
        at : (k : ℕ) → Dec (k < 8) → get_or (replicate 8 0) k 0 < 2 ^ 32
        at k (yes l) = rw (get_or-replicate {A = ℕ} 8 k 0 0 l) (omega arith)
        at k (no l) = rw (get_or-eq_default {A = ℕ} (replicate 8 0) 0 {n = k} (omega arith)) (omega arith)

    start-file : (k : ℕ) → Shaped (start_file k)
    start-file k =
        unfold start_file in
        record {
          delivery_fit = tested (is_guest k) (λ t. rw t (omega arith)) (λ f. rw f (omega arith));
          threshold_fit = omega arith;
          pending_long = refl;
          pending_fit = zeros;
          enable_long = refl;
          enable_fit = zeros;
        }

pub fit-start : Fit start_board
fit-start = record { shaped = start-shaped; files = start-fit; sound = start-sound }
