-- A reset, and what is lent first to a run from reset. No contract cites this file. Assumes nothing.
use Prim.Native.Nat.{ℕ, ◌^◌, ◌<◌}
use mathlib.Core.Path.{◌≡◌, refl, sym, ap, subst, ◌∙◌}
use mathlib.Core.List.{List}
use native.Mathlib.Decide.{dec_lt}
use native.Mathlib.Omega.{arith}
use lib.ListN.{length, get_or, replicate, get_or-replicate, get_or-eq_default}
use Rattle.sizes.specs.Sizes.{block_size, log_size, saved_size}
use Rattle.domain_sending.proofs.SendingLaws.{logged_none}
use Rattle.board_block.specs.Block.{block_of, board_of}
use Rattle.board_block.specs.Start.{start_board}
use Rattle.board_block_laws.proofs.BlockBack.{board-back, length-block_of}
use Rattle.board_block_laws.proofs.StartEffects.{start-shaped}
use Rattle.board_call.specs.declared.Call.TheVariants.{Reset}
use Rattle.board_call.specs.Calls.{tests_rules, row_of}
use Rattle.board_call.specs.Refusal.{refusal_of}
use Rattle.board_call.specs.Outcome.{Outcome, outcome}
use Rattle.board_call.proofs.RefusalLaws.{refused-numbers, numbers-name, blocks-untested}
use Rattle.board_call_laws.specs.Fit.{Fit}
use Rattle.board_call_laws.proofs.FitEffects.{fit-start}
use Rattle.board_call_laws.proofs.OutcomeEffects.{outcome-done}
use Rattle.board_call_laws.proofs.StepEffects.{step-reset}
use Rattle.board_runs.specs.Runs.{Lent, after}
use Rattle.board_runs.specs.Ready.{Ready, at_reset}

-- what a reset answers and leaves
module _ (l g s : List ℕ) (long : length l ≡ block_size) (full : length g ≡ log_size) where
  reset-done : refusal_of Reset l g ≡ 0
  unfolding row_of
  reset-done =
      refused-numbers (row_of Reset).tests l g (blocks-untested (tests_rules Reset) l g long full refl)
      ∙ numbers-name (row_of Reset).tests (board_of l) refl refl refl

  abbrev left : Outcome
  left = record { number = 0; value = 0; count = 0; block = block_of start_board; log = g; saved = s }

  pub reset-left : outcome Reset l g s ≡ left
  reset-left = outcome-done Reset l g s reset-done ∙ rw (step-reset (board_of l) s, logged_none g)

-- a reset of any block, with a log and saved numbers of zeros
pub after-reset : (x : Lent) → length x.block ≡ block_size → x.log ≡ replicate log_size 0 →
    x.saved ≡ replicate saved_size 0 → after Reset x ≡ at_reset
unfolding after
after-reset x long g s = rw (reset-left x.block x.log x.saved long (ap length g), g, s)

pub ready-reset : Ready at_reset
ready-reset =
    record {
      long = length-block_of start_board start-shaped;
      full = refl;
      fit = subst Fit (sym (board-back start_board start-shaped)) fit-start;
      saved = λ k. at k (dec_lt k saved_size);
    }
  where
    at : (k : ℕ) → Dec (k < saved_size) → get_or {A = ℕ} (replicate saved_size 0) k 0 < 2 ^ 64
    at k (yes l) = rw (get_or-replicate {A = ℕ} saved_size k 0 0 l) (omega arith)
    at k (no l) = rw (get_or-eq_default {A = ℕ} (replicate saved_size 0) 0 {n = k} (omega arith))
        (omega arith)
