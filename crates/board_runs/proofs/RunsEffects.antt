-- Calls one after the other: a refused call leaves all as it was, an accepted one leaves what `step` says,
-- and what is ready for a call is ready for the next. No contract cites this file. Assumes nothing.
use Prim.Native.Nat.{ℕ, ◌≤◌}
use mathlib.Core.Path.{◌≡◌, refl, sym, ap, subst, ◌∙◌}
use mathlib.Core.List.{List, [], ◌∷◌, ◌++◌}
use mathlib.Core.Logic.{◌≢◌}
use native.Mathlib.Decide.{ℕ_discrete}
use native.Mathlib.Omega.{arith}
use lib.ListN.{length, length-append, length-drop}
use Rattle.domain_sending.specs.Sending.{logged}
use Rattle.board_block.specs.Block.{block_of}
use Rattle.board_block_laws.proofs.BlockBack.{board-back, length-block_of}
use Rattle.board_call.specs.declared.Call.{Call}
use Rattle.board_call.specs.Outcome.{Stepped, step}
use Rattle.board_call.specs.Calls.{tests_rules, row_of}
use Rattle.board_call.specs.Refusal.{name_refusal, refusal_of}
use Rattle.board_call.proofs.RefusalLaws.{refused-numbers, accepted-present, blocks-sound}
use Rattle.board_call_laws.specs.Fit.{Fit, Kept}
use Rattle.board_call_laws.specs.Small.{Small}
use Rattle.board_call_laws.proofs.OutcomeEffects.{outcome-refused, outcome-done}
use Rattle.board_runs.specs.Runs.{Lent, after, ran}
use Rattle.board_runs.specs.Ready.{board_in, Ready, AllSmall}
use Rattle.board_runs.proofs.KeptEffects.{kept_step}

-- ---- the calls of a run in two parts

pub ran_append : (cs ds : List Call) (x : Lent) → ran (cs ++ ds) x ≡ ran ds (ran cs x)
unfolding ran
ran_append [] ds x = refl
ran_append (c ∷ cs) ds x = ran_append cs ds (after c x)

-- ---- one call

-- a log keeps its length where it has room
length-logged : (g ms : List ℕ) → length ms ≤ length g → length (logged g ms) ≡ length g
unfolding logged
length-logged g ms h = simp (length-append, length-drop) (omega arith)

module _ (c : Call) (x : Lent) where
  pub after-refused : refusal_of c x.block x.log ≢ 0 → after c x ≡ x
  unfolding after
  after-refused h = rw (outcome-refused c x.block x.log x.saved _ refl h)

  module _ (ready : Ready x) where
    -- on what is ready only the numbers of the call can be refused
    pub ready-refusal : refusal_of c x.block x.log ≡ name_refusal c (board_in x)
    ready-refusal =
        refused-numbers (row_of c).tests x.block x.log
        (blocks-sound (tests_rules c) x.block x.log ready.long ready.full ready.fit.sound)

    abbrev stepped : Stepped
    stepped = step c (board_in x) x.saved

    module _ (e : name_refusal c (board_in x) ≡ 0) where
      abbrev left : Lent
      left =
          record {
            block = block_of stepped.board;
            log = logged x.log stepped.messages;
            saved = stepped.saved;
          }

      pub after-done : after c x ≡ left
      unfolding after
      after-done = rw (outcome-done c x.block x.log x.saved (ready-refusal ∙ e))

      module _ (small : Small c) where
        kept : Kept stepped
        kept =
            kept_step (board_in x) ready.fit x.saved ready.saved c
            (accepted-present (row_of c).tests (board_in x) e)
            small

        -- the board that the next call is made on
        pub after-board : board_in (after c x) ≡ stepped.board
        after-board = ap board_in after-done ∙ board-back stepped.board kept.fit.shaped

        pub after-saved : (after c x).saved ≡ stepped.saved
        after-saved = ap (λ (y : Lent). y.saved) after-done

        ready-done : Ready (after c x)
        ready-done =
            subst Ready (sym after-done)
            record {
              long = length-block_of stepped.board kept.fit.shaped;
              full = length-logged x.log stepped.messages (omega (arith, ready.full, kept.few))
                  ∙ ready.full;
              fit = subst Fit (sym (board-back stepped.board kept.fit.shaped)) kept.fit;
              saved = kept.saved;
            }

    -- what is ready stays so, whether the call is refused or not
    pub ready-after : Small c → Ready (after c x)
    ready-after small = at (ℕ_discrete (name_refusal c (board_in x)) 0)
      where
        at : Dec (name_refusal c (board_in x) ≡ 0) → Ready (after c x)
        at (yes e) = ready-done e small
        at (no n) = subst Ready (sym (after-refused (λ q. n (sym ready-refusal ∙ q)))) ready

-- ---- every call of a run

pub ready-ran : (cs : List Call) (x : Lent) → Ready x → AllSmall cs → Ready (ran cs x)
unfolding ran
ready-ran [] x ready small = ready
ready-ran (c ∷ cs) x ready small =
    ready-ran cs (after c x) (ready-after c x ready small.0) small.1
