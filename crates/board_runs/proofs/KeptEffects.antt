-- Every accepted call on a board that is fit leaves one that is, and sends 63 messages at most: so the next
-- call can be made on what it leaves. No contract cites this file. Assumes nothing.
use Prim.Native.Nat.{ℕ}
use mathlib.Core.Path.{◌≡◌}
use mathlib.Core.Bool.{true}
use mathlib.Core.List.{List}
use lib.Dec.{ltb}
use Rattle.words.proofs.TestsLaws.{and_first}
use Rattle.domain.specs.Domain.{by_messages}
use Rattle.board_block.specs.Block.{Board}
use Rattle.board_call.specs.declared.Call.{Call}
use Rattle.board_call.specs.declared.Call.TheVariants as call
use Rattle.board_call.specs.Change.{change}
use Rattle.board_call.specs.Numbers.{is_file, is_move}
use Rattle.board_call.specs.Calls.{present, row_of}
use Rattle.board_call.specs.Outcome.{step}
use Rattle.board_call_laws.specs.Small.{Small}
use Rattle.board_call_laws.specs.Fit.{Fit, SavedFit, Kept}
use Rattle.board_call_laws.proofs.KeepsEffects.{kept-reset, kept-answering, kept-page_write, kept_register}
use Rattle.board_call_laws.proofs.KeepsEffects.{kept-claim, kept-wire, kept-domain_read, kept-domain_write}
use Rattle.board_move_laws.proofs.MoveEffects.{kept_move}

module _ (b : Board) (fit : Fit b) (s : List ℕ) (small : SavedFit s) where
  pub kept_step : (c : Call) → present c b ≡ true → Small c → Kept (step c b s)
  unfolding row_of step change
  kept_step call.Reset n t = kept-reset b fit s small
  kept_step (call.Wire i level) n t = kept-wire b fit s small i level n
  kept_step (call.DomainRead d a) n t = kept-domain_read b fit s small d a
  kept_step (call.DomainWrite d a v) n t = kept-domain_write b fit s small d a v
  kept_step (call.PageRead h f a) n t = kept-answering b fit s small _
  kept_step (call.PageWrite h f a v) n t = kept-page_write b fit s small h f n a v
  kept_step (call.Register h f kind x v) n t =
      kept_register b fit s small h f (and_first (is_file h f) (ltb kind 4) n) kind x v t
  kept_step (call.Top h f) n t = kept-answering b fit s small _
  kept_step (call.Claim h f) n t = kept-claim b fit s small h f n
  kept_step (call.Signals h) n t = kept-answering b fit s small _
  kept_step (call.Move oh of nh nf k) n t =
      kept_move b fit s small oh of nh nf k
      (and_first (is_move oh of nh nf k) (by_messages b.wired.child) n)
