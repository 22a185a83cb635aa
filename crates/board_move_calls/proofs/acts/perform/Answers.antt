-- `board_move_calls::acts::perform` meets its contract: case by case it is the act of that case. Assumes
-- nothing.
use native.Mathlib.Omega.{arith}
use Rattle.board_move_laws.proofs.MoveCallEffects.{save-within, put-within, target-low, target-high}
use Rattle.board_move_laws.proofs.MoveCallEffects.{made-save, made-zero-new, made-zero-old, made-target}
use Rattle.board_move_laws.proofs.MoveCallEffects.{made-put}
use Rattle.board_move_calls.proofs.acts.perform.Goals as goal

pub save-requires : goal.save-requires
save-requires c =
    save-within _ c.requires.1 _ _ c.in-Save.is

pub returns-then-new : goal.returns-then-new
returns-then-new c =
    made-zero-new _ _ _ _ _ _ _ _ _ _ c.in-Zero.is c.if-new.true
    c.put.ensures

pub retarget-requires : goal.retarget-requires
retarget-requires c =
    let within = c.requires.1 in
    let told = c.in-Target.is in (
      c.requires.0,
      target-low _ within _ told,
      target-high _ within _ told,
    )

pub offset_bounds-saved-place : goal.offset_bounds-saved-place
offset_bounds-saved-place c =
    omega (arith, put-within _ c.requires.1 _ _ _ c.in-Put.is)

pub bounds-saved-place : goal.bounds-saved-place
bounds-saved-place c =
    put-within _ c.requires.1 _ _ _ c.in-Put.is

pub returns-in-Save : goal.returns-in-Save
returns-in-Save c =
    made-save _ _ _ _ _ _ _ _ _ c.in-Save.is _ c.save.ensures

pub returns-else-new : goal.returns-else-new
returns-else-new c =
    made-zero-old _ _ _ _ _ _ _ _ _ _ c.in-Zero.is c.if-new.false
    c.put-in-Zero.ensures

pub returns-in-Target : goal.returns-in-Target
returns-in-Target c =
    made-target _ _ _ _ _ _ _ _ _ c.in-Target.is c.retarget.ensures

pub returns-in-Put : goal.returns-in-Put
returns-in-Put c =
    made-put _ _ _ _ _ _ _ _ _ _ _ c.in-Put.is c.put-in-Put.ensures
