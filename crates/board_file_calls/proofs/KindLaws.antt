-- The kind that was looked for is the one that the call gives. Assumes nothing.
use Prim.Native.Nat.{ℕ}
use mathlib.Core.Path.{◌≡◌}
use mathlib.Core.Bool.{cond}
use lib.Dec.{ltb}
use Rattle.std.proofs.Common.{Result, Ok, Err}
use Rattle.file.specs.declared.register.Access.{Access}
use Rattle.board_call.specs.declared.Refusal.{Refusal}
use Rattle.board_call.specs.declared.Refusal.TheVariants.{NoSuch}
use Rattle.board_call.specs.Change.{kind_of}

pub kind-given : (kind k : ℕ) (r : Result Access Refusal) → r ≡ cond (ltb k 4) (Ok (kind_of k)) (Err NoSuch)
    → k ≡ kind → r ≡ cond (ltb kind 4) (Ok (kind_of kind)) (Err NoSuch)
kind-given kind k r known same = rw same at known
