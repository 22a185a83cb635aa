-- The calls of the rest of the shift, each with a log and saved numbers of its own: they do what they do
-- where one log is handed on. No contract cites this file. Assumes nothing.
use mathlib.Core.Path.{refl}
use mathlib.Core.List.{List, [], ◌∷◌}
use Rattle.board_call.specs.Calls.{row_of}
use Rattle.board_runs.specs.Runs.{Lent}
use Rattle.board_runs.specs.Runs.{Made}
use Rattle.board_runs.specs.Handed.{is_access, Makes}
use Rattle.board_runs.specs.Ready.{AllSmall}
use Rattle.board_runs.proofs.MadeEffects.{Follows, follows, NoAccess, handed-none}
use Rattle.move_laws.specs.Shift.{Stations}
use Rattle.move_laws.specs.Premises.{TwoGuests}
use Rattle.move_laws.specs.After.{Later, then_here, then_there, LaterKept}
use Rattle.move_laws.proofs.OnFileEffects.{small-on}
use Rattle.move_laws.proofs.OnFileEffects.{no_access}
use Rattle.move_laws.proofs.LaterEffects.{Goes}

module _ (m : Stations) (g : TwoGuests m) where
  small-here : (es : List Later) → LaterKept m es → AllSmall (then_here m es)
  unfolding then_here LaterKept row_of
  small-here [] k = tt
  small-here (Later.wire i level ∷ es) k = (tt, small-here es k)
  small-here (Later.page h f a v ∷ es) k = (tt, small-here es k.1)
  small-here (Later.own c ∷ es) k = (small-on m.new_hart m.new_file c k.0, small-here es k.1)
  small-here (Later.other h f c ∷ es) k = (small-on h f c k.1, small-here es k.2)

  small-there : (es : List Later) → LaterKept m es → AllSmall (then_there m es)
  unfolding then_there LaterKept row_of
  small-there [] k = tt
  small-there (Later.wire i level ∷ es) k = (tt, small-there es k)
  small-there (Later.page h f a v ∷ es) k = (tt, small-there es k.1)
  small-there (Later.own c ∷ es) k = (small-on m.old_hart m.old_file c k.0, small-there es k.1)
  small-there (Later.other h f c ∷ es) k = (small-on h f c k.1, small-there es k.2)

  none_here : (es : List Later) → NoAccess (then_here m es)
  unfolding then_here NoAccess is_access row_of
  none_here [] = tt
  none_here (Later.wire i level ∷ es) = (refl, none_here es)
  none_here (Later.page h f a v ∷ es) = (refl, none_here es)
  none_here (Later.own c ∷ es) = (no_access m.new_hart m.new_file c, none_here es)
  none_here (Later.other h f c ∷ es) = (no_access h f c, none_here es)

  none-there : (es : List Later) → NoAccess (then_there m es)
  unfolding then_there NoAccess is_access row_of
  none-there [] = tt
  none-there (Later.wire i level ∷ es) = (refl, none-there es)
  none-there (Later.page h f a v ∷ es) = (refl, none-there es)
  none-there (Later.own c ∷ es) = (no_access m.old_hart m.old_file c, none-there es)
  none-there (Later.other h f c ∷ es) = (no_access h f c, none-there es)

  pub follows-later : (es : List Later) → LaterKept m es → (us vs : List Made) (x y : Lent) → Goes m g x y
      → Makes (then_here m es) us → Makes (then_there m es) vs
      → Follows (then_here m es) us x × Follows (then_there m es) vs y
  follows-later es k us vs x y r here there = (
    follows (then_here m es) us x r.ready (small-here es k) here
        (handed-none (then_here m es) us x.saved x.block here (none_here es)),
    follows (then_there m es) vs y r.ready' (small-there es k) there
        (handed-none (then_there m es) vs y.saved y.block there (none-there es)),
  )
