-- A shift as it is made, each call with a log of its own and each access with the saved numbers that the last
-- one gave: it leaves and answers what the shift does that hands one log on. No contract cites this file.
-- Assumes nothing.
use Prim.Native.Nat.{ℕ, suc}
use mathlib.Core.Path.{◌≡◌, refl, sym, ◌∙◌}
use mathlib.Core.List.{List, [], ◌∷◌}
use lib.ListN.{replicate}
use Rattle.board_move_steps.specs.Steps.{accesses}
use Rattle.board_call.specs.Calls.{row_of}
use Rattle.board_call_laws.specs.Small.{Small}
use Rattle.board_runs.specs.Runs.{Made, said_where, Lent}
use Rattle.board_runs.specs.Handed.{is_access, HandedOn, Makes}
use Rattle.board_runs.specs.Ready.{Ready, AllSmall}
use Rattle.board_runs.proofs.MadeEffects.{Follows, follows, NoAccess, handed-none}
use Rattle.move_laws.specs.Shift.{Stations, Event, elsewhere, with_move, without_move}
use Rattle.move_laws.specs.Premises.{Started, CallsKept, Premises}
use Rattle.move_laws.proofs.OthersEffects.{kept-no-access}
use Rattle.move_laws.proofs.ShiftEffects.{nothing, lent_from, started-ready, move-done, move-others}

-- ---- the calls of a shift

-- the calls besides have values of 64 bits
unfoldable pub EventsSmall : List Event → Type 0
EventsSmall [] = Unit {0}
EventsSmall (Event.wire i level ∷ es) = EventsSmall es
EventsSmall (Event.page h f a v ∷ es) = EventsSmall es
EventsSmall (Event.access ∷ es) = EventsSmall es
EventsSmall (Event.call c ∷ es) = Small c × EventsSmall es

module _ (m : Stations) where
  kept_small : (es : List Event) → CallsKept m es → EventsSmall es
  unfolding EventsSmall CallsKept
  kept_small [] q = tt
  kept_small (Event.wire i level ∷ es) q = kept_small es q
  kept_small (Event.page h f a v ∷ es) q = kept_small es q
  kept_small (Event.access ∷ es) q = kept_small es q
  kept_small (Event.call c ∷ es) q = (q.1, kept_small es q.2)

  pub small-with : (es : List Event) (n : ℕ) → EventsSmall es → AllSmall (with_move m n es)
  unfolding with_move EventsSmall row_of
  small-with [] n q = tt
  small-with (Event.wire i level ∷ es) n q = (tt, small-with es n q)
  small-with (Event.page h f a v ∷ es) n q = (tt, small-with es n q)
  small-with (Event.access ∷ es) n q = (tt, small-with es (suc n) q)
  small-with (Event.call c ∷ es) n q = (q.0, small-with es n q.1)

  pub small-without : (es : List Event) → EventsSmall es → AllSmall (without_move m es)
  unfolding without_move EventsSmall row_of
  small-without [] q = tt
  small-without (Event.wire i level ∷ es) q = (tt, small-without es q)
  small-without (Event.page h f a v ∷ es) q = (tt, small-without es q)
  small-without (Event.access ∷ es) q = small-without es q
  small-without (Event.call c ∷ es) q = (q.0, small-without es q.1)

  none-without : (es : List Event) → CallsKept m es → NoAccess (without_move m es)
  unfolding without_move CallsKept NoAccess is_access row_of
  none-without [] q = tt
  none-without (Event.wire i level ∷ es) q = (refl, none-without es q)
  none-without (Event.page h f a v ∷ es) q = (refl, none-without es q)
  none-without (Event.access ∷ es) q = none-without es q
  none-without (Event.call c ∷ es) q = (kept-no-access m c q.0, none-without es q.2)

-- ---- the shift, with the move and without it

module _ (m : Stations) (l s : List ℕ) (es : List Event) (started : Started l s) (calls : CallsKept m es)
  where
    abbrev start : Lent
    start = lent_from l s

    ready : Ready start
    ready = started-ready l s started

    pub follows-here : (ms : List Made) → Makes (with_move m 0 es) ms → HandedOn s ms l
        → Follows (with_move m 0 es) ms start
    follows-here ms with handed =
        follows (with_move m 0 es) ms start ready (small-with m es 0 (kept_small m es calls)) with handed

    pub follows-there : (ns : List Made) → Makes (without_move m es) ns → Follows (without_move m es) ns start
    follows-there ns without =
        follows (without_move m es) ns start ready (small-without m es (kept_small m es calls)) without
        (handed-none (without_move m es) ns s l without (none-without m es calls))

module _ (m : Stations) (l s : List ℕ) (es : List Event) (ms ns : List Made) (p : Premises m l s es)
    (with : Makes (with_move m 0 es) ms) (without : Makes (without_move m es) ns) (handed : HandedOn s ms l)
  where
    here : Follows (with_move m 0 es) ms (lent_from l s)
    here = follows-here m l s es p.started p.calls ms with handed

    pub accesses-said : said_where is_access ms l ≡ replicate accesses nothing
    accesses-said = here.said is_access ∙ move-done m l s es p

    pub others-said : said_where (elsewhere m) ms l ≡ said_where (elsewhere m) ns l
    others-said =
        here.said (elsewhere m) ∙ move-others m l s es p
        ∙ sym ((follows-there m l s es p.started p.calls ns without).said (elsewhere m))
