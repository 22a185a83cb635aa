-- Claims 112, 186 and 191: each premise of a move is needed, and so is what has to be held back; they are the
-- premises that the claims on the move have, and the shift of Claim-111 meets them. 01, "The move, with its
-- premises".
--   TooWeak P    some stations, a start and a shift meet P, and the shift with the move does not end as
--                without it; Letting d, so it is of a shift in which the call d is made, and all else is as
--                it should be: Claim-188 has both in plain words
-- Premises: none. No axioms.
use Rattle.std.specs.Prelude.{ℕ, ◌≡◌, List, ◌↔◌}
use Rattle.board_call.specs.declared.Call.TheVariants.{Reset, DomainWrite, Register, Claim, Move}
use Rattle.board_runs.specs.Runs.{Made, handing}
use Rattle.board_runs.specs.Handed.{HandedOn, Makes}
use Rattle.move_laws.specs.Shift.{Stations, Event, with_move, without_move}
use Rattle.move_laws.specs.Premises.{Started, TwoGuests, ByMessages, NoneNamesNew, accesses_in}
use Rattle.move_laws.specs.Premises.{AllAccesses, PagesKept, CallsKept, Premises}
use Rattle.move_cases.specs.Board.{stations}
use Rattle.move_cases.specs.Example.{start, shift}
use Rattle.move_cases.specs.Needed.{PagesWithin, LogLong, AnyState, AnyOld, AnyNew, TooWeak, Letting}
use Rattle.move_cases.specs.Needed.{NeedsHandedOn}
use Rattle.claims_move.specs.Station.{MovedWhere}

-- each premise of a move is needed: without it, or with a bound that is off by one, and with all the others,
-- there is a start and a shift whose end differs. Of `Started` it drops the state rules, of `TwoGuests` that
-- old, or new, is a guest file, and of `Makes` the length of the log
-- [01 V12 V25 V26 V27]
unfoldable pub Claim-112 : Type 0
Claim-112 =
    -- one access is not made
    TooWeak (λ m x es. Started x.block x.saved × LogLong x × TwoGuests m × ByMessages x.block
    × NoneNamesNew m x.block × (accesses_in es ≡ 88) × PagesKept m 0 es × CallsKept m es)
    -- a device writes to new after access 7, or to old after access 72
    × TooWeak (λ m x es. Started x.block x.saved × LogLong x × TwoGuests m × ByMessages x.block
    × NoneNamesNew m x.block × AllAccesses es × PagesWithin 7 72 m 0 es × CallsKept m es)
    × TooWeak (λ m x es. Started x.block x.saved × LogLong x × TwoGuests m × ByMessages x.block
    × NoneNamesNew m x.block × AllAccesses es × PagesWithin 8 73 m 0 es × CallsKept m es)
    × ((m : Stations) (n : ℕ) (es : List Event) → (PagesKept m n es ↔ PagesWithin 8 72 m n es))
    -- a source sends to new from the start on
    × TooWeak (λ m x es. Started x.block x.saved × LogLong x × TwoGuests m × ByMessages x.block
    × AllAccesses es × PagesKept m 0 es × CallsKept m es)
    -- the child is in direct mode
    × TooWeak (λ m x es. Started x.block x.saved × LogLong x × TwoGuests m × NoneNamesNew m x.block
    × AllAccesses es × PagesKept m 0 es × CallsKept m es)
    -- old, or new, is no guest's file
    × TooWeak (λ m x es. Started x.block x.saved × LogLong x × AnyOld m × ByMessages x.block
    × NoneNamesNew m x.block × AllAccesses es × PagesKept m 0 es × CallsKept m es)
    × TooWeak (λ m x es. Started x.block x.saved × LogLong x × AnyNew m × ByMessages x.block
    × NoneNamesNew m x.block × AllAccesses es × PagesKept m 0 es × CallsKept m es)
    -- the state breaks a rule
    × TooWeak (λ m x es. AnyState x.block x.saved × LogLong x × TwoGuests m × ByMessages x.block
    × NoneNamesNew m x.block × AllAccesses es × PagesKept m 0 es × CallsKept m es)
    -- the log is too short
    × TooWeak (λ m x es. Started x.block x.saved × TwoGuests m × ByMessages x.block
    × NoneNamesNew m x.block × AllAccesses es × PagesKept m 0 es × CallsKept m es)
    -- an access is not given the saved numbers that the last one gave
    × NeedsHandedOn

-- and so is that other calls are held back: with a claim of the moved station from old, or from new, a write
-- to a register of old, or of new, one to a target of the child or to its domaincfg, an access of another
-- move to new, or a reset between the first access and the last, there is a start and a shift whose end
-- differs from that of the shift in which the station is not moved and makes the same calls on its own file
-- [01 V24]
unfoldable pub Claim-186 : Type 0
Claim-186 =
    Letting (λ m. Claim m.old_hart m.old_file) × Letting (λ m. Claim m.new_hart m.new_file)
    × Letting (λ m. Register m.old_hart m.old_file 1 0xC0 0)
    × Letting (λ m. Register m.new_hart m.new_file 1 0xC0 0)
    × Letting (λ m. DomainWrite 1 0x3004 0x1007) × Letting (λ m. DomainWrite 1 0x0000 0)
    × Letting (λ m. Move 2 2 m.new_hart m.new_file 5) × Letting (λ m. Reset)

-- what the claims on the move ask is `Premises`, and what each call brings; and the shift of Claim-111 meets
-- it
unfoldable pub Claim-191 : Type 1
Claim-191 =
    (P : Stations → List ℕ → List ℕ → List Made → List Made → Type 0)
    → (MovedWhere P
    ↔ ((m : Stations) (l s : List ℕ) (es : List Event) (ms ns : List Made)
    → Premises m l s es → Makes (with_move m 0 es) ms → HandedOn s ms l → Makes (without_move m es) ns
    → P m l s ms ns))
    × (MovedWhere P
    → P stations start.block start.saved (handing (with_move stations 0 shift) start)
    (handing (without_move stations shift) start))
