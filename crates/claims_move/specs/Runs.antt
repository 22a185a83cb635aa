-- Claims 183 and 184: calls one after the other, each with a log and saved numbers of its own. 01, "Calls and
-- their refusals", "The move, with its premises".
--   Said           what a call answers: refusal, value and count
--   left_by ms l   the block that the calls ms leave of l; said_where p ms l, what those of them answer that
--                  p picks; saved_by s ms l, the saved numbers that the accesses of a move among them leave
--                  of s
--   handing cs x   the calls cs, each with the log and the saved numbers that the last one left
--   board_in x     the board that the block of x has
-- Premises: of Claim-183 that both logs have one length; of the last part of Claim-184 `Ready x` and
-- `AllSmall cs`, which Claim-178 has in plain numbers. The rest has none. No axioms.
use Rattle.std.specs.Prelude.{ℕ, ◌≡◌, Bool, true, false, List, [], ◌∷◌, map, ◌↔◌, length, take, drop}
use Rattle.board_block.specs.Block.{board_of}
use Rattle.board_call.specs.declared.Call.{Call}
use Rattle.board_call.specs.declared.Call.TheVariants.{Reset, Wire, DomainRead, DomainWrite, PageRead}
use Rattle.board_call.specs.declared.Call.TheVariants.{PageWrite, Register, Top, Claim, Signals, Move}
use Rattle.board_call.specs.Outcome.{outcome}
use Rattle.board_runs.specs.Runs.{Made, left_by, said_where, Lent, after, ran, handing}
use Rattle.board_runs.specs.Handed.{is_access, saved_by, HandedOn, LogsLong, Makes}
use Rattle.board_runs.specs.Ready.{board_in, Ready, AllSmall}

-- what a call answers, and what it leaves but for the log, does not hang on what the log holds, only on its
-- length; it writes the same words at the start of the log, as many as it counts, and leaves the others. And
-- but for an access of a move it does not hang on the saved numbers, which then stay as they are
unfoldable pub Claim-183 : Type 0
Claim-183 =
    ((c : Call) (l g g' s : List ℕ) → length g ≡ length g'
    → let o = outcome c l g s in
    let o' = outcome c l g' s in
    (o.number ≡ o'.number) × (o.value ≡ o'.value) × (o.count ≡ o'.count) × (o.block ≡ o'.block)
    × (o.saved ≡ o'.saved) × (take o.count o.log ≡ take o.count o'.log)
    × (drop o.count o.log ≡ drop o.count g))
    × ((c : Call) (l g s s' : List ℕ) → is_access c ≡ false
    → let o = outcome c l g s in
    let o' = outcome c l g s' in
    (o.number ≡ o'.number) × (o.value ≡ o'.value) × (o.count ≡ o'.count) × (o.block ≡ o'.block)
    × (o.log ≡ o'.log) × (o.saved ≡ s))
    × ((a d f h k level n nf nh of oh s v w : ℕ)
    → (is_access (Move oh of nh nf n) ≡ true) × (is_access Reset ≡ false) × (is_access (Wire w level) ≡ false)
    × (is_access (DomainRead d a) ≡ false) × (is_access (DomainWrite d a v) ≡ false)
    × (is_access (PageRead h f a) ≡ false) × (is_access (PageWrite h f a v) ≡ false)
    × (is_access (Register h f k s v) ≡ false) × (is_access (Top h f) ≡ false) ×
    (is_access (Claim h f) ≡ false)
    × (is_access (Signals h) ≡ false))

-- a run makes its calls in order, each on the block that the last one left and with the log and the saved
-- numbers that it brings; what the accesses among them leave of the saved numbers is handed from one to the
-- next, past the other calls. `Makes` says that the calls are these, and that each log has 63 words. The run
-- that hands on one log and the same saved numbers is such a run
-- [01 V14]
unfoldable pub Claim-184 : Type 0
Claim-184 =
    ((m : Made) (ms : List Made) (cs : List Call) (l s : List ℕ) (p : Call → Bool)
    → let o = outcome m.call l m.log m.saved in
    (left_by [] l ≡ l) × (left_by (m ∷ ms) l ≡ left_by ms o.block)
    × (said_where p [] l ≡ [])
    × (p m.call ≡ true
    → said_where p (m ∷ ms) l
    ≡ record { number = o.number; value = o.value; count = o.count } ∷ said_where p ms o.block)
    × (p m.call ≡ false → said_where p (m ∷ ms) l ≡ said_where p ms o.block)
    × (saved_by s [] l ≡ s)
    × (is_access m.call ≡ true → saved_by s (m ∷ ms) l ≡ saved_by o.saved ms o.block)
    × (is_access m.call ≡ false → saved_by s (m ∷ ms) l ≡ saved_by s ms o.block)
    × HandedOn s [] l
    × (is_access m.call ≡ true
    → (HandedOn s (m ∷ ms) l ↔ ((m.saved ≡ s) × HandedOn o.saved ms o.block)))
    × (is_access m.call ≡ false → (HandedOn s (m ∷ ms) l ↔ HandedOn s ms o.block))
    × LogsLong [] × (LogsLong (m ∷ ms) ↔ ((length m.log ≡ 63) × LogsLong ms))
    × (Makes cs ms ↔ ((map (λ u. u.call) ms ≡ cs) × LogsLong ms)))
    × ((c : Call) (cs : List Call) (x : Lent)
    → ((after c x).block ≡ (outcome c x.block x.log x.saved).block)
    × ((after c x).log ≡ (outcome c x.block x.log x.saved).log)
    × ((after c x).saved ≡ (outcome c x.block x.log x.saved).saved)
    × (board_in x ≡ board_of x.block)
    × (ran [] x ≡ x) × (ran (c ∷ cs) x ≡ ran cs (after c x))
    × (handing [] x ≡ [])
    × (handing (c ∷ cs) x
    ≡ record { call = c; log = x.log; saved = x.saved } ∷ handing cs (after c x))
    × (left_by (handing cs x) x.block ≡ (ran cs x).block)
    × (saved_by x.saved (handing cs x) x.block ≡ (ran cs x).saved)
    × HandedOn x.saved (handing cs x) x.block
    × (Ready x → AllSmall cs → Makes cs (handing cs x)))
