-- Calls made one after the other, each on the block that the last one left: any calls, refused ones too. Each
-- brings a log and saved numbers of its own; that all three are handed on is a case of it. 01, "Calls and
-- their refusals". Assumes nothing.
--   Made               a call as it is made: with the log and the saved numbers of a move that it brings
--   made_on m l        what it does with the block l
--   left_by ms l       what the calls ms leave of the block l, in order
--   Said, said_of o    what a call answers: refusal, value and count
--   said_where p ms l  what those of the calls ms answer that p picks, in order
--   Lent               the block, the log and the saved numbers that a call is lent
--   outcome_on c x     what the call c does with x
--   after c x          what it leaves of x
--   ran cs x           what the calls cs leave of x, in order, if log and saved numbers are handed on too
--   handing cs x       these calls as they are made
use Rattle.std.specs.Prelude.{ℕ, Bool, cond, List, [], ◌∷◌}
use Rattle.board_call.specs.declared.Call.{Call}
use Rattle.board_call.specs.Outcome.{Outcome, outcome}

pub record Made : Type 0 where
  pub call : Call
  pub log : List ℕ
  pub saved : List ℕ

abbrev pub made_on : Made → List ℕ → Outcome
made_on m l = outcome m.call l m.log m.saved

-- [01 X8]
unfoldable pub left_by : List Made → List ℕ → List ℕ
left_by [] l = l
left_by (m ∷ ms) l = left_by ms (made_on m l).block

pub record Said : Type 0 where
  pub number : ℕ
  pub value : ℕ
  pub count : ℕ

abbrev pub said_of : Outcome → Said
said_of o = record { number = o.number; value = o.value; count = o.count }

unfoldable pub said_where : (Call → Bool) → List Made → List ℕ → List Said
said_where p [] l = []
said_where p (m ∷ ms) l =
    let o = made_on m l in
    let rest = said_where p ms o.block in cond (p m.call) (said_of o ∷ rest) rest

-- ---- one log and the same saved numbers, handed on

pub record Lent : Type 0 where
  pub block : List ℕ
  pub log : List ℕ
  pub saved : List ℕ

abbrev pub outcome_on : Call → Lent → Outcome
outcome_on c x = outcome c x.block x.log x.saved

unfoldable pub after : Call → Lent → Lent
after c x =
    let o = outcome_on c x in record { block = o.block; log = o.log; saved = o.saved }

unfoldable pub ran : List Call → Lent → Lent
ran [] x = x
ran (c ∷ cs) x = ran cs (after c x)

unfoldable pub handing : List Call → Lent → List Made
handing [] x = []
handing (c ∷ cs) x = record { call = c; log = x.log; saved = x.saved } ∷ handing cs (after c x)
