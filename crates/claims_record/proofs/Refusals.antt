-- Claim 199: a run from reset is ready for each call, because no number that is read has more than 64 bits.
-- No axioms.
use Prim.Native.Nat.{ℕ, zero, suc, ◌^◌, ◌<◌}
use mathlib.Core.Path.{◌≡◌, refl, sym, subst, ◌∙◌}
use mathlib.Core.Bool.{Bool, true, false, cond}
use mathlib.Core.Logic.{◌⊎◌, inl, inr}
use mathlib.Core.List.{List, [], ◌∷◌, ◌++◌, map}
use native.Mathlib.Omega.{arith}
use lib.ListN.{length, get_or}
use Rattle.record_lines.specs.Lines.{lines_of}
use Rattle.record_call.specs.Table.{line_of}
use Rattle.record_runs.specs.Replay.{said_in, calls_in}
use Rattle.board_block.specs.Block.{Board}
use Rattle.board_call.specs.declared.Call.{Call}
use Rattle.board_call.specs.declared.Call.TheVariants.{Reset, Wire, DomainRead, DomainWrite, PageRead}
use Rattle.board_call.specs.declared.Call.TheVariants.{PageWrite, Register, Top, Claim, Signals, Move}
use Rattle.board_call.specs.Calls.{Tests, row_of}
use Rattle.board_call.specs.Refusal.{first_failed, name_tests, name_refusal_by}
use Rattle.board_call_laws.specs.Small.{Small}
use Rattle.board_call_laws.proofs.OutcomeEffects.{outcome-number}
use Rattle.board_runs.specs.Runs.{ran}
use Rattle.board_runs.specs.Ready.{AllSmall, board_in, at_reset}
use Rattle.board_runs.proofs.RunsEffects.{ready-refusal, ready-ran}
use Rattle.board_runs.proofs.StartEffects.{ready-reset}
use Rattle.claims_record.specs.Written.{Spelled, call_numbers}
use Rattle.claims_record.specs.Replay.{Claim-199}
use Rattle.claims_record.proofs.Written.{written-1}
use Rattle.std.specs.Prelude.{Option, Some, None}

-- ---- numbers of 64 bits

spelled-small : (ts : List (List ℕ)) (ns : List ℕ) → Spelled ts ns → (i : ℕ) → i < length ns →
    get_or ns i 0 < 2 ^ 64
spelled-small [] [] s i h = absurd (omega (arith, h))
spelled-small [] (n ∷ ns) s i h = elim s [ ]
spelled-small (t ∷ ts) [] s i h = elim s [ ]
spelled-small (t ∷ ts) (n ∷ ns) s zero h = s.0.small
spelled-small (t ∷ ts) (n ∷ ns) s (suc i) h = spelled-small ts ns s.1 i (omega (arith, h))

numbers-small : (c : Call) → ((i : ℕ) → i < length (call_numbers c) → get_or (call_numbers c) i 0 < 2 ^ 64) →
    Small c
unfolding row_of
numbers-small Reset n = tt
numbers-small (Wire i level) n = tt
numbers-small (DomainRead d a) n = tt
numbers-small (DomainWrite d a v) n = tt
numbers-small (PageRead h f a) n = tt
numbers-small (PageWrite h f a v) n = tt
numbers-small (Register h f k s v) n = n 4 (omega arith)
numbers-small (Top h f) n = tt
numbers-small (Claim h f) n = tt
numbers-small (Signals h) n = tt
numbers-small (Move oh of nh nf n') n = tt

line_small : (l : List ℕ) (c : Call) → line_of l ≡ Some c → Small c
line_small l c e =
    let w = (written-1 l c e).1 in numbers-small c (spelled-small w.texts (call_numbers c) w.numbers)

abbrev LineSmall : Option Call → Type 0
LineSmall (Some c) = Small c
LineSmall None = Unit {0}

says-small : (l : List ℕ) (s : Option Call) → line_of l ≡ s → LineSmall s
says-small l (Some c) e = line_small l c e
says-small l None e = tt

abbrev LinesSmall : List (Option Call) → Type 0
LinesSmall [] = Unit {0}
LinesSmall (s ∷ ss) = LineSmall s × LinesSmall ss

all_small : (ls : List (List ℕ)) → LinesSmall (map line_of ls)
all_small [] = tt
all_small (l ∷ ls) = (says-small l (line_of l) refl, all_small ls)

first_small : (ss ts : List (Option Call)) → LinesSmall (ss ++ ts) → LinesSmall ss
first_small [] ts n = tt
first_small (s ∷ ss) ts n = (n.0, first_small ss ts n.1)

calls-small : (ss : List (Option Call)) → LinesSmall ss → AllSmall (calls_in ss)
unfolding calls_in
calls-small [] n = tt
calls-small (Some c ∷ ss) n = (n.0, calls-small ss n.1)
calls-small (None ∷ ss) n = calls-small ss n.1

-- ---- the refusal

abbrev Named : ℕ → Type 0
Named n = (n ≡ 0) ⊎ ((n ≡ 4) ⊎ ((n ≡ 5) ⊎ (n ≡ 6)))

name-named : (t : Tests) (b : Board) → Named (name_refusal_by t b)
unfolding name_refusal_by name_tests first_failed
name-named t b = at (t.names b) t.address t.select
  where
    at : (p q r : Bool) → Named (cond p (cond q (cond r 0 6) 5) 4)
    at false q r = inr (inl refl)
    at true false r = inr (inr (inl refl))
    at true true false = inr (inr (inr refl))
    at true true true = inl refl

pub claim-199 : Claim-199
unfolding Claim-199 said_in
claim-199 bs ss ts c e =
    let small = calls-small ss (first_small ss (Some c ∷ ts) (subst LinesSmall e (all_small
    (lines_of bs)))) in
    let x = ran (calls_in ss) at_reset in
    let ready = ready-ran (calls_in ss) at_reset ready-reset small in
    let number = outcome-number c x.block x.log x.saved ∙ ready-refusal c x ready in
    subst Named (sym number) (name-named (row_of c).tests (board_in x))
