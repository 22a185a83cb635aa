-- Calls that bring their own log and saved numbers: what a call answers and leaves hangs on the length of its
-- log alone, and on the saved numbers only if it is an access of a move; so a run whose accesses are handed
-- the saved numbers does what the run does that hands all on. No contract cites this file. Assumes nothing.
--   Alike o o'   both outcomes answer the same, and leave the same block
use Prim.Native.Nat.{ℕ}
use mathlib.Core.Path.{◌≡◌, refl, sym, ap, subst, ◌∙◌}
use mathlib.Core.Bool.{Bool, true, false, true≢false}
use mathlib.Core.List.{List, [], ◌∷◌, map}
use native.Mathlib.Decide.{ℕ_discrete}
use lib.ListN.{length}
use Rattle.words.proofs.TestsLaws.{tested, not_same}
use Rattle.board_block.specs.Block.{Board, board_of}
use Rattle.board_call.specs.declared.Call.{Call}
use Rattle.board_call.specs.declared.Call.TheVariants as call
use Rattle.board_call.specs.Change.{change}
use Rattle.board_call.specs.Calls.{Tests, row_of}
use Rattle.board_call.specs.Refusal.{block_tests, refusal_by, refusal_of}
use Rattle.board_call.specs.Outcome.{Outcome, Stepped, then_sent, step, outcome}
use Rattle.board_call_laws.proofs.OutcomeEffects.{outcome-refused, outcome-done}
use Rattle.board_runs.specs.Runs.{Made, made_on, left_by, said_of, said_where, Lent, outcome_on, after, ran}
use Rattle.board_runs.specs.Runs.{handing}
use Rattle.board_runs.specs.Handed.{is_access, saved_after, saved_by, HandedOn, LogsLong, Makes}
use Rattle.board_runs.specs.Ready.{Ready, AllSmall}
use Rattle.board_runs.proofs.RunsEffects.{ready-after}

-- ---- the log

pub refusal-log : (t : Tests) (l g g' : List ℕ) → length g ≡ length g' → refusal_by t l g ≡ refusal_by t l g'
unfolding refusal_by block_tests
refusal-log t l g g' e = rw e

pub record Alike (o o' : Outcome) : Type 0 where
  pub said : said_of o ≡ said_of o'
  pub block : o.block ≡ o'.block

module _ (c : Call) (l g g' s : List ℕ) (same : length g ≡ length g') where
  pub outcome-log : Alike (outcome c l g s) (outcome c l g' s)
      × ((outcome c l g s).saved ≡ (outcome c l g' s).saved)
  outcome-log = at (ℕ_discrete (refusal_of c l g) 0)
    where
      again : refusal_of c l g' ≡ refusal_of c l g
      again = sym (refusal-log (row_of c).tests l g g' same)

      at : Dec (refusal_of c l g ≡ 0)
          → Alike (outcome c l g s) (outcome c l g' s) × ((outcome c l g s).saved ≡ (outcome c l g' s).saved)
      at (yes e) =
          rw (outcome-done c l g s e, outcome-done c l g' s (again ∙ e))
          (record { said = refl; block = refl }, refl)
      at (no n) =
          rw (outcome-refused c l g s _ refl n, outcome-refused c l g' s _ again n)
          (record { said = refl; block = refl }, refl)

-- ---- the saved numbers

abbrev saved_is : Stepped → List ℕ → Stepped
saved_is x s = record { board = x.board; value = x.value; messages = x.messages; saved = s }

-- a call that is no access does not look at them, and leaves them
step-unsaved : (c : Call) (b : Board) (s s' : List ℕ) → is_access c ≡ false
    → step c b s ≡ saved_is (step c b s') s
unfolding step change then_sent is_access row_of
step-unsaved call.Reset b s s' n = refl
step-unsaved (call.Wire i level) b s s' n = refl
step-unsaved (call.DomainRead d a) b s s' n = refl
step-unsaved (call.DomainWrite d a v) b s s' n = refl
step-unsaved (call.PageRead h f a) b s s' n = refl
step-unsaved (call.PageWrite h f a v) b s s' n = refl
step-unsaved (call.Register h f k x v) b s s' n = refl
step-unsaved (call.Top h f) b s s' n = refl
step-unsaved (call.Claim h f) b s s' n = refl
step-unsaved (call.Signals h) b s s' n = refl
step-unsaved (call.Move oh of nh nf k) b s s' n = absurd (true≢false n)

module _ (c : Call) (l g s s' : List ℕ) (none : is_access c ≡ false) where
  pub outcome-saved : Alike (outcome c l g s) (outcome c l g s')
      × ((outcome c l g s).log ≡ (outcome c l g s').log) × ((outcome c l g s).saved ≡ s)
  outcome-saved = at (ℕ_discrete (refusal_of c l g) 0)
    where
      at : Dec (refusal_of c l g ≡ 0)
          → Alike (outcome c l g s) (outcome c l g s')
          × ((outcome c l g s).log ≡ (outcome c l g s').log) × ((outcome c l g s).saved ≡ s)
      at (yes e) =
          rw (outcome-done c l g s e, outcome-done c l g s' e, step-unsaved c (board_of l) s s' none)
          (record { said = refl; block = refl }, refl, refl)
      at (no n) =
          rw (outcome-refused c l g s _ refl n, outcome-refused c l g s' _ refl n)
          (record { said = refl; block = refl }, refl, refl)

-- ---- a call that is made, beside the same call where all is handed on

module _ (m : Made) (x : Lent) (long : length m.log ≡ length x.log)
    (given : is_access m.call ≡ true → m.saved ≡ x.saved) where
  -- the numbers that it brings are those handed on, or it does not look at them
  pub made_alike : Alike (made_on m x.block) (outcome_on m.call x)
  made_alike =
      let logs = (outcome-log m.call x.block m.log x.log m.saved long).0 in
      tested (is_access m.call)
      (λ t. subst (λ (s : List ℕ). Alike (made_on m x.block) (outcome m.call x.block x.log s))
      (given t) logs)
      (λ f. let saved = (outcome-saved m.call x.block x.log m.saved x.saved f).0 in
      record { said = logs.said ∙ saved.said; block = logs.block ∙ saved.block })

  pub made-saved : saved_after x.saved m x.block ≡ (after m.call x).saved
  unfolding after
  made-saved =
      tested (is_access m.call)
      (λ t. rw (t, given t) (outcome-log m.call x.block m.log x.log x.saved long).1)
      (λ f. rw f (sym (outcome-saved m.call x.block x.log x.saved x.saved f).2))

-- ---- every call of a run

abbrev calls_of : List Made → List Call
calls_of ms = map (λ m. m.call) ms

-- the calls ms leave and answer what the calls cs do from x on, where all is handed on
pub record Follows (cs : List Call) (ms : List Made) (x : Lent) : Type 0 where
  pub left : left_by ms x.block ≡ (ran cs x).block
  pub saved : saved_by x.saved ms x.block ≡ (ran cs x).saved
  pub said : (p : Call → Bool) → said_where p ms x.block ≡ said_where p (handing cs x) x.block

follows-run : (ms : List Made) (x : Lent) → Ready x → AllSmall (calls_of ms) → LogsLong ms
    → HandedOn x.saved ms x.block → Follows (calls_of ms) ms x
unfolding left_by saved_by said_where ran handing LogsLong HandedOn after
follows-run [] x ready small long handed = record { left = refl; saved = refl; said = λ p. refl }
follows-run (m ∷ ms) x ready small long handed =
    let y = after m.call x in
    let full = long.0 ∙ sym ready.full in
    let alike = made_alike m x full handed.0 in
    let saved = made-saved m x full handed.0 in
    let rest = follows-run ms y (ready-after m.call x ready small.0) small.1 long.1
    (subst (λ (s : List ℕ). HandedOn s ms y.block) saved
    (subst (λ (l : List ℕ). HandedOn (saved_after x.saved m x.block) ms l) alike.block
    handed.1)) in
    record {
      left = ap (left_by ms) alike.block ∙ rest.left;
      saved =
          ap (saved_by (saved_after x.saved m x.block) ms) alike.block
          ∙ ap (λ (s : List ℕ). saved_by s ms y.block) saved ∙ rest.saved;
      said = λ p. rw (alike.said, alike.block, rest.said p) refl;
    }

pub follows : (cs : List Call) (ms : List Made) (x : Lent) → Ready x → AllSmall cs → Makes cs ms
    → HandedOn x.saved ms x.block → Follows cs ms x
follows cs ms x ready small makes handed =
    subst (λ (ds : List Call). Follows ds ms x) makes.calls
    (follows-run ms x ready (subst AllSmall (sym makes.calls) small) makes.logs handed)

-- where no access is made, none has to be given saved numbers
unfoldable pub NoAccess : List Call → Type 0
NoAccess [] = Unit {0}
NoAccess (c ∷ cs) = (is_access c ≡ false) × NoAccess cs

handed-run : (ms : List Made) (s l : List ℕ) → NoAccess (calls_of ms) → HandedOn s ms l
unfolding HandedOn NoAccess
handed-run [] s l none = tt
handed-run (m ∷ ms) s l none =
    ((λ t. absurd (not_same _ t none.0)), handed-run ms _ _ none.1)

pub handed-none : (cs : List Call) (ms : List Made) (s l : List ℕ) → Makes cs ms → NoAccess cs
    → HandedOn s ms l
handed-none cs ms s l makes none = handed-run ms s l (subst NoAccess (sym makes.calls) none)

-- ---- the run that hands all on is one

pub left-handing : (cs : List Call) (x : Lent) → left_by (handing cs x) x.block ≡ (ran cs x).block
unfolding left_by handing ran after
left-handing [] x = refl
left-handing (c ∷ cs) x = left-handing cs (after c x)

pub calls-handing : (cs : List Call) (x : Lent) → calls_of (handing cs x) ≡ cs
unfolding handing
calls-handing [] x = refl
calls-handing (c ∷ cs) x = ap (λ (ds : List Call). c ∷ ds) (calls-handing cs (after c x))

pub logs-handing : (cs : List Call) (x : Lent) → Ready x → AllSmall cs → LogsLong (handing cs x)
unfolding handing LogsLong
logs-handing [] x ready small = tt
logs-handing (c ∷ cs) x ready small =
    (ready.full, logs-handing cs (after c x) (ready-after c x ready small.0) small.1)

pub handed-handing : (cs : List Call) (x : Lent) → HandedOn x.saved (handing cs x) x.block
unfolding handing HandedOn after
handed-handing [] x = tt
handed-handing (c ∷ cs) x =
    let m : Made = record { call = c; log = x.log; saved = x.saved } in
    let y = after c x in (
      (λ t. refl),
      subst (λ (s : List ℕ). HandedOn s (handing cs y) y.block) (sym (made-saved m x refl (λ t. refl)))
          (handed-handing cs y),
    )

pub saved-handing : (cs : List Call) (x : Lent)
    → saved_by x.saved (handing cs x) x.block ≡ (ran cs x).saved
unfolding handing saved_by ran after
saved-handing [] x = refl
saved-handing (c ∷ cs) x =
    let m : Made = record { call = c; log = x.log; saved = x.saved } in
    let y = after c x in
    ap (λ (s : List ℕ). saved_by s (handing cs y) y.block) (made-saved m x refl (λ t. refl))
    ∙ saved-handing cs y
