-- Claims 183 and 184, by the laws of calls that bring their own log and saved numbers. Assumes nothing.
use Prim.Native.Nat.{ℕ}
use mathlib.Core.Path.{◌≡◌, refl, sym, ap, subst, ◌∙◌}
use mathlib.Core.Bool.{true, false, cond}
use mathlib.Core.List.{List, ◌∷◌}
use mathlib.Core.Logic.{◌↔◌}
use native.Mathlib.Decide.{ℕ_discrete}
use lib.ListN.{length, take, drop}
use lib.Seq.{take-append_seam, drop-append_seam}
use Rattle.words.proofs.TestsLaws.{not_same}
use Rattle.domain_sending.specs.Sending.{logged}
use Rattle.board_block.specs.Block.{board_of}
use Rattle.board_call.specs.declared.Call.{Call}
use Rattle.board_call.specs.Calls.{row_of}
use Rattle.board_call.specs.Outcome.{Outcome, step, outcome}
use Rattle.board_call.specs.Refusal.{refusal_of}
use Rattle.board_call_laws.proofs.OutcomeEffects.{outcome-refused, outcome-done}
use Rattle.board_runs.specs.Runs.{Made, left_by, Said, said_where, after, ran}
use Rattle.board_runs.specs.Handed.{is_access, saved_by, HandedOn, LogsLong}
use Rattle.board_runs.proofs.MadeEffects.{refusal-log, outcome-log, outcome-saved, left-handing}
use Rattle.board_runs.proofs.MadeEffects.{calls-handing, logs-handing, handed-handing, saved-handing}
use Rattle.board_runs.specs.Runs.{handing}
use Rattle.claims_move.specs.Runs.{Claim-183, Claim-184}

-- ---- the log

module _ (c : Call) (l g g' s : List ℕ) (same : length g ≡ length g') where
  abbrev o : Outcome
  o = outcome c l g s

  abbrev o' : Outcome
  o' = outcome c l g' s

  words_same : (take o.count o.log ≡ take o.count o'.log)
      × (drop o.count o.log ≡ drop o.count g)
  words_same = at (ℕ_discrete (refusal_of c l g) 0)
    where
      again : refusal_of c l g' ≡ refusal_of c l g
      again = sym (refusal-log (row_of c).tests l g g' same)

      at : Dec (refusal_of c l g ≡ 0)
          → (take o.count o.log ≡ take o.count o'.log)
          × (drop o.count o.log ≡ drop o.count g)
      at (yes e) =
          let ms = (step c (board_of l) s).messages in
          unfold logged in
          rw (outcome-done c l g s e, outcome-done c l g' s (again ∙ e)) (
            take-append_seam ms (drop (length ms) g) ∙ sym (take-append_seam ms (drop (length ms) g')),
            drop-append_seam ms (drop (length ms) g),
          )
      at (no n) = rw (outcome-refused c l g s _ refl n) (refl, refl)

pub claim-183 : Claim-183
unfolding Claim-183 is_access row_of
claim-183 = (
  (λ c l g g' s same. let q = outcome-log c l g g' s same in
      let w = words_same c l g g' s same in (
        ap (λ (x : Said). x.number) q.0.said,
        ap (λ (x : Said). x.value) q.0.said,
        ap (λ (x : Said). x.count) q.0.said,
        q.0.block,
        q.1,
        w.0,
        w.1,
      )),
  (λ c l g s s' none. let q = outcome-saved c l g s s' none in (
    ap (λ (x : Said). x.number) q.0.said,
    ap (λ (x : Said). x.value) q.0.said,
    ap (λ (x : Said). x.count) q.0.said,
    q.0.block,
    q.1,
    q.2,
  )),
  (λ a d f h k level n nf nh of oh s v w. (
    refl,
    refl,
    refl,
    refl,
    refl,
    refl,
    refl,
    refl,
    refl,
    refl,
    refl,
  )),
)

-- ---- runs

-- an access is given the saved numbers that are handed on, and hands on its own
handed-access : (m : Made) (ms : List Made) (l s : List ℕ) → is_access m.call ≡ true
    → let o = outcome m.call l m.log m.saved in
    HandedOn s (m ∷ ms) l ↔ ((m.saved ≡ s) × HandedOn o.saved ms o.block)
unfolding HandedOn
handed-access m ms l s t =
    let o = outcome m.call l m.log m.saved in
    let next : cond (is_access m.call) o.saved s ≡ o.saved = rw t refl in (
      (λ h. (h.0 t, subst (λ (u : List ℕ). HandedOn u ms o.block) next h.1)),
      (λ h. ((λ e. h.0), subst (λ (u : List ℕ). HandedOn u ms o.block) (sym next) h.1)),
    )

handed-past : (m : Made) (ms : List Made) (l s : List ℕ) → is_access m.call ≡ false
    → let o = outcome m.call l m.log m.saved in HandedOn s (m ∷ ms) l ↔ HandedOn s ms o.block
unfolding HandedOn
handed-past m ms l s f =
    let o = outcome m.call l m.log m.saved in
    let next : cond (is_access m.call) o.saved s ≡ s = rw f refl in (
      (λ h. subst (λ (u : List ℕ). HandedOn u ms o.block) next h.1),
      (λ h. (
        (λ e. absurd (not_same _ e f)),
        subst (λ (u : List ℕ). HandedOn u ms o.block) (sym next) h,
      )),
    )

pub claim-184 : Claim-184
unfolding Claim-184 left_by said_where saved_by HandedOn LogsLong after ran handing
claim-184 = (
  (λ m ms cs l s p. (
    refl,
    refl,
    refl,
    (λ t. rw t refl),
    (λ f. rw f refl),
    refl,
    (λ t. rw t refl),
    (λ f. rw f refl),
    tt,
    handed-access m ms l s,
    handed-past m ms l s,
    tt,
    ((λ h. h), (λ h. h)),
    ((λ h. (h.calls, h.logs)), (λ h. record { calls = h.0; logs = h.1 })),
  )),
  (λ c cs x. (
    refl,
    refl,
    refl,
    refl,
    refl,
    refl,
    refl,
    refl,
    left-handing cs x,
    saved-handing cs x,
    handed-handing cs x,
    (λ ready small. record { calls = calls-handing cs x; logs = logs-handing cs x ready small }),
  )),
)
