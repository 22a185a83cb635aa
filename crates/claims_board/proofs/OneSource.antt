-- Claims 96 to 99, by the laws of a wire and of a target. Assumes nothing.
use Prim.Native.Nat.{ℕ, ◌≤◌}
use mathlib.Core.Path.{◌≡◌, ap, ◌∙◌}
use mathlib.Core.Bool.{Bool, true, false, not}
use mathlib.Core.List.{List, [], ◌∷◌}
use mathlib.Core.Logic.{inl, inr, ⊎_elim}
use native.Mathlib.Decide.{ℕ_discrete}
use native.Mathlib.Omega.{arith}
use lib.Dec.{eqb}
use Rattle.words.specs.Sets.{member}
use Rattle.domain.specs.Slot.{source_at}
use Rattle.wired_state.specs.Wires.{Wired, domain_in, wire_set}
use Rattle.domain_sending.specs.Sending.{candidate}
use Rattle.domain_sending_laws.specs.Candidates.{message_at, spent}
use Rattle.wired_rules_laws.proofs.PassEffects.{quiet-candidate}
use Rattle.wired_rules_laws.proofs.WiredEffects.{steady-domain_in}
use Rattle.wired_rules_laws.proofs.WiredQuietEffects.{quiet-domain_in}
use Rattle.wired_rules_laws.proofs.WiredSameEffects.{wire_set-same}
use Rattle.wired.specs.Controller.{Out, wire_call}
use Rattle.wired_laws.proofs.WireEffects.{wire_set-other, wire-other, wire-own, wire-message}
use Rattle.wired_laws.proofs.WireEffects.{wire-silent, wire-messages}
use Rattle.wired_laws.proofs.TargetEffects.{target-call, target-wires, target-not, target-own}
use Rattle.wired_laws.proofs.TargetEffects.{target-other}
use Rattle.board_block.specs.Block.{Board}
use Rattle.board_call.specs.declared.Call.TheVariants.{Wire}
use Rattle.board_call.specs.Outcome.{Stepped, step}
use Rattle.board_call_laws.proofs.StepEffects.{step-wire, wire-sends, wire-reaches-none, wire-reaches-one}
use Rattle.claims_registers.specs.Rules.{Sound}
use Rattle.claims_wired.proofs.Controller.{steady, quiet}
use Rattle.claims_board.specs.OneSource.{SentNone, SentOne, Claim-96, Claim-97, Claim-98, Claim-99}

-- ---- a wire

stays : (w : Wired) → Sound w → (j : ℕ) → 1 ≤ j → j ≤ 63 → (level : Bool)
    → (i : ℕ) → (i ≡ j → level ≡ member w.wires i)
    → (c : Bool) → source_at (domain_in (wire_set w j level) c) i ≡ source_at (domain_in w c) i
stays w s j l h level i same c = at (ℕ_discrete i j)
  where
    at : Dec (i ≡ j) → source_at (domain_in (wire_set w j level) c) i ≡ source_at (domain_in w c) i
    at (yes e) =
        let set = ap (wire_set w j) (same e ∙ ap (member w.wires) e) in
        ap (λ (x : Wired). source_at (domain_in x c) i) (set ∙ wire_set-same w (steady w s) j l (omega arith))
    at (no n) = wire_set-other w j level c i n

pub claim-96 : Claim-96
unfolding Claim-96
claim-96 w s j l h level i k m same c =
    let e = stays w s j l h level i same c in
    let q = quiet-domain_in w (quiet w s) c in
    (e, (λ t. ap candidate e ∙ quiet-candidate c (domain_in w c) q t i k (omega arith)))

pub claim-97 : Claim-97
unfolding Claim-97 spent
claim-97 w s i l h level =
    let q = quiet w s in
    let own : (c : Bool) → _ = λ c.
    wire-own w q i l (omega arith) level c (steady-domain_in w (steady w s) c).shaped in (
      (λ c j n a b. wire-other w q i l (omega arith) level c j n a (omega arith)),
      (λ c. ((λ t. own c ∙ rw t), (λ f. own c ∙ rw f))),
      (λ c t y. wire-message w (steady w s) q i l (omega arith) level c t y),
      (λ f. wire-silent w (steady w s) q i l (omega arith) level f),
    )

-- ---- a target

pub claim-98 : Claim-98
unfolding Claim-98
claim-98 w s c i l h v =
    let e = target-call w (steady w s) (quiet w s) c i l (omega arith) v in
    let shaped = (steady-domain_in w (steady w s) c).shaped in (
      ap (λ (o : Out). o.messages) e,
      ap (λ (o : Out). o.wired.wires) e ∙ target-wires w c i v,
      ap (λ (o : Out). domain_in o.wired (not c)) e ∙ target-not w c i v,
      (λ j n. ap (λ (o : Out). source_at (domain_in o.wired c) j) e ∙ target-other w c i v j n),
      ap (λ (o : Out). source_at (domain_in o.wired c) i) e ∙ target-own w c i v shaped (omega arith),
    )

-- ---- on the board

module _ (b : Board) (i level : ℕ) (s : List ℕ) where
  none : (wire_call b.wired i (eqb level 1)).messages ≡ [] → SentNone b (step (Wire i level) b s)
  none e = record { messages = wire-sends b i level s ∙ e; files = wire-reaches-none b i level s e }

  one : (c : Bool) → (wire_call b.wired i (eqb level 1)).messages ≡ message_at c (domain_in b.wired c) i ∷
      []
      → SentOne c i b (step (Wire i level) b s)
  one c e = record { messages = wire-sends b i level s ∙ e; files = wire-reaches-one b i level s _ e }

pub claim-99 : Claim-99
unfolding Claim-99 domain_in
claim-99 b t i l h level s = (
  ap (λ (x : Stepped). x.board.wired) (step-wire b i level s),
  wire-sends b i level s,
  ⊎_elim (λ e. inl (none b i level s e))
      (⊎_elim (λ e. inr (inl (one b i level s false e))) (λ e. inr (inr (one b i level s true e))))
      (wire-messages b.wired (steady b.wired t) (quiet b.wired t) i l (omega arith) (eqb level 1)),
)
