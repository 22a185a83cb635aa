-- Claim-156, from claims 150 and 151. Assumes nothing.
use Prim.Native.Nat.{ℕ, ◌+◌, ◌*◌}
use mathlib.Core.Path.{◌≡◌, sym, ap, subst, ◌∙◌}
use mathlib.Core.Bool.{Bool, true, false, cond, not, ◌&&◌, and-true, and-false, true≢false}
use mathlib.Core.List.{List}
use mathlib.Core.Logic.{◌≢◌}
use lib.Dec.{eqb}
use lib.ListN.{get_or}
use Rattle.words.specs.Sets.{member}
use Rattle.words.proofs.TestsLaws.{tested, and_first, and_second}
use Rattle.files_laws.specs.Messages.{any_of}
use Rattle.source_mode.specs.Mode.{is_active}
use Rattle.source_target.specs.Target.{hart_of, guest_of, number_of}
use Rattle.domain_delivery.specs.declared.Delivery.{Delivery}
use Rattle.domain.specs.Domain.{Domain, domaincfg_of, is_enabled, by_messages, genmsi_of}
use Rattle.domain.specs.Slot.{source_at}
use Rattle.domain.specs.Structure.{structure_at}
use Rattle.domain_laws.proofs.OwnEffects.{is_enabled-same, by_messages-same}
use Rattle.domain_sending_laws.specs.Candidates.{DomainPendingOnly}
use Rattle.wired_state.specs.Wires.{domain_in}
use Rattle.board_call.specs.Change.{change}
use Rattle.board_call.specs.Outcome.{step}
use Rattle.claims_wired.specs.Kept.{Touch, Spares}
use Rattle.claims_board.specs.Closure.{touches, and_pendings, Claim-150, Claim-151, Claim-156}
use Rattle.claims_board.proofs.ClosureSent.{claim-151}
use Rattle.claims_board.proofs.Closure.{claim-150}

-- ---- what sending leaves

module _ {d d' : Domain} (x : DomainPendingOnly d d') where
  same-enabled : (i : ℕ) → (source_at d' i).enabled ≡ (source_at d i).enabled
  unfolding source_at
  same-enabled i = ap (λ (ws : List ℕ). member ws i) x.enable

  same_target : (i : ℕ) → (source_at d' i).target ≡ (source_at d i).target
  unfolding source_at
  same_target i = ap (λ (ws : List ℕ). get_or ws i 0) x.target

  same-mode : (i : ℕ) → (source_at d' i).mode ≡ (source_at d i).mode
  unfolding source_at
  same-mode i = ap (λ (ws : List ℕ). get_or ws i 0) x.source

  same-domaincfg : domaincfg_of d' ≡ domaincfg_of d
  unfolding domaincfg_of
  same-domaincfg = ap (λ (ws : List ℕ). get_or ws 0 0) x.source

  same-genmsi : genmsi_of d' ≡ genmsi_of d
  unfolding genmsi_of
  same-genmsi = ap (λ (ws : List ℕ). get_or ws 0 0) x.target

  same-structure : (h : ℕ) → structure_at d' h ≡ structure_at d h
  unfolding structure_at
  same-structure h =
      ap (λ (ws : List ℕ). record {
        idelivery = get_or ws (3 * h) 0;
        iforce = get_or ws (3 * h + 1) 0;
        ithreshold = get_or ws (3 * h + 2) 0;
      }) x.delivery

  -- what was kept before it
  kept-sent : (t : Touch) {d₀ : Domain} → Spares t d₀ d → Spares (and_pendings t) d₀ d'
  kept-sent t k =
      record {
        pending = λ i l h e. absurd (true≢false e);
        enabled = λ i l h e. same-enabled i ∙ k.enabled i l h e;
        target = λ i l h e. same_target i ∙ k.target i l h e;
        mode = λ i l h e. same-mode i ∙ k.mode i l h e;
        domaincfg = λ e. same-domaincfg ∙ k.domaincfg e;
        genmsi = λ e. same-genmsi ∙ k.genmsi e;
        idelivery = λ h l e. ap (λ (y : Delivery). y.idelivery) (same-structure h) ∙ k.idelivery h l e;
        iforce = λ h l e. ap (λ (y : Delivery). y.iforce) (same-structure h) ∙ k.iforce h l e;
        ithreshold = λ h l e. ap (λ (y : Delivery). y.ithreshold) (same-structure h) ∙ k.ithreshold h l e;
      }

-- the message to a target t
abbrev message_to : Bool → ℕ → ℕ
message_to c t = hart_of t * 2048 + cond c (guest_of t + 1) 0 * 256 + number_of t

-- source i of d is to be sent
abbrev goes : Domain → ℕ → Bool
goes d i =
    let x = source_at d i in
    is_enabled d && by_messages d && (is_active x.mode && x.pending && x.enabled)

-- ---- a pending bit that sending changed

module _ {d d' : Domain} (x : DomainPendingOnly d d') (c : Bool) (i : ℕ) (ms : List ℕ)
    (left : (source_at d' i).pending ≡ ((source_at d i).pending && not (goes d i)))
    (differs : (source_at d' i).pending ≢ (source_at d i).pending) where
  went : goes d i ≡ true
  went =
      tested (goes d i) (λ t. t)
      (λ f. absurd (differs (left ∙ rw f (and-true (source_at d i).pending))))

  sends : (is_enabled d && by_messages d) ≡ true
  sends = and_first (is_enabled d && by_messages d) _ went

  fell : (goes d i ≡ true → any_of (eqb (message_to c (source_at d i).target)) ms ≡ true)
      → ((source_at d i).pending ≡ true) × ((source_at d' i).pending ≡ false)
      × (is_enabled d' ≡ true) × (by_messages d' ≡ true)
      × (any_of (eqb (message_to c (source_at d' i).target)) ms ≡ true)
  fell brought =
      let y = source_at d i in
      let stands = and_second (is_enabled d && by_messages d) _ went in (
        and_second (is_active y.mode) y.pending
            (and_first (is_active y.mode && y.pending) y.enabled stands),
        left ∙ rw went (and-false y.pending),
        is_enabled-same d d' (same-domaincfg x) ∙ and_first (is_enabled d) (by_messages d) sends,
        by_messages-same d d' (same-domaincfg x) ∙ and_second (is_enabled d) (by_messages d) sends,
        subst (λ (t : ℕ). any_of (eqb (message_to c t)) ms ≡ true) (sym (same_target x i)) (brought went),
      )

pub claim-156 : Claim-156
unfolding Claim-156 Claim-150 Claim-151
claim-156 b shaped call e s c =
    let before = (claim-150 b shaped call e s).0 c in
    let pass = (claim-151 call b s).1 c in
    let changed = domain_in (change call b s).board.wired c in
    let rest : DomainPendingOnly changed (domain_in (step call b s).board.wired c) =
    record { source = pass.0; target = pass.1; enable = pass.2; delivery = pass.3 } in (
      kept-sent rest (touches call b.wired c) before,
      (λ i l h q n. let same = before.pending i l h q in
          let r = fell rest c i (step call b s).messages (pass.4 i l h).0 (λ k. n (k ∙ same))
          (pass.4 i l h).1 in
          (sym same ∙ r.0, r.1, r.2, r.3, r.4)),
    )
