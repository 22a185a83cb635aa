-- Claims 80 to 90, by the laws of the calls. Assumes nothing.
use Prim.Native.Nat.{ℕ, zero, suc, ◌≤◌, ◌<◌}
use mathlib.Core.Path.{◌≡◌, refl, sym, ◌∙◌}
use mathlib.Core.Bool.{◌&&◌}
use mathlib.Core.List.{List}
use mathlib.Core.Logic.{inl, inr, ⊎_elim}
use native.Mathlib.Decide.{ℕ_discrete}
use native.Mathlib.Omega.{arith}
use lib.Dec.{eqb, ltb}
use borrow.Author.Tests.{eq-eqb, ne_eqb, eqb-true, lt-ltb, ltb-true}
use Rattle.words.specs.Bits.{put_bit}
use Rattle.words.proofs.BitsLaws.{with_bit-lt, without_bit-le}
use Rattle.words.proofs.TestsLaws.{tested, and_first, and_second, and_both, or_cases, or_left, or_right}
use Rattle.file.specs.Top.{signals}
use Rattle.files.specs.Files.{file_number, the_file}
use Rattle.domain_direct.specs.Direct.{signal_of}
use Rattle.domain_direct_laws.proofs.ClaimEffects.{signal-iff}
use Rattle.wired_state.specs.Wires.{domain_in}
use Rattle.board_block.specs.Block.{Board, board_of}
use Rattle.board_block_laws.proofs.BlockBack.{block_back, board-back, length-block_of}
use Rattle.board_block_laws.proofs.StartEffects.{start-sound}
use Rattle.board_call.specs.declared.Call.{Call}
use Rattle.board_call.specs.Calls.{tests_rules, row_of}
use Rattle.board_call.specs.Refusal.{block_refusal, name_refusal, refusal_of}
use Rattle.board_call.specs.declared.Call.TheVariants.{Signals}
use Rattle.board_call.specs.Change.{signal_at, signals_to, change}
use Rattle.board_call.specs.Outcome.{then_sent, step, outcome}
use Rattle.board_call.proofs.RefusalLaws.{refused-state, refused-log, refused-rules, blocks-sound}
use Rattle.board_call.proofs.RefusalLaws.{blocks-untested, accepted-present}
use Rattle.board_call.proofs.RefusalLaws.{refused-name, refused-address, refused-select, numbers-name}
use Rattle.board_call.proofs.RefusalLaws.{refused-blocks, refused-numbers, refused_none, passed-state}
use Rattle.board_call_laws.proofs.GivesEffects.{gives_one}
use Rattle.board_call_laws.proofs.FitEffects.{fit-block}
use Rattle.board_call_laws.proofs.HartCallEffects.{signal-bit}
use Rattle.board_runs.proofs.KeptEffects.{kept_step}
use Rattle.board_call_laws.proofs.OutcomeEffects.{outcome-refused, outcome-done}
use Rattle.board_call_laws.proofs.StepEffects.{step-reset}
use Rattle.claims_file.specs.FileFacts.{Claim-33}
use Rattle.claims_file.proofs.FileFacts.{claim-33}
use Rattle.claims_calls.specs.BoardCalls.{Claim-80, Claim-81, Claim-82, Claim-83, Passes, Claim-84}
use Rattle.claims_calls.specs.BoardCalls.{Claim-85}
use Rattle.claims_calls.specs.BoardCalls.{Claim-86, Claim-87, Claim-88, Claim-89, Claim-90, Claim-161}

pub claim-80 : Claim-80
unfolding Claim-80
claim-80 l b b' g g' r =
    ((λ i level learnt. learnt), (λ d a learnt. learnt), (λ d a v learnt. learnt))

pub claim-81 : Claim-81
unfolding Claim-81
claim-81 l b b' g g' r h f = (
  (λ a learnt. learnt),
  (λ a v learnt. learnt),
  (λ k s v learnt. learnt),
  (λ learnt. learnt),
  (λ learnt. learnt),
)

pub claim-82 : Claim-82
unfolding Claim-82
claim-82 l b b' g g' r = ((λ learnt. learnt), (λ h learnt. learnt))

pub claim-90 : Claim-90
unfolding Claim-90
claim-90 l b b' g g' s s' c r learnt = learnt

pub claim-83 : Claim-83
unfolding Claim-83
claim-83 = gives_one

module _ (c : Call) (l g : List ℕ) where
  first : (k : ℕ) → block_refusal (tests_rules c) l g ≡ suc k → refusal_of c l g ≡ suc k
  first k e = refused-blocks (row_of c).tests l g (suc k) (sym e) (λ z. omega arith)

  none : Passes c l g → block_refusal (tests_rules c) l g ≡ 0
  none (long, full, rules) =
      tested (tests_rules c) (λ t. blocks-sound (tests_rules c) l g long full (rules t))
      (λ f. blocks-untested (tests_rules c) l g long full f)

  then : Passes c l g → (k : ℕ) → name_refusal c (board_of l) ≡ k → refusal_of c l g ≡ k
  then p k e = refused-numbers (row_of c).tests l g (none p) ∙ e

pub claim-84 : Claim-84
unfolding Claim-84
claim-84 c l g = (
  (λ h. first c l g 0 (refused-state (tests_rules c) l g h)),
  (λ long h. first c l g 1 (refused-log (tests_rules c) l g long h)),
  (λ long full t f. first c l g 2 (refused-rules (tests_rules c) l g long full t f)),
  (λ p n. then c l g p 4 (refused-name (row_of c).tests (board_of l) n)),
  (λ p n a. then c l g p 5 (refused-address (row_of c).tests (board_of l) n a)),
  (λ p n a s. then c l g p 6 (refused-select (row_of c).tests (board_of l) n a s)),
  (λ p n a s. then c l g p 0 (numbers-name (row_of c).tests (board_of l) n a s)),
)

pub claim-85 : Claim-85
unfolding Claim-85 outcome
claim-85 c l g s h = simp (ne_eqb (refusal_of c l g) 0 h)

-- ---- what an accepted call leaves

pub claim-86 : Claim-86
unfolding Claim-86
claim-86 l g s fit saved_fit c small sound e =
    let passed = refused_none (row_of c).tests l g e in
    let long = passed-state (tests_rules c) l g passed.0 in
    let kept = kept_step (board_of l) (fit-block l long fit sound) s saved_fit c
    (accepted-present (row_of c).tests (board_of l) passed.1)
    small in
    (kept.fit.sound, kept.fit.shaped, kept.fit.files, kept.few, kept.saved)

pub claim-87 : Claim-87
unfolding Claim-87
claim-87 b s = (step-reset b s, start-sound)

pub claim-88 : Claim-88
unfolding Claim-88
claim-88 = (
  block_back,
  (λ b s. (board-back b s, length-block_of b s)),
  (λ b. (
    (λ s. (
      s.many,
      (λ k l. ((s.long k l).pending_long, (s.long k l).enable_long)),
      s.wires,
      s.machine,
      s.child,
    )),
    (λ p. record {
      many = p.0;
      long = λ k l. let q = p.1 k l in record { pending_long = q.0; enable_long = q.1 };
      wires = p.2;
      machine = p.3;
      child = p.4;
    }),
  )),
)

-- ---- the signals

pub claim-89 : Claim-89
unfolding Claim-89 signal_at Claim-33
claim-89 b h f l =
    let x = the_file b.files (file_number h f) in
    let d = domain_in b.wired (eqb f 1) in
    let low = ltb f 2 in
    let takes = eqb x.delivery 0x40000000 in
    let own = signals 255 x in
    let domains = low && takes && signal_of d h in (
      (λ e. ⊎_elim (λ t. inl ((claim-33 255 x).0 t))
          (λ t. let both = and_first (low && takes) (signal_of d h) t in
          let s = (signal-iff d h).0 (and_second (low && takes) (signal_of d h) t) in
          inr (
            ltb-true f 2 (and_first low takes both),
            eqb-true x.delivery 0x40000000
                (and_second low takes both),
            s.0,
            s.1,
            s.2,
            s.3,
          ))
          (or_cases own domains (sym (signal-bit b h 5 f l) ∙ e))),
      (λ p. signal-bit b h 5 f l ∙ ⊎_elim (λ q. or_left own domains ((claim-33 255 x).1 q))
          (λ (q : _). or_right own domains
          (and_both (low && takes) (signal_of d h)
          (and_both low takes (lt-ltb f 2 q.0) (eq-eqb x.delivery 0x40000000 q.1))
          ((signal-iff d h).1 (q.2, q.3, q.4, q.5)))) p),
    )

-- each signal is one of the five lowest bits
signals-fit : (b : Board) (h n : ℕ) → n ≤ 5 → signals_to b h n < 32
unfolding signals_to put_bit
signals-fit b h zero few = omega arith
signals-fit b h (suc n) few =
    let lower = signals-fit b h n (omega arith) in
    tested (signal_at b h n) (λ t. rw t (with_bit-lt 5 (signals_to b h n) n lower (omega arith)))
    (λ f. rw f (omega (arith, without_bit-le (signals_to b h n) n, lower)))

pub claim-161 : Claim-161
unfolding Claim-161 step then_sent change
claim-161 = (
  (λ b h. signals-fit b h 5 (omega arith)),
  (λ l g s h. at l g s h (ℕ_discrete (refusal_of (Signals h) l g) 0)),
)
  where
    at : (l g s : List ℕ) (h : ℕ) → Dec (refusal_of (Signals h) l g ≡ 0)
        → (outcome (Signals h) l g s).value < 32
    at l g s h (yes e) = rw (outcome-done (Signals h) l g s e) (signals-fit (board_of l) h 5 (omega arith))
    at l g s h (no n) = rw (outcome-refused (Signals h) l g s _ refl n) (omega arith)
