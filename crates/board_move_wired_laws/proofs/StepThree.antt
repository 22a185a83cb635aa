-- The accesses of step 3 of a move, which rewrite the targets that name old, one source each: they keep the
-- relation of the two controllers, and send nothing. No contract cites this file. Assumes nothing.
use Prim.Native.Nat.{ℕ, suc, ◌+◌, ◌≤◌, ◌<◌}
use mathlib.Core.Path.{◌≡◌, refl, sym, ap, ◌∙◌}
use mathlib.Core.Bool.{Bool, true, false}
use mathlib.Core.List.{[]}
use mathlib.Core.Logic.{◌≢◌, ◌⊎◌, inl, inr, ⊎_elim}
use native.Mathlib.Decide.{ℕ_discrete}
use native.Mathlib.Omega.{arith}
use lib.ListN.{set}
use Rattle.words.specs.Parts.{field_of}
use Rattle.words.specs.Sets.{member}
use Rattle.words.proofs.TestsLaws.{tested}
use Rattle.source_mode.specs.Mode.{is_active}
use Rattle.source_target.specs.Target.{guest_of}
use Rattle.source.specs.declared.Source.{Source}
use Rattle.source.specs.Pending.{with_target, retargeted}
use Rattle.source.proofs.PendingLaws.{retargeted-active}
use Rattle.source_laws.proofs.SteadyParts.{steady-inactive}
use Rattle.domain_region.specs.declared.Word.TheVariants.{Target}
use Rattle.domain.specs.Domain.{Domain, by_messages, with_targets}
use Rattle.domain.specs.Slot.{source_at, with_source}
use Rattle.domain_laws.proofs.SlotEffects.{with_source-target}
use Rattle.domain_writes.specs.Writes.{target_written}
use Rattle.domain_values.specs.Values.{register_value}
use Rattle.domain_registers.specs.Write.{register_written}
use Rattle.wired_state.specs.Wires.{Wired, domain_in, with_domain}
use Rattle.wired_registers.specs.Wired.{written_as, written_in}
use Rattle.wired_rules.specs.Rules.{wired_sound}
use Rattle.wired_rules_laws.specs.Steady.{WiredSteady, WiredQuiet}
use Rattle.wired_rules_laws.proofs.DelegationEffects.{steady-written_in}
use Rattle.wired_rules_laws.proofs.SoundParts.{wired-sound-joined}
use Rattle.wired_rules_laws.proofs.WiredQuietEffects.{quiet-target}
use Rattle.wired.specs.Controller.{flushed}
use Rattle.wired.proofs.CallLaws.{flushed-quiet}
use Rattle.wired_laws.proofs.TargetEffects.{target-own, target-other}
use Rattle.board_move_steps.specs.Names.{names_file, renamed}
use Rattle.board_call.specs.Move.{retargeted_in}
use Rattle.board_move_wired_laws.specs.Retargeted.{TargetsOnly, Same, Rewritten, TargetsMoved}
use Rattle.board_move_wired_laws.proofs.TargetNames.{names-number, kept-renamed, renamed-other}
use Rattle.board_move_wired_laws.proofs.WireRelated.{child-only}

-- ---- two controllers that differ in targets

pub only-start : (w : Wired) → TargetsOnly w w
only-start w =
    record { wires = refl; machine = refl; source = refl; pending = refl; enable = refl; delivery = refl }

only-joined : {w v u : Wired} → TargetsOnly w v → TargetsOnly v u → TargetsOnly w u
only-joined p q =
    record {
      wires = p.wires ∙ q.wires;
      machine = p.machine ∙ q.machine;
      source = p.source ∙ q.source;
      pending = p.pending ∙ q.pending;
      enable = p.enable ∙ q.enable;
      delivery = p.delivery ∙ q.delivery;
    }

-- a source changes in its target alone
retargeted-is : (s : Source) (c m : Bool) (v : ℕ)
    → retargeted s c m v ≡ with_target s (retargeted s c m v).target
unfolding retargeted
retargeted-is s c m v = tested (is_active s.mode) (λ t. rw t) (λ f. rw f)

written-targets : (d : Domain) (i v : ℕ)
    → let t = (retargeted (source_at d i) true (by_messages d) v).target in
    target_written true d i v ≡ with_targets d (set d.target i t)
unfolding target_written
written-targets d i v =
    ap (with_source d i) (retargeted-is (source_at d i) true (by_messages d) v) ∙ sym
    (with_source-target d i _)

-- a write to a target of the child
written-only : (w : Wired) (i v : ℕ) → TargetsOnly (written_in w true (Target i) v) w
unfolding with_domain domain_in written_in written_as register_written
written-only w i v =
    child-only (written_in w true (Target i) v) w refl refl _ (written-targets w.child i v)

-- ---- one access

abbrev pub target_in : Wired → ℕ → ℕ
target_in w i = (source_at w.child i).target

module _ (oh of nh nf : ℕ) (w : Wired) (i : ℕ) where
  abbrev here : ℕ
  here = target_in w i

  abbrev next : Wired
  next = retargeted_in oh of nh nf w i

  pub next-hit : names_file here oh of ≡ true → next ≡ written_in w true (Target i) (renamed here nh nf)
  unfolding retargeted_in register_value domain_in
  next-hit t = simp t

  pub next-miss : names_file here oh of ≡ false → next ≡ w
  unfolding retargeted_in register_value domain_in
  next-miss f = simp f

  pub retargeted-only : {u : Wired} → TargetsOnly w u → TargetsOnly next u
  retargeted-only r =
      tested (names_file here oh of)
      (λ t. rw (next-hit t) (only-joined (written-only w i (renamed here nh nf)) r))
      (λ f. rw (next-miss f) r)

  pub next-other : (j : ℕ) → j ≢ i → target_in next j ≡ target_in w j
  unfolding domain_in
  next-other j n =
      tested (names_file here oh of)
      (λ t. ap (λ (x : Wired). target_in x j) (next-hit t)
      ∙ ap (λ (x : Source). x.target) (target-other w true i (renamed here nh nf) j n))
      (λ f. ap (λ (x : Wired). target_in x j) (next-miss f))

  module _ (s : WiredSteady w) (l : 1 ≤ i) (h : i < 64) where
    -- a source whose target names a guest's file is active, as the target of any other is 0
    pub named-active : 2 ≤ of → names_file here oh of ≡ true → is_active (source_at w.child i).mode ≡ true
    unfolding guest_of field_of
    named-active lo t =
        tested (is_active (source_at w.child i).mode) (λ y. y)
        (λ f. let none : here ≡ 0 = ap (λ (x : Source). x.target)
        (steady-inactive true (by_messages w.child) (member w.wires i) (source_at w.child i)
        (s.child.source i l h) f) in
        let guest = (names-number here oh of t).1 in
        absurd (omega arith))

    pub retargeted-steady : WiredSteady next
    retargeted-steady =
        tested (names_file here oh of)
        (λ t. rw (next-hit t)
        (steady-written_in w s true (Target i) (l, omega arith) (renamed here nh nf)))
        (λ f. rw (next-miss f) s)

    module _ (q : WiredQuiet w) where
      pub retargeted-quiet : WiredQuiet next
      retargeted-quiet =
          tested (names_file here oh of)
          (λ t. rw (next-hit t) (quiet-target w q s true i l h (renamed here nh nf)))
          (λ f. rw (next-miss f) q)

      -- it sends nothing
      pub retargeted-silent : flushed next ≡ record { wired = next; messages = [] }
      retargeted-silent = flushed-quiet next retargeted-quiet

      pub retargeted-sound : wired_sound next ≡ true
      retargeted-sound = wired-sound-joined next retargeted-steady retargeted-quiet

    next-own : by_messages w.child ≡ true → 2 ≤ of → nh < 4 → 1 ≤ nf → nf < 5
        → names_file here oh of ≡ true → target_in next i ≡ renamed here nh nf
    unfolding domain_in
    next-own m lo hn ln fn t =
        let d = w.child in
        let v = renamed here nh nf in
        ap (λ (x : Wired). target_in x i) (next-hit t)
        ∙ ap (λ (x : Source). x.target)
        (target-own w true i v s.child.shaped h
        ∙ retargeted-active (source_at d i) (by_messages d) true v (named-active lo t))
        ∙ rw m (kept-renamed here nh nf hn ln fn)

-- ---- the targets after n accesses

module _ (oh of nh nf : ℕ) where
  abbrev Moved : ℕ → ℕ → ℕ → ℕ → Type 0
  Moved n i t u = Same oh of nh nf n i t u ⊎ Rewritten oh of nh nf n i t u

  -- one access later, where source i did not have its turn at it
  moved-next : (n i t u : ℕ) → (i + 8 ≤ suc n → i + 8 ≤ n) → Moved n i t u → Moved (suc n) i t u
  moved-next n i t u back (inl s) =
      inl (record { same = s.same; not_new = s.not_new; not-old = λ p. s.not-old (back p) })
  moved-next n i t u back (inr r) =
      inr (record { passed = omega (arith, r.passed); was-old = r.was-old; now-new = r.now-new })

  module _ (n : ℕ) (w u : Wired) (m : TargetsMoved oh of nh nf n w u) where
    pub moved-else : (n < 8) ⊎ (71 ≤ n) → TargetsMoved oh of nh nf (suc n) w u
    moved-else (inl a) i l h = moved-next n i _ _ (omega arith) (m i l h)
    moved-else (inr a) i l h = moved-next n i _ _ (omega arith) (m i l h)

    -- before the first turn no target names new
    pub moved_new : n < 9 → (i : ℕ) → 1 ≤ i → i < 64 → names_file (target_in w i) nh nf ≡ false
    moved_new a i l h =
        ⊎_elim (λ e. rw e.same e.not_new) (λ r. absurd (omega (arith, r.passed))) (m i l h)

    -- after the last turn no target names old, which is another file than new
    pub moved-old : (oh ≡ nh → of ≡ nf → ⊥) → nh < 4 → 1 ≤ nf → nf < 5 → 71 ≤ n
        → (i : ℕ) → 1 ≤ i → i < 64 → names_file (target_in w i) oh of ≡ false
    moved-old apart hn ln fn a i l h =
        let other : nh ≡ oh → nf ≡ of → ⊥ = λ p q. apart (sym p) (sym q) in
        ⊎_elim (λ e. rw e.same (e.not-old (omega arith)))
        (λ r. rw r.now-new (renamed-other (target_in u i) nh nf hn ln fn oh of other)) (m i l h)

    -- the access of source i
    module _ (i : ℕ) (s : WiredSteady w) (by : by_messages w.child ≡ true) (lo : 2 ≤ of) (hn : nh < 4)
        (ln : 1 ≤ nf) (fn : nf < 5) (turn : n ≡ i + 7) (l : 1 ≤ i) (h : i < 64) where
      abbrev now : ℕ → ℕ
      now = target_in (retargeted_in oh of nh nf w i)

      moved-hit : target_in w i ≡ target_in u i → names_file (target_in w i) oh of ≡ true
          → Rewritten oh of nh nf (suc n) i (now i) (target_in u i)
      moved-hit e y =
          let own = next-own oh of nh nf w i s l h by lo hn ln fn y in
          record {
            passed = omega arith;
            was-old = rw (← e) y;
            now-new = own ∙ ap (λ (t : ℕ). renamed t nh nf) e;
          }

      moved-miss : Same oh of nh nf n i (target_in w i) (target_in u i) → names_file (target_in w i) oh of
          ≡ false
          → Same oh of nh nf (suc n) i (now i) (target_in u i)
      moved-miss e f =
          let own = ap (λ (x : Wired). target_in x i) (next-miss oh of nh nf w i f) in
          record { same = own ∙ e.same; not_new = e.not_new; not-old = λ _. rw (← e.same) f }

      moved-own : Moved (suc n) i (now i) (target_in u i)
      moved-own =
          ⊎_elim
          (λ e. tested (names_file (target_in w i) oh of) (λ y. inr (moved-hit e.same y))
          (λ f. inl (moved-miss e f)))
          (λ r. absurd (omega (arith, r.passed))) (m i l h)

      pub retargeted-moved : TargetsMoved oh of nh nf (suc n) (retargeted_in oh of nh nf w i) u
      retargeted-moved j a b = at (ℕ_discrete j i)
        where
          at : Dec (j ≡ i) → Moved (suc n) j (now j) (target_in u j)
          at (yes e) = rw e moved-own
          at (no d) = rw (next-other oh of nh nf w i j d) (moved-next n j _ _ (omega arith) (m j a b))

  pub moved-start : (w : Wired)
      → ((i : ℕ) → 1 ≤ i → i < 64 → names_file (target_in w i) nh nf ≡ false)
      → TargetsMoved oh of nh nf 0 w w
  moved-start w none i l h =
      inl (record { same = refl; not_new = none i l h; not-old = λ p. absurd (omega arith) })
