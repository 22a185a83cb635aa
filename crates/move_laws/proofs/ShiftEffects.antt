-- The two runs side by side, event after event: what they leave, what the accesses answer, and what the calls
-- on other files answer. After the last access the new file is the old one of the run without the move. No
-- contract cites this file. Assumes nothing.
--   lent_from l s    the block l, a log of zeros, and the saved numbers s: where both runs begin
use Prim.Native.Nat.{ℕ, suc, ◌+◌, ◌≤◌}
use mathlib.Core.Path.{◌≡◌, refl, sym, ap, ap₂, subst, ◌∙◌}
use mathlib.Core.Bool.{Bool, true, false, cond}
use mathlib.Core.List.{List, [], ◌∷◌}
use mathlib.Core.Logic.{◌⊎◌, inl, inr}
use native.Mathlib.Omega.{arith}
use borrow.Author.Tests.{eq-eqb}
use lib.ListN.{replicate, length-replicate}
use Rattle.words.proofs.TestsLaws.{tested, not_same}
use Rattle.sizes.specs.Sizes.{identities, log_size, source_count}
use Rattle.domain.specs.Domain.{Domain, genmsi_of}
use Rattle.domain.specs.Slot.{source_at}
use Rattle.wired_state.specs.Wires.{Wired, domain_in}
use Rattle.board_move_steps.specs.Names.{names_file, renamed}
use Rattle.board_move_steps.specs.Steps.{accesses}
use Rattle.board_move_files_laws.proofs.WrittenEffects.{large-sized}
use Rattle.board_move_files_laws.proofs.RelatedEffects.{related-start, related-end}
use Rattle.board_move_wired_laws.specs.Retargeted.{Same, Rewritten}
use Rattle.board_move_wired_laws.proofs.StepThree.{named-active, only-start, moved-start}
use Rattle.board_call.specs.declared.Call.{Call}
use Rattle.board_call.specs.declared.Call.TheVariants.{PageWrite}
use Rattle.board_call.specs.Calls.{row_of}
use Rattle.board_call_laws.proofs.FitEffects.{fit-block, fit-steady}
use Rattle.board_move_laws.proofs.MoveEffects.{guest-low}
use Rattle.board_runs.specs.Runs.{Said, said_of, said_where, Lent, outcome_on, after, ran, handing}
use Rattle.board_runs.specs.Handed.{is_access}
use Rattle.board_runs.specs.Ready.{board_in, Ready}
use Rattle.move_laws.specs.Shift.{Stations, Event, is_old, is_new, elsewhere, with_move, without_move}
use Rattle.move_laws.specs.Premises.{Started, TwoGuests, ByMessages, NoneNamesNew, accesses_in}
use Rattle.move_laws.specs.Premises.{AllAccesses, PagesKept, CallsKept, Premises}
use Rattle.move_laws.specs.Moved.{Moved}
use Rattle.move_laws.proofs.ActedEffects.{guest-whole}
use Rattle.move_laws.proofs.BesideEffects.{Beside, beside-wire, beside-page, beside-access}
use Rattle.move_laws.proofs.BesideEffects.{access-said}
use Rattle.move_laws.proofs.OthersEffects.{kept-no-access, other-said, beside-call}

-- ---- every event of a shift

-- what an access answers
abbrev pub nothing : Said
nothing = record { number = 0; value = 0; count = 0 }

module _ (m : Stations) (g : TwoGuests m) where
  -- k accesses are made in all
  beside-run : (es : List Event) (k n : ℕ) (x y : Lent) → Beside m g n x y → n + accesses_in es ≡ k
      → k ≤ accesses → PagesKept m n es → CallsKept m es
      → Beside m g k (ran (with_move m n es) x) (ran (without_move m es) y)
  unfolding ran with_move without_move accesses_in PagesKept CallsKept
  beside-run [] k n x y r e u p q = subst (λ (i : ℕ). Beside m g i x y) (omega arith) r
  beside-run (Event.wire i level ∷ es) k n x y r e u p q =
      beside-run es k n _ _ (beside-wire m g n x y r i level) e u p q
  beside-run (Event.page h f a v ∷ es) k n x y r e u p q =
      beside-run es k n _ _ (beside-page m g n x y r h f a v p.0 p.1) e u p.2 q
  beside-run (Event.access ∷ es) k n x y r e u p q =
      beside-run es k (suc n) _ _ (beside-access m g n x y r (omega arith)) (omega arith) u p q
  beside-run (Event.call c ∷ es) k n x y r e u p q =
      beside-run es k n _ _ (beside-call m g n x y r c q.0 q.1) e u p q.2

  -- every access is done, and answers 0 and 0
  done-run : (es : List Event) (n : ℕ) (x y : Lent) → Beside m g n x y → n + accesses_in es ≡ accesses
      → PagesKept m n es → CallsKept m es
      → said_where is_access (handing (with_move m n es) x) x.block ≡ replicate (accesses_in es) nothing
  unfolding accesses_in PagesKept CallsKept with_move handing said_where after is_access row_of
  done-run [] n x y r e p q = refl
  done-run (Event.wire i level ∷ es) n x y r e p q =
      done-run es n _ _ (beside-wire m g n x y r i level) e p q
  done-run (Event.page h f a v ∷ es) n x y r e p q =
      done-run es n _ _ (beside-page m g n x y r h f a v p.0 p.1) e p.2 q
  done-run (Event.access ∷ es) n x y r e p q =
      ap₂ (λ (s : Said) (ss : List Said). s ∷ ss) (access-said m g n x y r (omega arith))
      (done-run es (suc n) _ _ (beside-access m g n x y r (omega arith)) (omega arith) p q)
  done-run (Event.call c ∷ es) n x y r e p q =
      rw (kept-no-access m c q.0) (done-run es n _ _ (beside-call m g n x y r c q.0 q.1) e p q.2)

  -- one call on each, and then the others
  pub said-cons : (p : Call → Bool) (c c' : Call) (cs cs' : List Call) (x y : Lent) → p c ≡ p c'
      → (p c ≡ true → said_of (outcome_on c x) ≡ said_of (outcome_on c' y))
      → said_where p (handing cs (after c x)) (after c x).block
      ≡ said_where p (handing cs' (after c' y)) (after c' y).block
      → said_where p (handing (c ∷ cs) x) x.block ≡ said_where p (handing (c' ∷ cs') y) y.block
  unfolding handing said_where after
  said-cons p c c' cs cs' x y e said rest =
      tested (p c) (λ t. rw (sym e, t) (ap₂ (λ (s : Said) (ss : List Said). s ∷ ss) (said t) rest))
      (λ u. rw (sym e, u) rest)

  module _ (h f a v : ℕ) where
    abbrev there : Call
    there = PageWrite (cond (is_new m h f) m.old_hart h) (cond (is_new m h f) m.old_file f) a v

    -- a page write that is not to new is the same in both
    page-there : is_new m h f ≡ false → there ≡ PageWrite h f a v
    page-there u =
        ap₂ (λ i j. PageWrite i j a v) (ap (λ (b : Bool). cond b m.old_hart h) u)
        (ap (λ (b : Bool). cond b m.old_file f) u)

    -- one to new here is one to old there, and neither is elsewhere
    page-new : is_new m h f ≡ true → (elsewhere m (PageWrite h f a v) ≡ false) × (elsewhere m there ≡ false)
    unfolding elsewhere
    page-new t = (
      rw t (tested (is_old m h f) (λ o. rw o refl) (λ o. rw o refl)),
      rw (t, eq-eqb m.old_hart m.old_hart refl, eq-eqb m.old_file m.old_file refl) refl,
    )

    page-elsewhere : elsewhere m (PageWrite h f a v) ≡ elsewhere m there
    page-elsewhere =
        tested (is_new m h f) (λ t. (page-new t).0 ∙ sym (page-new t).1) (λ u. ap (elsewhere m)
        (sym (page-there u)))

    page-said : (n : ℕ) (x y : Lent) → Beside m g n x y → elsewhere m (PageWrite h f a v) ≡ true
        → said_of (outcome_on (PageWrite h f a v) x) ≡ said_of (outcome_on there y)
    page-said n x y r e =
        tested (is_new m h f) (λ t. absurd (not_same _ e (page-new t).0))
        (λ u. other-said m g n x y r (PageWrite h f a v) e
        ∙ ap (λ (c : Call). said_of (outcome_on c y)) (sym (page-there u)))

  -- a call on a file that is neither old nor new answers the same in both
  said-run : (es : List Event) (n : ℕ) (x y : Lent) → Beside m g n x y → n + accesses_in es ≡ accesses
      → PagesKept m n es → CallsKept m es
      → said_where (elsewhere m) (handing (with_move m n es) x) x.block
      ≡ said_where (elsewhere m) (handing (without_move m es) y) y.block
  unfolding accesses_in PagesKept CallsKept with_move without_move handing said_where after elsewhere
  said-run [] n x y r e p q = refl
  said-run (Event.wire i level ∷ es) n x y r e p q =
      said-run es n _ _ (beside-wire m g n x y r i level) e p q
  said-run (Event.page h f a v ∷ es) n x y r e p q =
      said-cons (elsewhere m) (PageWrite h f a v) (there h f a v) (with_move m n es) (without_move m es) x y
      (page-elsewhere h f a v)
      (page-said h f a v n x y r)
      (said-run es n _ _ (beside-page m g n x y r h f a v p.0 p.1) e p.2 q)
  said-run (Event.access ∷ es) n x y r e p q =
      said-run es (suc n) _ _ (beside-access m g n x y r (omega arith)) (omega arith) p q
  said-run (Event.call c ∷ es) n x y r e p q =
      said-cons (elsewhere m) c c (with_move m n es) (without_move m es) x y refl (other-said m g n x y r c)
      (said-run es n _ _ (beside-call m g n x y r c q.0 q.1) e p q.2)

  -- ---- after the last access

  -- what is the same in the machine domain, and in the child, is the same in both
  pub each : {A : Type 0} (p : Domain → A) (w u : Wired) → p w.machine ≡ p u.machine
      → p w.child ≡ p u.child
      → (c : Bool) → p (domain_in w c) ≡ p (domain_in u c)
  unfolding domain_in
  each p w u machine child true = child
  each p w u machine child false = machine

  -- every turn has passed: a target that named old names new, and every other is as it was
  target-end : (i t t' : ℕ) → i ≤ source_count
      → Same m.old_hart m.old_file m.new_hart m.new_file accesses i t t'
      ⊎ Rewritten m.old_hart m.old_file m.new_hart m.new_file accesses i t t'
      → (names_file t' m.old_hart m.old_file ≡ true → t ≡ renamed t' m.new_hart m.new_file)
      × (names_file t' m.old_hart m.old_file ≡ false → t ≡ t')
  target-end i t t' h (inl q) = ((λ e. absurd (not_same _ e (q.not-old (omega arith)))), (λ e. q.same))
  target-end i t t' h (inr q) = ((λ e. q.now-new), (λ e. absurd (not_same _ q.was-old e)))

  pub beside_end : (x y : Lent) → Beside m g accesses x y → Moved m (board_in x) (board_in y)
  beside_end x y r =
      let files = r.middle.files in
      let only = r.middle.only in
      let w = (board_in x).wired in
      let u = (board_in y).wired in
      record {
        station =
            related-end identities _ _ large-sized
            (guest-whole m.new_hart m.new_file g.new (board_in x) r.ready.fit)
            (guest-whole m.old_hart m.old_file g.old (board_in y) r.ready'.fit) files.related;
        others = files.others;
        wires = only.wires;
        pending =
            each (λ d. d.pending) w u (ap (λ (d : Domain). d.pending) only.machine) only.pending;
        enable = each (λ d. d.enable) w u (ap (λ (d : Domain). d.enable) only.machine) only.enable;
        machine = only.machine;
        sources = only.source;
        structures = only.delivery;
        targets = λ i l h. target-end i _ _ h (r.middle.targets i l (omega arith));
        genmsi = unfold genmsi_of source_at in r.middle.genmsi;
      }

-- ---- the start

abbrev pub lent_from : List ℕ → List ℕ → Lent
lent_from l s = record { block = l; log = replicate log_size 0; saved = s }

pub started-ready : (l s : List ℕ) → Started l s → Ready (lent_from l s)
started-ready l s p =
    record {
      long = p.block;
      full = length-replicate {A = ℕ} log_size 0;
      fit = fit-block l p.block p.words p.rules;
      saved = p.saved-fit;
    }

module _ (m : Stations) (l s : List ℕ) (started : Started l s) (g : TwoGuests m) (messages : ByMessages l)
    (fresh : NoneNamesNew m l) where
  pub beside-start : Beside m g 0 (lent_from l s) (lent_from l s)
  unfolding ByMessages NoneNamesNew
  beside-start =
      let ready = started-ready l s started in
      let w = (board_in (lent_from l s)).wired in
      record {
        ready = ready;
        ready' = ready;
        middle =
            record {
              files =
                  record {
                    related = related-start identities _ _ s started.saved-long;
                    others = λ k h o n. refl;
                  };
              only = only-start w;
              targets = moved-start m.old_hart m.old_file m.new_hart m.new_file w
                  (λ i a h. tested _ (λ t. absurd (not_same _ t (fresh i a (omega arith)
                  (named-active m.new_hart m.new_file 0 0 w i
                  (fit-steady (board_in (lent_from l s)) ready.fit) a h
                  (guest-low _ _ g.new) t)))) (λ f. f));
              messages = messages;
              genmsi = refl;
            };
      }

-- both runs in the middle of a move
pub moment : (m : Stations) (l s : List ℕ) (es : List Event) → Started l s → (g : TwoGuests m) → ByMessages l
    → NoneNamesNew m l → accesses_in es ≤ accesses → PagesKept m 0 es → CallsKept m es
    → Beside m g (accesses_in es) (ran (with_move m 0 es) (lent_from l s))
    (ran (without_move m es) (lent_from l s))
moment m l s es started g messages fresh few pages calls =
    beside-run m g es (accesses_in es) 0 _ _ (beside-start m l s started g messages fresh) (omega arith) few
    pages calls

module _ (m : Stations) (l s : List ℕ) (es : List Event) (p : Premises m l s es) where
  begun : Beside m p.guests 0 (lent_from l s) (lent_from l s)
  begun = beside-start m l s p.started p.guests p.messages p.fresh

  all_made : 0 + accesses_in es ≡ accesses
  unfolding AllAccesses
  all_made = omega (arith, p.all)

  -- both runs at the end of the shift
  pub move-beside : Beside m p.guests accesses (ran (with_move m 0 es) (lent_from l s))
      (ran (without_move m es) (lent_from l s))
  move-beside = beside-run m p.guests es accesses 0 _ _ begun all_made (omega arith) p.pages p.calls

  pub move-keeps : Moved m (board_in (ran (with_move m 0 es) (lent_from l s)))
      (board_in (ran (without_move m es) (lent_from l s)))
  move-keeps = beside_end m p.guests _ _ move-beside

  pub move-done : said_where is_access (handing (with_move m 0 es) (lent_from l s)) l
      ≡ replicate accesses nothing
  unfolding AllAccesses
  move-done =
      done-run m p.guests es 0 _ _ begun all_made p.pages p.calls
      ∙ ap (λ (n : ℕ). replicate n nothing) p.all

  pub move-others : said_where (elsewhere m) (handing (with_move m 0 es) (lent_from l s)) l
      ≡ said_where (elsewhere m) (handing (without_move m es) (lent_from l s)) l
  move-others = said-run m p.guests es 0 _ _ begun all_made p.pages p.calls
