-- A move that is given up after access 1 and before access 9, nobody having written to new: the saved
-- delivery written to old undoes it. No contract cites this file. Assumes nothing.
--   KeptFromNew m es   no page write of the shift es goes to new
--   Early n x y        n accesses having been made, 8 at most: x, in the shift with the move, and y, in the
--                      one without it, are as Beside has them after n accesses, or still as after 7; and
--                      their wired controllers are the same
--   Undone m b b'      b and b' are the same but for the file new
use Prim.Native.Nat.{ℕ, suc, ◌+◌, ◌≤◌, ◌<◌}
use mathlib.Core.Path.{◌≡◌, refl, sym, ap, subst, ◌∙◌}
use mathlib.Core.Bool.{true, false, cond, ◌||◌}
use mathlib.Core.List.{List, [], ◌∷◌}
use mathlib.Core.Logic.{◌≢◌, inl}
use native.Mathlib.Decide.{ℕ_discrete, dec_lt}
use native.Mathlib.Omega.{arith}
use lib.Dec.{eqb}
use lib.ListN.{get_or}
use Rattle.words.proofs.TestsLaws.{tested, and_both, not_same}
use Rattle.sizes.specs.Sizes.{identities, file_count}
use Rattle.file_select.specs.Select.{eidelivery}
use Rattle.file_select.proofs.SelectLaws.{legal-named}
use Rattle.file.specs.declared.File.{File}
use Rattle.file.specs.declared.register.Access.TheVariants.{Write}
use Rattle.file.specs.Parts.{with_delivery}
use Rattle.file.specs.Register.{accessed_at, accessed}
use Rattle.file.proofs.RegisterLaws.{written-legal}
use Rattle.files.specs.Files.{is_guest, the_file}
use Rattle.wired_state.specs.Wires.{Wired}
use Rattle.wired.specs.Controller.{wire_call}
use Rattle.board_move_steps.specs.Steps.{act_of, delivery_at}
use Rattle.board_move_files_laws.specs.Related.{Three, Related}
use Rattle.board_move_files_laws.proofs.TableLaws.{act-else}
use Rattle.board_move_files_laws.proofs.SelectEffects.{delivery-access}
use Rattle.board_move_files_laws.proofs.WrittenEffects.{large-sized}
use Rattle.board_move_files_laws.proofs.AccessEffects.{new-still}
use Rattle.board_move_files_laws.proofs.RelatedEffects.{related-undone}
use Rattle.board_move_wired_laws.proofs.StepThree.{target_in}
use Rattle.board_move_wired_laws.specs.Retargeted.{TargetsOnly, TargetsMoved}
use Rattle.board_block.specs.Block.{Board}
use Rattle.board_call.specs.declared.Call.{Call}
use Rattle.board_call.specs.declared.Call.TheVariants.{Wire, PageWrite}
use Rattle.board_call.specs.Change.{kind_of}
use Rattle.board_call.specs.Move.{Acted, acted}
use Rattle.board_call.specs.Outcome.{Stepped, step}
use Rattle.board_call.specs.Calls.{row_of}
use Rattle.board_call.specs.Refusal.{name_tests, name_refusal, name_refusal_by}
use Rattle.board_call.proofs.RefusalLaws.{numbers-name}
use Rattle.board_call_laws.specs.Fit.{Fit}
use Rattle.board_call_laws.specs.Small.{Small}
use Rattle.board_call_laws.proofs.StepEffects.{step-wire}
use Rattle.board_move_laws.proofs.MoveCallEffects.{guest-there}
use Rattle.board_move_laws.proofs.MoveEffects.{step_move}
use Rattle.board_runs.specs.Runs.{said_of, Lent, outcome_on, after, ran}
use Rattle.board_runs.specs.Ready.{board_in, Ready}
use Rattle.board_runs.specs.Reading.{only_reads}
use Rattle.board_runs.proofs.RunsEffects.{after-refused, ready-refusal, after-board, after-saved, ready-after}
use Rattle.board_runs.proofs.ReadingEffects.{after_read}
use Rattle.move_laws.specs.Shift.{Stations, Event, access_of, is_new, elsewhere, with_move, without_move}
use Rattle.move_laws.specs.Premises.{Started, TwoGuests, ByMessages, NoneNamesNew, accesses_in}
use Rattle.move_laws.specs.Premises.{CallsKept}
use Rattle.move_laws.specs.Moved.{old_number, new_number, old_in}
use Rattle.move_laws.specs.After.{FileCall, call_on}
use Rattle.move_laws.proofs.ActedEffects.{guest-is, guest-whole, acted-three, acted-others}
use Rattle.move_laws.proofs.ActedEffects.{acted-wired}
use Rattle.move_laws.proofs.Invariant.{move-there, new-lt, different, Middle}
use Rattle.move_laws.proofs.BesideEffects.{Beside, beside-wire, beside-page, beside-access}
use Rattle.move_laws.proofs.BesideEffects.{access-accepted}
use Rattle.move_laws.proofs.OnFileEffects.{said-done, file-done, rest-kept}
use Rattle.move_laws.proofs.OthersEffects.{elsewhere-on, beside-call}
use Rattle.move_laws.proofs.ShiftEffects.{lent_from, beside-start}

unfoldable pub KeptFromNew : Stations → List Event → Type 0
KeptFromNew m [] = Unit {0}
KeptFromNew m (Event.wire i level ∷ es) = KeptFromNew m es
KeptFromNew m (Event.page h f a v ∷ es) = (is_new m h f ≡ false) × KeptFromNew m es
KeptFromNew m (Event.access ∷ es) = KeptFromNew m es
KeptFromNew m (Event.call c ∷ es) = KeptFromNew m es

pub record Undone (m : Stations) (b b' : Board) : Type 0 where
  pub old : old_in m b ≡ old_in m b'
  pub others : (k : ℕ) → k < file_count → k ≢ old_number m → k ≢ new_number m
      → the_file b.files k ≡ the_file b'.files k
  pub wired : b.wired ≡ b'.wired

module _ (m : Stations) (g : TwoGuests m) where
  -- ---- an access before the first target

  module _ (n : ℕ) (b b' : Board) (s : List ℕ) (fit : Fit b) (early : n < 8) where
    abbrev moved : Acted
    moved = acted (act_of (suc n)) m.old_hart m.old_file m.new_hart m.new_file b s

    acted-still : moved.board.wired ≡ b.wired
    acted-still =
        acted-wired m.old_hart m.old_file m.new_hart m.new_file g.old g.new (different m g) b
        fit.shaped.many s (act_of (suc n))
        (act-else (suc n) (omega arith) (omega arith) (inl (omega arith)))

    -- accesses 5 to 8 leave what held before them
    middle-still : 4 ≤ n → Middle m g n b b' s → Middle m g n moved.board b' moved.saved
    middle-still low r =
        record {
          files =
              record {
                related =
                    subst (λ (x : Three). Related identities n x (the_file b'.files (old_number m)))
                    (sym (acted-three m.old_hart m.old_file m.new_hart m.new_file g.old g.new
                    (different m g) b fit.shaped.many s (act_of (suc n))))
                    (new-still identities n _ _ large-sized r.files.related low early
                    (fit.files (new_number m) (new-lt m g)));
                others = λ k h o w. acted-others m.old_hart m.old_file m.new_hart m.new_file g.old
                    g.new (different m g) b fit.shaped.many s (act_of (suc n)) k o w
                    ∙ r.files.others k h o w;
              };
          only = subst (λ (w : Wired). TargetsOnly w b'.wired) (sym acted-still) r.only;
          targets =
              subst (λ (w : Wired). TargetsMoved m.old_hart m.old_file m.new_hart m.new_file n w
              b'.wired) (sym acted-still) r.targets;
          messages = r.messages;
          genmsi = ap (λ (w : Wired). target_in w 0) acted-still ∙ r.genmsi;
        }

  module _ (n : ℕ) (x y : Lent) (r : Beside m g n x y) (early : n < 8) where
    abbrev next : Call
    next = access_of m (suc n)

    small : Small next
    unfolding row_of
    small = tt

    accepted : name_refusal next (board_in x) ≡ 0
    accepted = access-accepted m g n x y r (omega arith)

    stepped : step next (board_in x) x.saved
        ≡ (let z = moved n (board_in x) (board_in y) x.saved r.ready.fit early in
        record { board = z.board; value = 0; messages = []; saved = z.saved })
    stepped =
        step_move (board_in x) r.ready.fit m.old_hart m.old_file m.new_hart m.new_file (suc n)
        (move-there m g (suc n) (omega arith) (omega arith)) x.saved

    access-wired : (board_in (after next x)).wired ≡ (board_in x).wired
    access-wired =
        ap (λ (b : Board). b.wired) (after-board next x r.ready accepted small)
        ∙ ap (λ (z : Stepped). z.board.wired) stepped
        ∙ acted-still n (board_in x) (board_in y) x.saved r.ready.fit early

    access-still : 4 ≤ n → Beside m g n (after next x) y
    access-still low =
        record {
          ready = ready-after next x r.ready small;
          ready' = r.ready';
          middle =
              rw (
                after-board next x r.ready accepted small,
                after-saved next x r.ready accepted small,
                stepped,
              )
              (middle-still n (board_in x) (board_in y) x.saved r.ready.fit early low r.middle);
        }

  -- ---- every event

  pub record Early (n : ℕ) (x y : Lent) : Type 0 where
    pub made : ℕ
    pub few : made < 8
    pub some : 1 ≤ n → 1 ≤ made
    pub now : n < 8 → made ≡ n
    pub beside : Beside m g made x y
    pub wired : (board_in x).wired ≡ (board_in y).wired

  module _ (n : ℕ) (x y : Lent) (r : Early n x y) where
    -- an event that is no access
    goes : (x' y' : Lent) → Beside m g r.made x' y' → (board_in x').wired ≡ (board_in y').wired
        → Early n x' y'
    goes x' y' b w =
        record { made = r.made; few = r.few; some = r.some; now = r.now; beside = b; wired = w }

    early-wire : (i level : ℕ) → Early n (after (Wire i level) x) (after (Wire i level) y)
    early-wire i level =
        goes _ _ (beside-wire m g r.made x y r.beside i level)
        (at (ℕ_discrete (name_refusal c (board_in x)) 0))
      where
        c : Call
        c = Wire i level

        same : name_refusal (Wire i level) (board_in x) ≡ name_refusal (Wire i level) (board_in y)
        same = unfold name_refusal_by name_tests row_of in refl

        wired-done : (z : Lent) → Ready z → name_refusal (Wire i level) (board_in z) ≡ 0
            → (board_in (after (Wire i level) z)).wired ≡ (wire_call (board_in z).wired i (eqb level 1)).wired
        wired-done z ready e =
            ap (λ (b : Board). b.wired) (after-board (Wire i level) z ready e (unfold row_of in tt))
            ∙ ap (λ (s : Stepped). s.board.wired) (step-wire (board_in z) i level z.saved)

        at : Dec (name_refusal c (board_in x) ≡ 0) → (board_in (after c x)).wired ≡
            (board_in (after c y)).wired
        at (yes e) =
            wired-done x r.beside.ready e
            ∙ ap (λ (w : Wired). (wire_call w i (eqb level 1)).wired) r.wired
            ∙ sym (wired-done y r.beside.ready' (sym same ∙ e))
        at (no d) =
            rw (
              after-refused c x (λ q. d (sym (ready-refusal c x r.beside.ready) ∙ q)),
              after-refused c y (λ q. d (same ∙ sym (ready-refusal c y r.beside.ready') ∙ q)),
            )
            r.wired

    -- a call on one file of each
    on-wired : (h f h' f' : ℕ) (c : FileCall) → Small (call_on h f c) → Small (call_on h' f' c)
        → (board_in (after (call_on h f c) x)).wired ≡ (board_in (after (call_on h' f' c) y)).wired
    on-wired h f h' f' c small small' =
        (rest-kept h f x r.beside.ready c small).0 ∙ r.wired
        ∙ sym (rest-kept h' f' y r.beside.ready' c small').0

    early-page : (h f a v : ℕ) → is_new m h f ≡ false
        → Early n (after (PageWrite h f a v) x)
        (after (PageWrite (cond (is_new m h f) m.old_hart h) (cond (is_new m h f) m.old_file f) a v) y)
    early-page h f a v away =
        let few = r.few in
        goes _ _
        (beside-page m g r.made x y r.beside h f a v (λ t. absurd (not_same _ t away))
        (λ t. omega arith))
        (on-wired h f _ _ (FileCall.page_write a v) (unfold row_of in tt) (unfold row_of in tt))

    early-call : (c : Call) → (only_reads c || elsewhere m c) ≡ true → Small c
        → Early n (after c x) (after c y)
    early-call c e small =
        goes _ _ (beside-call m g r.made x y r.beside c e small)
        (tested (only_reads c) (λ t. rw (after_read c x t, after_read c y t) r.wired)
        (λ q. let on = elsewhere-on m c q (rw q at e) in
        subst (λ (u : Call). (board_in (after u x)).wired ≡ (board_in (after u y)).wired) (sym on.is)
        (on-wired on.h on.f on.h on.f on.d (subst Small on.is small)
        (subst Small on.is small))))

    early-access : n < 8 → Early (suc n) (after (access_of m (suc n)) x) y
    early-access h = at (dec_lt n 7)
      where
        was : Beside m g n x y
        was = subst (λ (k : ℕ). Beside m g k x y) (r.now h) r.beside

        at : Dec (n < 7) → Early (suc n) (after (access_of m (suc n)) x) y
        at (yes l) =
            record {
              made = suc n;
              few = omega arith;
              some = λ q. omega arith;
              now = λ q. refl;
              beside = beside-access m g n x y was (omega arith);
              wired = access-wired n x y was h ∙ r.wired;
            }
        at (no l) =
            record {
              made = n;
              few = h;
              some = λ q. omega arith;
              now = λ q. absurd (omega arith);
              beside = access-still n x y was h (omega arith);
              wired = access-wired n x y was h ∙ r.wired;
            }

  module _ (t : ℕ) (few : t ≤ 8) where
    early-run : (es : List Event) (n : ℕ) (x y : Lent) → Early n x y → n + accesses_in es ≡ t
        → KeptFromNew m es → CallsKept m es
        → Early t (ran (with_move m n es) x) (ran (without_move m es) y)
    unfolding ran with_move without_move accesses_in KeptFromNew CallsKept
    early-run [] n x y r e p q = subst (λ (k : ℕ). Early k x y) (omega arith) r
    early-run (Event.wire i level ∷ es) n x y r e p q = early-run es n _ _ (early-wire n x y r i level) e p q
    early-run (Event.page h f a v ∷ es) n x y r e p q =
        early-run es n _ _ (early-page n x y r h f a v p.0) e p.1 q
    early-run (Event.access ∷ es) n x y r e p q =
        early-run es (suc n) _ _ (early-access n x y r (omega arith)) (omega arith) p q
    early-run (Event.call c ∷ es) n x y r e p q =
        early-run es n _ _ (early-call n x y r c q.0 q.1) e p q.2

  -- ---- the write that undoes it

  module _ (n : ℕ) (x y : Lent) (r : Early n x y) (begun : 1 ≤ n) where
    abbrev write : FileCall
    write = FileCall.register 1 eidelivery (get_or x.saved delivery_at 0)

    abbrev undoing : Call
    undoing = call_on m.old_hart m.old_file write

    undoing-small : Small undoing
    unfolding row_of
    undoing-small = r.beside.ready.saved delivery_at

    undoing-accepted : name_refusal undoing (board_in x) ≡ 0
    unfolding row_of
    undoing-accepted =
        numbers-name (row_of undoing).tests (board_in x)
        (and_both _ _ (guest-there m.old_hart m.old_file g.old) refl) refl
        (legal-named eidelivery (omega arith) (omega arith))

    pub undoing-said : (said_of (outcome_on undoing x)).number ≡ 0
    undoing-said =
        ap (λ z. z.number)
        (said-done m.old_hart m.old_file x r.beside.ready write undoing-accepted)

    -- the write of a legal delivery to a guest's file
    writes : (f : File) (v : ℕ) → v ≡ (old_in m (board_in y)).delivery
        → (accessed identities (is_guest (old_number m)) f (kind_of 1) eidelivery v).file ≡ with_delivery f v
    unfolding kind_of accessed_at
    writes f v e =
        rw (guest-is m.old_hart m.old_file g.old, delivery-access identities true f Write v)
        (written-legal identities true f v
        (rw e (guest-whole m.old_hart m.old_file g.old (board_in y) r.beside.ready'.fit).rules.legal))

    pub undoing-leaves : Undone m (board_in (after undoing x)) (board_in y)
    undoing-leaves =
        let b = r.beside in
        let related = b.middle.files.related in
        let rest = rest-kept m.old_hart m.old_file x b.ready write undoing-small in
        record {
          old =
              file-done m.old_hart m.old_file x b.ready write undoing-accepted undoing-small
              ∙ writes (old_in m (board_in x)) _ (related.noted.delivery (r.some begun))
              ∙ related-undone identities r.made _ _ large-sized
              (guest-whole m.old_hart m.old_file g.old (board_in x) b.ready.fit)
              (guest-whole m.old_hart m.old_file g.old (board_in y) b.ready'.fit)
              (r.some begun) r.few related;
          others = λ k h o w. rest.1 k o ∙ b.middle.files.others k h o w;
          wired = rest.0 ∙ r.wired;
        }

-- ---- from the start

pub move-early : (m : Stations) (l s : List ℕ) (es : List Event) (n : ℕ) → Started l s → (g : TwoGuests m)
    → ByMessages l → NoneNamesNew m l → accesses_in es ≡ n → n ≤ 8 → KeptFromNew m es → CallsKept m es
    → Early m g n (ran (with_move m 0 es) (lent_from l s)) (ran (without_move m es) (lent_from l s))
move-early m l s es n started g messages fresh made few away calls =
    early-run m g n few es 0 _ _
    (record {
      made = 0;
      few = omega arith;
      some = λ q. q;
      now = λ q. refl;
      beside = beside-start m l s started g messages fresh;
      wired = refl;
    })
    (omega arith) away calls
