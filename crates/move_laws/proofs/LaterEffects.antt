-- The rest of the shift, after the move: the new file goes on as the old one would have, whatever wires, page
-- writes and calls come, and every call answers the same. No contract cites this file. Assumes nothing.
--   Goes x y    x, after the move, and y, where there was none: both are ready for a call, new of x is old of
--               y, every other file is the same, and so are the controllers but for targets that now name new
use Prim.Native.Nat.{ℕ, ◌<◌}
use mathlib.Core.Path.{◌≡◌, refl, sym, ap, ap₂, subst, ◌∙◌}
use mathlib.Core.Bool.{Bool, true, false, cond}
use mathlib.Core.List.{List, [], ◌∷◌}
use mathlib.Core.Logic.{◌≢◌, ◌⊎◌, ⊎_elim}
use native.Mathlib.Decide.{ℕ_discrete}
use native.Mathlib.Omega.{arith}
use lib.Dec.{eqb}
use lib.ListN.{length}
use Rattle.words.proofs.TestsLaws.{tested}
use Rattle.sizes.specs.Sizes.{identities, file_count}
use Rattle.file.specs.declared.File.{File}
use Rattle.file.specs.Page.{arrived}
use Rattle.files.specs.Files.{file_number, is_guest, the_file}
use Rattle.files.proofs.FilesLaws.{the_file-with_file-same, the_file-with_file-other}
use Rattle.wired_state.specs.Wires.{Wired}
use Rattle.wired.specs.Controller.{wire_call}
use Rattle.board_move_steps.specs.Steps.{accesses}
use Rattle.board_move_wired_laws.specs.Retargeted.{TargetsOnly, TargetsMoved}
use Rattle.board_move_wired_laws.proofs.WireRelated.{wire-related, targets-wire, wire-moved}
use Rattle.board_call.specs.declared.Call.{Call}
use Rattle.board_call.specs.declared.Call.TheVariants.{Wire, PageWrite}
use Rattle.board_call.specs.Calls.{row_of}
use Rattle.board_call.specs.Numbers.{is_wire}
use Rattle.board_call.specs.Outcome.{Stepped, done_as}
use Rattle.board_call.specs.Refusal.{name_tests, name_refusal, name_refusal_by}
use Rattle.board_call.proofs.RefusalLaws.{accepted-present}
use Rattle.board_call_laws.specs.Small.{Small}
use Rattle.board_call_laws.proofs.FileCallEffects.{file-lt}
use Rattle.board_call_laws.proofs.FitEffects.{fit-steady}
use Rattle.board_call_laws.proofs.OutcomeEffects.{outcome-refused, outcome-done}
use Rattle.board_call_laws.proofs.StepEffects.{sound-quiet, step-wire, wired_step}
use Rattle.board_call_laws.proofs.WiredCallEffects.{wire-low, wire-high}
use Rattle.board_runs.specs.Runs.{said_of, said_where, Lent, outcome_on, after, ran, handing}
use Rattle.board_runs.specs.Ready.{board_in, Ready}
use Rattle.board_runs.proofs.RunsEffects.{after-refused, ready-refusal, after-board, ready-after}
use Rattle.move_laws.specs.Shift.{Stations, is_old, is_new, is_neither}
use Rattle.move_laws.specs.Premises.{TwoGuests}
use Rattle.move_laws.specs.Moved.{old_number, new_number, old_in, new_in}
use Rattle.move_laws.specs.After.{FileCall, call_on, Later, then_here, then_there, LaterKept}
use Rattle.move_laws.proofs.ArrivalEffects.{arrived_at}
use Rattle.move_laws.proofs.Invariant.{identities_at, new-parts, old-lt, new-lt}
use Rattle.move_laws.proofs.Invariant.{wire-comes}
use Rattle.move_laws.proofs.OnFileEffects.{leaves, small-on, there-on}
use Rattle.move_laws.proofs.OnFileEffects.{file-done, rest-kept}
use Rattle.move_laws.proofs.ElseEffects.{not-old, not_new, same, alike, on-said}
use Rattle.move_laws.proofs.AfterEffects.{said_same, file-same}
use Rattle.move_laws.proofs.BesideEffects.{Beside}
use Rattle.move_laws.proofs.ShiftEffects.{said-cons, beside_end}

module _ (m : Stations) (g : TwoGuests m) where
  pub record Goes (x y : Lent) : Type 0 where
    pub ready : Ready x
    pub ready' : Ready y
    pub station : new_in m (board_in x) ≡ old_in m (board_in y)
    pub others : (k : ℕ) → k < file_count → k ≢ old_number m → k ≢ new_number m
        → the_file (board_in x).files k ≡ the_file (board_in y).files k
    pub only : TargetsOnly (board_in x).wired (board_in y).wired
    pub targets : TargetsMoved m.old_hart m.old_file m.new_hart m.new_file accesses
        (board_in x).wired (board_in y).wired

  -- two controllers that have not changed
  abbrev Wireds : Wired → Wired → Type 0
  Wireds w u = TargetsOnly w u × TargetsMoved m.old_hart m.old_file m.new_hart m.new_file accesses w u

  module _ (x y : Lent) (r : Goes x y) where
    wireds : (w u : Wired) → w ≡ (board_in x).wired → u ≡ (board_in y).wired → Wireds w u
    wireds w u e e' =
        subst (λ (a : Wired). Wireds a u) (sym e)
        (subst (λ (a : Wired). Wireds (board_in x).wired a) (sym e') (r.only, r.targets))

    -- ---- the station's own calls

    own-said : (c : FileCall)
        → said_of (outcome_on (call_on m.new_hart m.new_file c) x)
        ≡ said_of (outcome_on (call_on m.old_hart m.old_file c) y)
    own-said c = said_same m g x y r.ready r.ready' r.station c

    goes-own : (c : FileCall) → Small (call_on 0 0 c)
        → Goes (after (call_on m.new_hart m.new_file c) x) (after (call_on m.old_hart m.old_file c) y)
    goes-own c small =
        let here = small-on m.new_hart m.new_file c small in
        let there = small-on m.old_hart m.old_file c small in
        let rest = rest-kept m.new_hart m.new_file x r.ready c here in
        let rest' = rest-kept m.old_hart m.old_file y r.ready' c there in
        let same = wireds _ _ rest.0 rest'.0 in
        record {
          ready = ready-after _ x r.ready here;
          ready' = ready-after _ y r.ready' there;
          station = file-same m g x y r.ready r.ready' r.station c small;
          others = λ k h o n. rest.1 k n ∙ r.others k h o n ∙ sym (rest'.1 k o);
          only = same.0;
          targets = same.1;
        }

    -- ---- a call on another file

    module _ (h f : ℕ) (d : FileCall) (neither : is_neither m h f ≡ true) where
      abbrev c : Call
      c = call_on h f d

      abbrev k : ℕ
      k = file_number h f

      goes_other : Small (call_on 0 0 d) → Goes (after c x) (after c y)
      goes_other tiny = at (ℕ_discrete (name_refusal c (board_in x)) 0)
        where
          small : Small c
          small = small-on h f d tiny

          at : Dec (name_refusal c (board_in x) ≡ 0) → Goes (after c x) (after c y)
          at (no q) =
              rw (
                after-refused c x (λ z. q (sym (ready-refusal c x r.ready) ∙ z)),
                after-refused c y (λ z. q (same m g x y r.ready r.ready' r.others h f d neither ∙ sym
                    (ready-refusal c y r.ready') ∙ z)),
              )
              r
          at (yes e) =
              let low = file-lt h f (there-on h f d (board_in x) e) in
              let rest = rest-kept h f x r.ready d small in
              let rest' = rest-kept h f y r.ready' d small in
              let whole = wireds _ _ rest.0 rest'.0 in
              record {
                ready = ready-after c x r.ready small;
                ready' = ready-after c y r.ready' small;
                station =
                    rest.1 (new_number m) (λ q. not_new m g x y r.ready r.ready' r.others h f d
                    neither low (sym q)) ∙ r.station
                    ∙ sym (rest'.1 (old_number m) (λ q. not-old m g x y r.ready r.ready' r.others h f
                    d neither low (sym q)));
                others = λ j l o n. file j l o n (ℕ_discrete j k);
                only = whole.0;
                targets = whole.1;
              }
            where
              file : (j : ℕ) → j < file_count → j ≢ old_number m → j ≢ new_number m → Dec (j ≡ k)
                  → the_file (board_in (after c x)).files j ≡ the_file (board_in (after c y)).files j
              file j l o n (yes q) =
                  rw q (file-done h f x r.ready d e small ∙ ap (leaves identities (is_guest k) d)
                  (alike m g x y r.ready r.ready' r.others h f d neither e)
                  ∙ sym (file-done h f y r.ready' d (sym
                  (same m g x y r.ready r.ready' r.others h f d neither) ∙ e) small))
              file j l o n (no q) =
                  (rest-kept h f x r.ready d small).1 j q ∙ r.others j l o n
                  ∙ sym ((rest-kept h f y r.ready' d small).1 j q)

    -- ---- a wire

    abbrev SameFiles : List File → List File → Type 0
    SameFiles fs gs =
        (the_file fs (new_number m) ≡ the_file gs (old_number m))
        × ((k : ℕ) → k < file_count → k ≢ old_number m → k ≢ new_number m → the_file fs k ≡ the_file gs k)

    come-new : (i : ℕ) → SameFiles (arrived_at identities_at (board_in x).files (new_number m) i)
        (arrived_at identities_at (board_in y).files (old_number m) i)
    come-new i = (
      the_file-with_file-same (board_in x).files (new_number m) _
          (omega (arith, r.ready.fit.shaped.many, new-lt m g))
          ∙ ap (λ (z : File). arrived identities z i) r.station
          ∙ sym (the_file-with_file-same (board_in y).files (old_number m) _
          (omega (arith, r.ready'.fit.shaped.many, old-lt m g))),
      (λ k h o n. the_file-with_file-other (board_in x).files (new_number m) _ k n ∙ r.others k h o n
          ∙ sym (the_file-with_file-other (board_in y).files (old_number m) _ k o)),
    )

    come-same : (k i : ℕ) → k < file_count → k ≢ new_number m → (k ≡ old_number m → accesses < 72)
        → SameFiles (arrived_at identities_at (board_in x).files k i)
        (arrived_at identities_at (board_in y).files k i)
    come-same k i h not_the_new never =
        let not_old : k ≢ old_number m = λ q. omega (arith, never q) in (
          the_file-with_file-other (board_in x).files k _ (new_number m) (λ q. not_the_new (sym q))
              ∙ r.station
              ∙ sym (the_file-with_file-other (board_in y).files k _ (old_number m) (λ q. not_old (sym q))),
          (λ j l o n. file not_old j l o n (ℕ_discrete j k)),
        )
      where
        file : k ≢ old_number m → (j : ℕ) → j < file_count → j ≢ old_number m → j ≢ new_number m → Dec (j ≡ k)
            → the_file (arrived_at identities_at (board_in x).files k i) j
            ≡ the_file (arrived_at identities_at (board_in y).files k i) j
        file not_old j l o n (yes q) =
            rw q (the_file-with_file-same (board_in x).files k _ (omega (arith, r.ready.fit.shaped.many))
            ∙ ap (λ (z : File). arrived identities z i) (r.others k h not_old not_the_new)
            ∙ sym (the_file-with_file-same (board_in y).files k _
            (omega (arith, r.ready'.fit.shaped.many))))
        file not_old j l o n (no q) =
            the_file-with_file-other (board_in x).files k _ j q ∙ r.others j l o n
            ∙ sym (the_file-with_file-other (board_in y).files k _ j q)

    module _ (i level : ℕ) where
      abbrev w : Call
      w = Wire i level

      wire-same : name_refusal w (board_in x) ≡ name_refusal w (board_in y)
      wire-same = unfold name_refusal_by name_tests row_of in refl

      wire-small : Small w
      wire-small = unfold row_of in tt

      module _ (e : name_refusal w (board_in x) ≡ 0) where
        there : is_wire i level ≡ true
        there = unfold row_of in accepted-present (row_of w).tests (board_in x) e

        files : SameFiles (wired_step (board_in x) (wire_call (board_in x).wired i (eqb level 1)) 0 x.saved
            ).board.files
            (wired_step (board_in y) (wire_call (board_in y).wired i (eqb level 1)) 0 y.saved).board.files
        files =
            wire-comes m g accesses (board_in x) (board_in y) r.ready.fit r.ready'.fit r.only
            r.targets SameFiles (r.station, r.others) (λ j h. come-new j) come-same i
            (wire-low i level there) (wire-high i level there) (eqb level 1)

        wire-counts : length (wire_call (board_in x).wired i (eqb level 1)).messages
            ≡ length (wire_call (board_in y).wired i (eqb level 1)).messages
        wire-counts =
            ⊎_elim (λ q. rw (q.0, q.1) refl)
            (⊎_elim (λ q. rw (q.0, q.1) refl) (λ q. rw (q.0.0, q.0.1) refl))
            (wire-moved r.only (fit-steady (board_in x) r.ready.fit)
            (sound-quiet (board_in x) r.ready.fit.sound) (fit-steady (board_in y) r.ready'.fit)
            (sound-quiet (board_in y) r.ready'.fit.sound) i (wire-low i level there)
            (wire-high i level there) (eqb level 1) m.old_hart m.old_file m.new_hart m.new_file
            accesses r.targets)

      wire-said : said_of (outcome_on w x) ≡ said_of (outcome_on w y)
      wire-said = at (ℕ_discrete (name_refusal w (board_in x)) 0)
        where
          at : Dec (name_refusal w (board_in x) ≡ 0) → said_of (outcome_on w x) ≡ said_of (outcome_on w y)
          at (yes e) =
              ap said_of (outcome-done w x.block x.log x.saved (ready-refusal w x r.ready ∙ e))
              ∙ ap (λ (s : Stepped). said_of (done_as s x.log)) (step-wire (board_in x) i level x.saved)
              ∙ ap (λ (n : ℕ). record { number = 0; value = 0; count = n }) (wire-counts e)
              ∙ sym (ap said_of (outcome-done w y.block y.log y.saved
              (ready-refusal w y r.ready' ∙ sym wire-same ∙ e))
              ∙ ap (λ (s : Stepped). said_of (done_as s y.log)) (step-wire (board_in y) i level y.saved))
          at (no q) =
              ap said_of (outcome-refused w x.block x.log x.saved _ (ready-refusal w x r.ready) q)
              ∙ ap (λ (n : ℕ). record { number = n; value = 0; count = 0 }) wire-same
              ∙ sym (ap said_of (outcome-refused w y.block y.log y.saved _
              (ready-refusal w y r.ready') (λ z. q (wire-same ∙ z))))

      goes-wire : Goes (after w x) (after w y)
      goes-wire = at (ℕ_discrete (name_refusal w (board_in x)) 0)
        where
          at : Dec (name_refusal w (board_in x) ≡ 0) → Goes (after w x) (after w y)
          at (no q) =
              rw (
                after-refused w x (λ z. q (sym (ready-refusal w x r.ready) ∙ z)),
                after-refused w y (λ z. q (wire-same ∙ sym (ready-refusal w y r.ready') ∙ z)),
              )
              r
          at (yes e) =
              let here = after-board w x r.ready e wire-small ∙ ap (λ (s : Stepped). s.board)
              (step-wire (board_in x) i level x.saved) in
              let gone = after-board w y r.ready' (sym wire-same ∙ e) wire-small ∙ ap (λ (s : Stepped).
              s.board) (step-wire (board_in y) i level y.saved) in
              record {
                ready = ready-after w x r.ready wire-small;
                ready' = ready-after w y r.ready' wire-small;
                station = rw (here, gone) (files e).0;
                others = rw (here, gone) (files e).1;
                only = rw (here, gone) (wire-related r.only i (eqb level 1));
                targets = rw (here, gone) (targets-wire m.old_hart m.old_file m.new_hart m.new_file
                    accesses (board_in x).wired (board_in y).wired r.targets i (eqb level 1));
              }

    -- ---- a page write: one to new is the station's, and every other is to another file

    module _ (h f a v : ℕ) (not_old : is_old m h f ≡ false) where
      abbrev gone : Call
      gone = PageWrite (cond (is_new m h f) m.old_hart h) (cond (is_new m h f) m.old_file f) a v

      -- the write is one of these two
      page-cases : (P : Call → Call → Type 0)
          → P (PageWrite m.new_hart m.new_file a v) (PageWrite m.old_hart m.old_file a v)
          → (is_neither m h f ≡ true → P (PageWrite h f a v) (PageWrite h f a v)) → P (PageWrite h f a v) gone
      page-cases P new else =
          tested (is_new m h f)
          (λ t. let parts = new-parts m h f t in
          subst (λ (c : Call). P c gone) (sym (ap₂ (λ i j. PageWrite i j a v) parts.0 parts.1))
          (subst (λ (c : Call). P (PageWrite m.new_hart m.new_file a v) c)
          (sym (ap₂ (λ i j. PageWrite i j a v) (ap (λ (b : Bool). cond b m.old_hart h) t)
          (ap (λ (b : Bool). cond b m.old_file f) t))) new))
          (λ u. subst (λ (c : Call). P (PageWrite h f a v) c)
          (sym (ap₂ (λ i j. PageWrite i j a v) (ap (λ (b : Bool). cond b m.old_hart h) u)
          (ap (λ (b : Bool). cond b m.old_file f) u))) (else (rw (not_old, u) refl)))

      page-said : said_of (outcome_on (PageWrite h f a v) x) ≡ said_of (outcome_on gone y)
      page-said =
          page-cases (λ c c'. said_of (outcome_on c x) ≡ said_of (outcome_on c' y))
          (own-said (FileCall.page_write a v)) (on-said m g x y r.ready r.ready' r.others h f
          (FileCall.page_write a v))

      goes-page : Goes (after (PageWrite h f a v) x) (after gone y)
      goes-page =
          page-cases (λ c c'. Goes (after c x) (after c' y))
          (goes-own (FileCall.page_write a v) (unfold row_of in tt))
          (λ e. goes_other h f (FileCall.page_write a v) e (unfold row_of in tt))

  -- ---- every event

  abbrev Every : Call → Bool
  Every c = true

  pub record Goes_on (es : List Later) (x y : Lent) : Type 0 where
    pub goes : Goes (ran (then_here m es) x) (ran (then_there m es) y)
    pub said : said_where Every (handing (then_here m es) x) x.block
        ≡ said_where Every (handing (then_there m es) y) y.block

  one : (c c' : Call) (cs cs' : List Call) (x y : Lent) → said_of (outcome_on c x) ≡ said_of (outcome_on c' y)
      → said_where Every (handing cs (after c x)) (after c x).block
      ≡ said_where Every (handing cs' (after c' y)) (after c' y).block
      → said_where Every (handing (c ∷ cs) x) x.block ≡ said_where Every (handing (c' ∷ cs') y) y.block
  one c c' cs cs' x y e rest = said-cons m g Every c c' cs cs' x y refl (λ t. e) rest

  pub later-run : (es : List Later) (x y : Lent) → Goes x y → LaterKept m es → Goes_on es x y
  unfolding ran then_here then_there LaterKept
  later-run [] x y r k = record { goes = r; said = unfold handing said_where in refl }
  later-run (Later.wire i level ∷ es) x y r k =
      let rest = later-run es _ _ (goes-wire x y r i level) k in
      record {
        goes = rest.goes;
        said = one _ _ (then_here m es) (then_there m es) x y (wire-said x y r i level) rest.said;
      }
  later-run (Later.page h f a v ∷ es) x y r k =
      let rest = later-run es _ _ (goes-page x y r h f a v k.0) k.1 in
      record {
        goes = rest.goes;
        said = one _ _ (then_here m es) (then_there m es) x y (page-said x y r h f a v k.0) rest.said;
      }
  later-run (Later.own c ∷ es) x y r k =
      let rest = later-run es _ _ (goes-own x y r c k.0) k.1 in
      record {
        goes = rest.goes;
        said = one _ _ (then_here m es) (then_there m es) x y (own-said x y r c) rest.said;
      }
  later-run (Later.other h f c ∷ es) x y r k =
      let rest = later-run es _ _ (goes_other x y r h f c k.0 k.1) k.2 in
      record {
        goes = rest.goes;
        said = one _ _ (then_here m es) (then_there m es) x y
            (on-said m g x y r.ready r.ready' r.others h f c k.0) rest.said;
      }

  -- the end of the move is where it starts
  pub goes-start : (x y : Lent) → Beside m g accesses x y → Goes x y
  goes-start x y r =
      let moved = beside_end m g x y r in
      record {
        ready = r.ready;
        ready' = r.ready';
        station = moved.station;
        others = moved.others;
        only = r.middle.only;
        targets = r.middle.targets;
      }
