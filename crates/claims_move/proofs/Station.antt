-- Claims 104 to 110, 180, 181, 185 and 190, by the laws of runs and of the move. Assumes nothing.
use Prim.Native.Nat.{ℕ, ◌/◌, ◌<◌}
use mathlib.Core.Path.{◌≡◌, refl, sym, ap, ◌∙◌}
use mathlib.Core.Bool.{Bool, true, false, not, ◌&&◌, false≢true}
use mathlib.Core.List.{List}
use mathlib.Core.Logic.{◌≢◌, ◌↔◌}
use native.Mathlib.Omega.{arith}
use lib.Dec.{eqb}
use lib.ListN.{length}
use borrow.Author.Tests.{eq-eqb, eqb-true}
use Rattle.words.specs.Sets.{member}
use Rattle.words.proofs.TestsLaws.{tested, not_same}
use Rattle.file.specs.declared.File.{File}
use Rattle.file.specs.Top.{top_identity, top_of, claimed}
use Rattle.file_laws.proofs.TopEffects.{top-is, top_within, claimed-pending}
use Rattle.board_move_steps.specs.Steps.{accesses}
use Rattle.board_move_wired_laws.proofs.TargetNames.{number-names}
use Rattle.board_block.specs.Block.{board_of}
use Rattle.board_call.specs.declared.Call.{Call}
use Rattle.board_call.specs.declared.Call.TheVariants.{Wire, Register, Claim}
use Rattle.board_call.specs.Calls.{row_of}
use Rattle.board_call.specs.Outcome.{outcome}
use Rattle.board_runs.specs.Runs.{Made, left_by, Said, said_of, said_where, Lent, outcome_on, after, ran}
use Rattle.board_runs.specs.Handed.{is_access, HandedOn, Makes}
use Rattle.board_runs.specs.Ready.{board_in, Ready}
use Rattle.board_runs.specs.Reading.{only_reads, storing}
use Rattle.board_runs.proofs.RunsEffects.{ready-refusal, after-refused, after-board, after-saved, ready-after}
use Rattle.board_runs.proofs.ReadingEffects.{reads_word, word-reads, after_read, left-storing}
use Rattle.board_runs.proofs.MadeEffects.{Alike, made_alike, Follows}
use Rattle.move_laws.specs.Shift.{Stations, Event, with_move, without_move}
use Rattle.move_laws.specs.Premises.{Started, TwoGuests, ByMessages, NoneNamesNew, AllAccesses, PagesKept}
use Rattle.move_laws.specs.Premises.{CallsKept, Premises}
use Rattle.move_laws.specs.Moved.{old_number, new_number, old_in, new_in, Moved}
use Rattle.words.specs.Bits.{has_bit}
use Rattle.files.specs.Files.{the_file}
use Rattle.board_call.specs.Change.{signals_to}
use Rattle.move_laws.specs.After.{FileCall, Later, then_here, then_there, LaterKept}
use Rattle.move_laws.proofs.LaterEffects.{goes-start, later-run}
use Rattle.move_laws.proofs.LaterRuns.{follows-later}
use Rattle.board_call_laws.proofs.HartCallEffects.{signal-bit}
use Rattle.move_laws.proofs.Invariant.{new-lt, is-new, is-old}
use Rattle.move_laws.proofs.WatchEffects.{file-signals}
use Rattle.move_laws.proofs.BesideEffects.{Beside}
use Rattle.move_laws.proofs.ShiftEffects.{lent_from, moment, move-beside, move-keeps}
use Rattle.move_laws.proofs.AfterEffects.{said_same, file-same, claim-said, claim-left}
use Rattle.move_laws.proofs.AfterEffects.{same-signal}
use Rattle.move_laws.proofs.LeftEffects.{wire-leaves, move-leaves, move-held}
use Rattle.move_laws.proofs.EndEffects.{follows-here, follows-there, accesses-said, others-said}
use Rattle.claims_move.proofs.Premises.{file-other}
use Rattle.claims_move.proofs.Words.{targets-to}
use Rattle.claims_move.specs.Station.{Claim-104, Claim-105, Claim-106, Claim-107, Claim-108, Claim-109}
use Rattle.claims_move.specs.Station.{Claim-110, Claim-180, Claim-181, Claim-185}
use Rattle.claims_move.specs.Station.{Claim-190}

pub claim-104 : Claim-104
unfolding Claim-104
claim-104 c x ready small = (
  ready-refusal c x ready,
  (λ d. after-refused c x (λ q. d (sym (ready-refusal c x ready) ∙ q))),
  (λ e. (after-board c x ready e small, after-saved c x ready e small)),
  ready-after c x ready small,
)

-- ---- a call afterwards, with a log and saved numbers of its own

pub alike : (c : Call) → is_access c ≡ false → (x : Lent) → Ready x → (g t : List ℕ) → length g ≡ 63
    → Alike (outcome c x.block g t) (outcome_on c x)
alike c none x ready g t long =
    made_alike (record { call = c; log = g; saved = t }) x (long ∙ sym ready.full)
    (λ e. absurd (not_same _ e none))

-- ---- a shift with a move, and the same shift without it

module _ (m : Stations) (l s : List ℕ) (es : List Event) (ms ns : List Made) (started : Started l s)
    (guests : TwoGuests m) (messages : ByMessages l) (fresh : NoneNamesNew m l) (all : AllAccesses es)
    (pages : PagesKept m 0 es) (calls : CallsKept m es) (with : Makes (with_move m 0 es) ms)
    (handed : HandedOn s ms l) (without : Makes (without_move m es) ns)
  where
    premises : Premises m l s es
    premises =
        record {
          started = started;
          guests = guests;
          messages = messages;
          fresh = fresh;
          all = all;
          pages = pages;
          calls = calls;
        }

    abbrev here : Lent
    here = ran (with_move m 0 es) (lent_from l s)

    abbrev there : Lent
    there = ran (without_move m es) (lent_from l s)

    beside : Beside m guests accesses here there
    unfolding premises
    beside = move-beside m l s es premises

    follows-with : Follows (with_move m 0 es) ms (lent_from l s)
    follows-with = follows-here m l s es started calls ms with handed

    -- what both leave
    left_here : left_by ms l ≡ here.block
    left_here = follows-with.left

    left_there : left_by ns l ≡ there.block
    left_there = (follows-there m l s es started calls ns without).left

    moved : Moved m (board_in here) (board_in there)
    moved = move-keeps m l s es premises

    -- an identity of the one file is that of the other
    pending-same : (i : ℕ)
        → member (new_in m (board_in here)).pending i ≡ member (old_in m (board_in there)).pending i
    pending-same i = ap (λ (f : File). member f.pending i) moved.station

    abbrev top : ℕ
    top = top_of 255 (new_in m (board_in here))

    -- the identity that a claim answers is not pending after it
    claimed-gone : top ≢ 0 → member (claimed 255 (new_in m (board_in here))).pending (top / 65536) ≡ false
    claimed-gone n =
        let f = new_in m (board_in here) in
        let i = top_identity 255 f in
        let is = top-is 255 f in
        let some : i ≢ 0 = λ e. n (omega (arith, is)) in
        let low = top_within 255 f some in
        let named : top / 65536 ≡ i = omega (arith, is, low) in
        let long = (beside.ready.fit.files (new_number m) (new-lt m guests)).pending_long in
        ap (member (claimed 255 f).pending) named ∙ claimed-pending 255 f i low.0 (omega (arith, low))
        ∙ and-never (member f.pending i) (eqb i i) (eq-eqb i i refl)
      where
        and-never : (a b : Bool) → b ≡ true → (a && not b) ≡ false
        and-never true b e = rw e
        and-never false b e = refl

    -- a claim afterwards
    module _ (g g' t t' : List ℕ) (long : length g ≡ 63) (long' : length g' ≡ 63) where
      abbrev new : Call
      new = Claim m.new_hart m.new_file

      abbrev old : Call
      old = Claim m.old_hart m.old_file

      on-new : Alike (outcome new here.block g t) (outcome_on new here)
      on-new = alike new (unfold is_access row_of in refl) here beside.ready g t long

      on-old : Alike (outcome old there.block g' t') (outcome_on old there)
      on-old = alike old (unfold is_access row_of in refl) there beside.ready' g' t' long'

      abbrev answer : Said
      answer = record { number = 0; value = top; count = 0 }

      said-new : said_of (outcome new here.block g t) ≡ answer
      said-new = on-new.said ∙ claim-said m guests here beside.ready

      said-old : said_of (outcome old there.block g' t') ≡ answer
      said-old =
          on-old.said
          ∙ sym (said_same m guests here there beside.ready beside.ready' moved.station
          FileCall.claim) ∙ sym on-new.said ∙ said-new

      claims : let o = outcome new here.block g t in
          let o' = outcome old there.block g' t' in
          (o.number ≡ 0) × (o.value ≡ top) × (o.count ≡ 0)
          × (o'.number ≡ 0) × (o'.value ≡ top) × (o'.count ≡ 0)
          × (top ≢ 0 → member (new_in m (board_of o.block)).pending (top / 65536) ≡ false)
          × (new_in m (board_of o.block) ≡ old_in m (board_of o'.block))
      unfolding after
      claims = (
        ap (λ (s : Said). s.number) said-new,
        ap (λ (s : Said). s.value) said-new,
        ap (λ (s : Said). s.count) said-new,
        ap (λ (s : Said). s.number) said-old,
        ap (λ (s : Said). s.value) said-old,
        ap (λ (s : Said). s.count) said-old,
        (λ n. ap (λ (b : List ℕ). member (new_in m (board_of b)).pending (top / 65536)) on-new.block
            ∙ ap (λ (z : File). member z.pending (top / 65536)) (claim-left m guests here beside.ready)
            ∙ claimed-gone n),
        ap (λ (b : List ℕ). new_in m (board_of b)) on-new.block
            ∙ file-same m guests here there beside.ready beside.ready' moved.station FileCall.claim
            (unfold row_of in tt)
            ∙ ap (λ (b : List ℕ). old_in m (board_of b)) (sym on-old.block),
      )

    -- the rest of the shift
    module _ (more : List Later) (us vs : List Made) (kept : LaterKept m more)
        (on_new : Makes (then_here m more) us)
        (on_old : Makes (then_there m more) vs) where
      on : let b = board_of (left_by us here.block) in
          let b' = board_of (left_by vs there.block) in
          (said_where (λ c. true) us here.block ≡ said_where (λ c. true) vs there.block)
          × (new_in m b ≡ old_in m b')
          × ((k : ℕ) → k < 20 → k ≢ old_number m → k ≢ new_number m
          → the_file b.files k ≡ the_file b'.files k)
          × (has_bit (signals_to b m.new_hart 5) m.new_file
          ≡ has_bit (signals_to b' m.old_hart 5) m.old_file)
      on =
          let start = goes-start m guests here there beside in
          let f = follows-later m guests more kept us vs here there start on_new on_old in
          let r = later-run m guests more here there start kept in
          let same = r.goes.station in
          rw (f.0.left, f.1.left) (
            f.0.said (λ c. true) ∙ r.said ∙ sym (f.1.said (λ c. true)),
            same,
            r.goes.others,
            same-signal m guests _ _ same,
          )

    -- a wire afterwards
    wires : (i level : ℕ) (g t : List ℕ) → length g ≡ 63
        → old_in m (board_of (outcome (Wire i level) here.block g t).block) ≡ old_in m (board_in here)
    unfolding after
    wires i level g t long =
        ap (λ (b : List ℕ). old_in m (board_of b))
        (alike (Wire i level) (unfold is_access row_of in refl) here beside.ready g t long).block
        ∙ wire-leaves m guests here beside.ready (move-leaves m l s es premises) i level

pub claim-105 : Claim-105
unfolding Claim-105
claim-105 m l s es ms ns a b c d e f g h i j =
    let r = moved m l s es ms ns a b c d e f g h i j in
    rw (left_here m l s es ms ns a b c d e f g h i j, left_there m l s es ms ns a b c d e f g h i j) (
      r.station,
      r.others,
      r.wires,
      r.pending,
      r.enable,
      r.machine,
      r.sources,
      r.structures,
      r.genmsi,
      (λ k u v. targets-to m _ _ (r.targets k u v)),
    )

pub claim-106 : Claim-106
unfolding Claim-106
claim-106 m l s es ms ns a b c d e f g h i j =
    accesses-said m l s es ms ns (premises m l s es ms ns a b c d e f g h i j) h j i

pub claim-107 : Claim-107
unfolding Claim-107
claim-107 m l s es ms ns a b c d e f g h i j =
    rw (left_here m l s es ms ns a b c d e f g h i j, left_there m l s es ms ns a b c d e f g h i j)
    (λ k q. pending-same m l s es ms ns a b c d e f g h i j k ∙ q)

pub claim-108 : Claim-108
unfolding Claim-108
claim-108 m l s es ms ns a b c d e f g h i j =
    rw (left_here m l s es ms ns a b c d e f g h i j, left_there m l s es ms ns a b c d e f g h i j) (
      (λ k q. sym (pending-same m l s es ms ns a b c d e f g h i j k) ∙ q),
      claims m l s es ms ns a b c d e f g h i j,
    )

pub claim-109 : Claim-109
unfolding Claim-109
claim-109 m l s es ms ns a b c d e f g h i j =
    rw (left_here m l s es ms ns a b c d e f g h i j, left_there m l s es ms ns a b c d e f g h i j)
    (λ k u o n q. ap (λ (z : File). member z.pending q)
    ((moved m l s es ms ns a b c d e f g h i j).others k u o n))

pub claim-110 : Claim-110
unfolding Claim-110
claim-110 m l s es ms ns a b c d e f g h i j =
    rw (left_here m l s es ms ns a b c d e f g h i j, left_there m l s es ms ns a b c d e f g h i j)
    (on m l s es ms ns a b c d e f g h i j)

pub claim-185 : Claim-185
unfolding Claim-185
claim-185 m l s es ms ns a b c d e f g h i j =
    others-said m l s es ms ns (premises m l s es ms ns a b c d e f g h i j) h j i

-- ---- at any moment of the move

pub claim-190 : Claim-190
unfolding Claim-190
claim-190 m l s es ms ns started guests messages fresh few pages calls with handed without =
    let x = ran (with_move m 0 es) (lent_from l s) in
    let y = ran (without_move m es) (lent_from l s) in
    let r = moment m l s es started guests messages fresh few pages calls in
    let only = r.middle.only in
    rw (
      (follows-here m l s es started calls ms with handed).left,
      (follows-there m l s es started calls ns without).left,
    ) (
      r.middle.files.others,
      only.wires,
      only.machine,
      only.pending,
      only.enable,
      (λ h f there low o n. signal-bit (board_in x) h 5 f low
          ∙ file-signals m guests _ x y r h f there low
          (λ q. not_same _ (is-old m guests h f low q) (file-other h f m.old_hart m.old_file o))
          (λ q. not_same _ (is-new m guests h f low q) (file-other h f m.new_hart m.new_file n))
          ∙ sym (signal-bit (board_in y) h 5 f low)),
    )

pub claim-180 : Claim-180
unfolding Claim-180
claim-180 m l s es ms ns a b c d e f g h i j =
    let p = premises m l s es ms ns a b c d e f g h i j in
    let left = move-leaves m l s es p in
    let held = move-held m l s es p in
    let kept = (follows-with m l s es ms ns a b c d e f g h i j).saved in
    rw (left_here m l s es ms ns a b c d e f g h i j, kept) (
      left.silent,
      left.signal,
      (λ k u v x y. not_same _ (number-names _ m.old_hart m.old_file x y) (left.unnamed k u v)),
      wires m l s es ms ns a b c d e f g h i j,
      held.pending,
      held.enable,
      held.kept,
      held.enables,
      held.threshold,
    )

-- ---- what only reads

reads-kind : (h f k s v : ℕ) → (only_reads (Register h f k s v) ≡ true) ↔ (k ≡ 0)
unfolding only_reads row_of
reads-kind h f k s v = (
  (λ e. tested (eqb k 0) (eqb-true k 0) (λ n. absurd (false≢true (rw n at e)))),
  (λ e. rw (eq-eqb k 0 e) refl),
)

pub claim-181 : Claim-181
unfolding Claim-181 only_reads storing after row_of
claim-181 = (
  (λ a d f h k level n nf nh of oh s v w. (
    refl,
    refl,
    refl,
    reads-kind h f k s v,
    (word-reads d a, reads_word d a),
    refl,
    refl,
    refl,
    refl,
    refl,
    refl,
  )),
  (λ c l g s r. let e = after_read c (record { block = l; log = g; saved = s }) r in (
    ap (λ (x : Lent). x.block) e,
    ap (λ (x : Lent). x.log) e,
    ap (λ (x : Lent). x.saved) e,
  )),
  refl,
  (λ m ms. ((λ t. rw t refl), (λ f. rw f refl))),
  left-storing,
  (λ ms us l e. left-storing ms l ∙ ap (λ (vs : List Made). left_by vs l) e ∙ sym (left-storing us l)),
)
